-- Names of starts, added one after the other.
use Rattle.std.proofs.Common.{◌≡◌, ℕ, zero, suc, ◌+◌, Bool, true, false, ◌==◌, cond, ◌||◌, List, [], ◌∷◌, ◌++◌, Option, Some, None, refl, ap, sym, ◌∙◌, arith, add-one}
use Rattle.std.specs.List.{list_any, range_with_len}
use Rattle.std.specs.Option.{option_or}
use Rattle.std.proofs.lemmas.Bool.{or_parts}
use Rattle.std.proofs.lemmas.Bool.Decides.{nat_tests}
use Rattle.eel_base.specs.CodeText.{Words}
use Rattle.elf32_sparc.specs.declared.sections.Func.{Func}
use Rattle.elf32_sparc.specs.Image.{Program}
use Rattle.routines.specs.Routines.{called_at, is_called, is_function, leads_to, name_at}
use Rattle.routines.specs.Starts.{first_name, name_where, start_name}

-- one function symbol more
pub first_name_more : (funcs : List Func) (func : Func) (word : ℕ)
    → first_name (funcs ++ func ∷ []) word
    ≡ option_or (first_name funcs word) (name_where (func.start.0 == word) func.name)
first_name_more [] func word =
    elim (func.start.0 == word) as (λ b. cond b (Some func.name) None ≡ name_where b func.name) [
      | true ↦ refl
      | false ↦ refl
    ]
first_name_more (first ∷ funcs) func word =
    elim (first.start.0 == word) as (λ b. cond b (Some first.name) (first_name (funcs ++ func ∷ []) word)
    ≡ option_or (cond b (Some first.name) (first_name funcs word))
    (name_where (func.start.0 == word) func.name)) [
      | true ↦ refl
      | false ↦ first_name_more funcs func word
    ]

or-false : (b : Bool) → (b || false) ≡ b
or-false true = refl
or-false false = refl

or-assoc : (x y z : Bool) → (x || (y || z)) ≡ ((x || y) || z)
or-assoc true y z = refl
or-assoc false y z = refl

any_more : (test : ℕ → Bool) (low n : ℕ)
    → list_any test (range_with_len low (suc n)) ≡ (list_any test (range_with_len low n) || test (low + n))
any_more test low zero = or-false (test low) ∙ ap test (omega arith)
any_more test low (suc n) =
    let later : list_any test (range_with_len (low + 1) (suc n))
    ≡ (list_any test (range_with_len (low + 1) n) || test (low + suc n)) =
    any_more test (low + 1) n
    ∙ ap (λ last. list_any test (range_with_len (low + 1) n) || test last) (omega arith) in
    ap (λ b. test low || b) later ∙ or-assoc (test low) _ _

unnamed_twice : (name : Option (List ℕ)) (b c : Bool)
    → option_or (option_or name (name_where b [])) (name_where c []) ≡ option_or name (name_where (b || c) [])
unnamed_twice (Some name) b c = refl
unnamed_twice None true c = refl
unnamed_twice None false c = refl

-- one turn of the loop over the words
pub called_more : (text : Words) (count word : ℕ) (initial was now : Option (List ℕ))
    → was ≡ option_or initial (name_where
    (list_any (λ other. leads_to word (called_at text other)) (range_with_len 0 count)) [])
    → now ≡ option_or was (name_where (leads_to word (called_at text count)) [])
    → now ≡ option_or initial (name_where
    (list_any (λ other. leads_to word (called_at text other)) (range_with_len 0 (count + 1))) [])
called_more text count word initial was now so_far step =
    let test : ℕ → Bool = λ other. leads_to word (called_at text other) in
    let more : list_any test (range_with_len 0 (suc count))
    ≡ (list_any test (range_with_len 0 count) || test count) =
    any_more test 0 count ∙ ap (λ last. list_any test (range_with_len 0 count) || test last) (omega arith) in
    rw add-one (step ∙ ap (λ name. option_or name (name_where (test count) [])) so_far
    ∙ unnamed_twice initial (list_any test (range_with_len 0 count)) (test count)
    ∙ ap (λ b. option_or initial (name_where b [])) (sym more))

eqb-sym : (a b : ℕ) → (a == b) ≡ (b == a)
eqb-sym a b = grind (arith, nat_tests)

-- ---- from the names in the order in which they are added to the definition

first_name_is : (funcs : List Func) (word : ℕ)
    → first_name funcs word ≡ name_where (is_function funcs word) (name_at funcs word)
first_name_is [] word = refl
first_name_is (func ∷ funcs) word =
    elim (func.start.0 == word) as (λ b. cond b (Some func.name) (first_name funcs word)
    ≡ name_where (b || is_function funcs word) (cond b func.name (name_at funcs word))) [
      | true ↦ refl
      | false ↦ first_name_is funcs word
    ]

name_at_none : (funcs : List Func) (word : ℕ) → is_function funcs word ≡ false → name_at funcs word ≡ []
name_at_none [] word none = refl
name_at_none (func ∷ funcs) word none =
    let parts : ((func.start.0 == word) ≡ false) × (is_function funcs word ≡ false) =
    or_parts (func.start.0 == word) (is_function funcs word) none in
    rw parts.0 (name_at_none funcs word parts.1)

one_of_three : (is_entry is_named is_called : Bool) (name : List ℕ) → (is_named ≡ false → name ≡ [])
    → option_or (option_or (name_where is_named name) (name_where is_entry [])) (name_where is_called [])
    ≡ name_where (is_entry || is_named || is_called) name
one_of_three true true is_called name unnamed = refl
one_of_three false true is_called name unnamed = refl
one_of_three true false is_called name unnamed = ap Some (sym (unnamed refl))
one_of_three false false true name unnamed = ap Some (sym (unnamed refl))
one_of_three false false false name unnamed = refl

pub start_name_is : (program : Program) (word : ℕ)
    → option_or (option_or (first_name program.funcs word) (name_where (program.entry == word) []))
    (name_where (is_called program.text word) [])
    ≡ start_name program word
unfolding start_name
start_name_is program word =
    rw (first_name_is program.funcs word, eqb-sym program.entry word)
    (one_of_three (word == program.entry) (is_function program.funcs word) (is_called program.text word)
    (name_at program.funcs word) (name_at_none program.funcs word))
