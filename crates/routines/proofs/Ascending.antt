-- Entries in the order of their keys.
use Rattle.std.proofs.Common.{◌≡◌, ℕ, zero, suc, ◌+◌, ◌<◌, ◌≤◌, Bool, true, false, cond, nat_eq, List, [], ◌∷◌, map, filter, Some, None, inl, inr, refl, ap, sym, ◌∙◌, arith}
use Rattle.std.specs.List.{range_with_len, AllByRecursion, IsDistinct}
use Rattle.std.specs.List.Sorted.{IsSorted, IsStrictlySortedBy}
use Rattle.std.specs.Map.{keys_of, lookup}
use Rattle.std.specs.Ordering.{nat_cmp}
use Rattle.std.specs.declared.cmp.Ordering.TheVariants.{Less}
use Rattle.std.proofs.lemmas.Bool.{cases_lt, cases_order, eq-eqb, ne_eqb}
use Rattle.std.proofs.lemmas.Bool.Decides.{nat_tests}
use Rattle.std.proofs.lemmas.List.Sorted.{IsNonDecreasingBy-from_sort}
use Rattle.std.proofs.lemmas.Map.Entries.{lookup_head, lookup_tail}
use Rattle.std.proofs.lemmas.Map.Keys.{IsStrictlyIncreasing-from_distinct, sorted_from_strictly_increasing, sorted_head, sorted_tail}
use Rattle.routines.specs.declared.Routine.{Routine}
use Rattle.routines.specs.Starts.{name_where, routine_of}

-- keys that were sorted and differ ascend
pub ascending : (keys : List ℕ) → IsSorted nat_cmp keys → IsDistinct nat_eq keys
    → IsStrictlySortedBy nat_cmp keys
ascending keys sorted distinct =
    sorted_from_strictly_increasing keys (IsStrictlyIncreasing-from_distinct keys
    (IsNonDecreasingBy-from_sort (λ (key : ℕ). key) keys sorted) distinct)

above : (a b : ℕ) → nat_cmp a b ≡ Less → a < b
above a b less = grind (arith, nat_tests)

-- no key above the first is at most the first
none_up_to : (first word : ℕ) → word ≤ first → (es : List (ℕ × List ℕ))
    → AllByRecursion (λ key. nat_cmp first key ≡ Less) (keys_of es) → lookup (nat_eq word) es ≡ None
none_up_to first word within [] later = refl
none_up_to first word within (e ∷ es) later =
    lookup_tail (nat_eq word) e es (ne_eqb word e.0 (λ same. absurd (omega (arith, above first e.0 later.0))))
    ∙ none_up_to first word within es later.1

-- what a list of entries with ascending keys has from `low` on, where it has nothing before
pub record Holds (is_start : ℕ → Bool) (name : ℕ → List ℕ) (low : ℕ) (es : List (ℕ × List ℕ)) : Type 0 where
  pub ascends : IsStrictlySortedBy nat_cmp (keys_of es)
  pub before : (word : ℕ) → word < low → lookup (nat_eq word) es ≡ None
  pub from : (word : ℕ) → low ≤ word → lookup (nat_eq word) es ≡ name_where (is_start word) (name word)

pub not_start : (is_start : Bool) (name : List ℕ) → name_where is_start name ≡ None → is_start ≡ false
not_start true name none = cc
not_start false name none = refl

module _ (is_start : ℕ → Bool) (name : ℕ → List ℕ) where
  -- the word at `low` isn't a start
  skipped : (low : ℕ) (es : List (ℕ × List ℕ)) → is_start low ≡ false → Holds is_start name low es
      → Holds is_start name (low + 1) es
  skipped low es skips h = record {
    ascends = h.ascends;
    before = λ word below. elim (cases_order word low) [
      | inl same ↦ rw same (h.from low (omega arith) ∙ ap (λ b. name_where b (name low)) skips)
      | inr other ↦ h.before word (omega arith)
    ];
    from = λ word within. h.from word (omega arith);
  }

  -- the first key isn't before `low`, and where `low` is a start it isn't after it
  first_key : (low : ℕ) (e : ℕ × List ℕ) (es : List (ℕ × List ℕ)) → is_start low ≡ true
      → Holds is_start name low (e ∷ es) → e.0 ≡ low
  first_key low e es starts h =
      let here : lookup (nat_eq low) (e ∷ es) ≡ Some (name low) =
      h.from low (omega arith) ∙ ap (λ b. name_where b (name low)) starts in
      let itself : lookup (nat_eq e.0) (e ∷ es) ≡ Some e.1 =
      lookup_head (nat_eq e.0) e es (eq-eqb e.0 e.0 refl) in
      elim (cases_order e.0 low) [
        | inl same ↦ same
        | inr (inl below) ↦ let none = h.before e.0 below in absurd cc
        | inr (inr above) ↦
            let none : lookup (nat_eq low) (e ∷ es) ≡ None =
            lookup_tail (nat_eq low) e es (ne_eqb low e.0 (λ same. absurd (omega arith)))
            ∙ none_up_to e.0 low (omega arith) es (sorted_head nat_cmp e.0 (keys_of es) h.ascends) in
            absurd cc
      ]

  first_name_is : (low : ℕ) (e : ℕ × List ℕ) (es : List (ℕ × List ℕ)) → is_start low ≡ true
      → Holds is_start name low (e ∷ es) → e.0 ≡ low → e.1 ≡ name low
  first_name_is low e es starts h same =
      let here : lookup (nat_eq low) (e ∷ es) ≡ Some (name low) =
      h.from low (omega arith) ∙ ap (λ b. name_where b (name low)) starts in
      let itself : lookup (nat_eq low) (e ∷ es) ≡ Some e.1 =
      lookup_head (nat_eq low) e es (eq-eqb low e.0 (sym same)) in
      cc

  -- the entries after that of `low`
  taken : (low : ℕ) (e : ℕ × List ℕ) (es : List (ℕ × List ℕ)) → e.0 ≡ low
      → Holds is_start name low (e ∷ es) → Holds is_start name (low + 1) es
  taken low e es same h = record {
    ascends = sorted_tail nat_cmp e.0 (keys_of es) h.ascends;
    before = λ word below.
        none_up_to e.0 word (omega arith) es (sorted_head nat_cmp e.0 (keys_of es) h.ascends);
    from = λ word within.
        sym (lookup_tail (nat_eq word) e es (ne_eqb word e.0 (λ here. absurd (omega arith))))
        ∙ h.from word (omega arith);
  }

  abbrev pub routines_at : List ℕ → List Routine
  routines_at words = map (λ word. routine_of (word, name word)) words

  -- one word more, where `later` are the starts after it
  held_more : (low : ℕ) (later : List ℕ)
      → ((es : List (ℕ × List ℕ)) → Holds is_start name (low + 1) es → map routine_of es ≡ routines_at later)
      → (b : Bool) → is_start low ≡ b → (es : List (ℕ × List ℕ)) → Holds is_start name low es
      → map routine_of es ≡ routines_at (cond b (low ∷ later) later)
  held_more low later rest false skips es h = rest es (skipped low es skips h)
  held_more low later rest true starts [] h =
      let some : None ≡ Some (name low) =
      h.from low (omega arith) ∙ ap (λ b. name_where b (name low)) starts in
      absurd cc
  held_more low later rest true starts (e ∷ es) h =
      let key : e.0 ≡ low = first_key low e es starts h in
      let value : e.1 ≡ name low = first_name_is low e es starts h key in
      rw (key, value)
      (ap (λ routines. routine_of (low, name low) ∷ routines) (rest es (taken low e es key h)))

  -- their routines are those of the starts
  pub held : (count low : ℕ) (es : List (ℕ × List ℕ))
      → ((word : ℕ) → low + count ≤ word → is_start word ≡ false) → Holds is_start name low es
      → map routine_of es ≡ routines_at (filter is_start (range_with_len low count))
  held zero low [] past h = refl
  held zero low (e ∷ es) past h =
      let itself : lookup (nat_eq e.0) (e ∷ es) ≡ Some e.1 =
      lookup_head (nat_eq e.0) e es (eq-eqb e.0 e.0 refl) in
      elim (cases_lt e.0 low) [
        | inl below ↦ let none = h.before e.0 below in absurd cc
        | inr within ↦
            let none : lookup (nat_eq e.0) (e ∷ es) ≡ None =
            h.from e.0 within ∙ ap (λ b. name_where b (name e.0)) (past e.0 (omega arith)) in
            absurd cc
      ]
  held (suc count) low es past h =
      held_more low (filter is_start (range_with_len (low + 1) count))
      (λ later. held count (low + 1) later (λ word within. past word (omega arith))) (is_start low) refl es h
