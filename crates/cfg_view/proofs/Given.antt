-- The entry is among the words that lead.
use Rattle.std.proofs.Common.{◌≡◌, ℕ, ◌<◌, Bool, true, false, ◌||◌, cond, List, [], ◌∷◌, length, map, refl, ap, sym, ◌∙◌, arith}
use Rattle.std.specs.Prelude.{◌==◌}
use Rattle.std.specs.List.{filter, range_with_len}
use Rattle.std.proofs.lemmas.Bool.{eq-eqb, eqb-true, false≢true, or_left, or_right}
use Rattle.std.proofs.lemmas.List.Folds.{list_any-append, list_any_at}
use Rattle.std.proofs.lemmas.List.FromFn.{get_or-range_with_len, length-range_with_len}
use Rattle.elf32_sparc.specs.Image.{Program}
use Rattle.routines.specs.Routines.{is_function, is_called, is_start, numbers_of, routine_at, routines_of}
use Rattle.cfg_blocks.specs.Blocks.{is_among}
use Rattle.cfg_view.specs.View.{given_in, marks_in, starts_of}

-- a word of these at which a routine starts
started : (program : Program) (word : ℕ) → is_start program word ≡ true → (words : List ℕ)
    → is_among words word ≡ true
    → is_among (starts_of (map (routine_at program) (filter (is_start program) words))) word ≡ true
started program word is [] among = among
started program word is (x ∷ words) among =
    by (is_start program x) refl (x == word) refl among (started program word is words)
  where
    by : (s : Bool) → is_start program x ≡ s → (t : Bool) → (x == word) ≡ t → (t || is_among words word) ≡ true
        → (is_among words word ≡ true
        → is_among (starts_of (map (routine_at program) (filter (is_start program) words))) word ≡ true)
        → is_among (starts_of (map (routine_at program)
        (cond s (x ∷ filter (is_start program) words) (filter (is_start program) words)))) word ≡ true
    by true e t f h rest = first t f h
      where
        first : (t : Bool) → (x == word) ≡ t → (t || is_among words word) ≡ true
            → ((x == word) || is_among (starts_of (map (routine_at program) (filter (is_start program) words))) word)
            ≡ true
        first true f h = or_left _ _ f
        first false f h = or_right _ _ (rest h)
    by false e true f h rest =
        absurd (false≢true (sym e ∙ ap (is_start program) (eqb-true x word f) ∙ is))
    by false e false f h rest = rest h

pub numbered : (word count : ℕ) → word < count → is_among (range_with_len 0 count) word ≡ true
numbered word count l =
    let size = length-range_with_len 0 count in
    list_any_at (λ x. x == word) (range_with_len 0 count) word 0 (omega (arith, size, l))
    (eq-eqb _ word (get_or-range_with_len 0 count word 0 l ∙ omega arith))

pub entry_leads : (program : Program) (marks : List ℕ) → program.entry < length program.text.words
    → is_among (given_in program marks) program.entry ≡ true
unfolding routines_of
entry_leads program marks l =
    list_any-append (λ other. other == program.entry)
    (starts_of (map (routine_at program) (filter (is_start program) (numbers_of program.text))))
    (marks_in program.text marks)
    ∙ or_left _ _ (started program program.entry
    (or_left _ (is_called program.text program.entry)
    (or_left _ (is_function program.funcs program.entry) (eq-eqb program.entry program.entry refl)))
    (numbers_of program.text) (numbered program.entry (length program.text.words) l))
