-- Where every word is marked, each leads.
use Rattle.std.proofs.Common.{◌≡◌, ℕ, Bool, true, false, ◌||◌, cond, List, [], ◌∷◌, length, map, refl, ap, sym, ◌∙◌, subst}
use Rattle.std.specs.Prelude.{◌==◌, nat_lt}
use Rattle.std.specs.List.{filter}
use Rattle.std.proofs.lemmas.Bool.{eqb-true, lt-ltb, or_left, or_right, true≢false}
use Rattle.std.proofs.lemmas.List.Folds.{list_any-append}
use Rattle.elf32_sparc.specs.Image.{image_of}
use Rattle.routines.specs.Routines.{routines_of}
use Rattle.cfg_blocks.specs.Blocks.{is_among}
use Rattle.cfg_blocks.specs.Marks.{numbers}
use Rattle.cfg_view.specs.View.{given_in, marks_in, starts_of}
use Rattle.cfg_view.proofs.Given.{numbered}
use Rattle.instr_counts.specs.Laws.{HasEach}
use Rattle.eel_reports.specs.Answers.Every.{every_word}
use Rattle.eel_reports.specs.Private.{word_numbered}

-- words by their numbers have these
pub numbers_of_words : (words : List ℕ) → numbers (map word_numbered words) ≡ words
numbers_of_words [] = refl
numbers_of_words (word ∷ words) = ap (λ rest. word ∷ rest) (numbers_of_words words)

filter_keeps : (p : ℕ → Bool) (word : ℕ) → p word ≡ true → (words : List ℕ) → is_among words word ≡ true
    → is_among (filter p words) word ≡ true
filter_keeps p word passes [] among = among
filter_keeps p word passes (x ∷ words) among = by (x == word) refl (p x) refl among (filter_keeps p word passes words)
  where
    by : (same : Bool) → (x == word) ≡ same → (kept : Bool) → p x ≡ kept → (same || is_among words word) ≡ true
        → (is_among words word ≡ true → is_among (filter p words) word ≡ true)
        → is_among (cond kept (x ∷ filter p words) (filter p words)) word ≡ true
    by true is true keeps here rest = or_left (x == word) (is_among (filter p words) word) is
    by true is false keeps here rest = absurd (true≢false (sym passes ∙ ap p (sym (eqb-true x word is)) ∙ keeps))
    by false is true keeps here rest = or_right (x == word) (is_among (filter p words) word) (rest here)
    by false is false keeps here rest = rest here

each_leads : (original : List ℕ)
    → HasEach (image_of original).text (given_in (image_of original) (every_word original))
each_leads original word l =
    let text = (image_of original).text in
    list_any-append (λ other. other == word) (starts_of (routines_of (image_of original)))
    (marks_in text (every_word original))
    ∙ or_right (is_among (starts_of (routines_of (image_of original))) word) (is_among (marks_in text (every_word original)) word)
    (filter_keeps (λ mark. nat_lt mark (length text.words)) word (lt-ltb word (length text.words) l) (every_word original)
    (numbered word (length text.words) l))

pub leads_marked : (original marks : List ℕ) → marks ≡ every_word original
    → HasEach (image_of original).text (given_in (image_of original) marks)
leads_marked original marks is =
    subst (λ (m : List ℕ). HasEach (image_of original).text (given_in (image_of original) m)) (sym is) (each_leads original)
