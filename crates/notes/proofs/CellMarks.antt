-- Cells as words, and their marks.
use Rattle.notes.proofs.Common.{◌≡◌, ℕ, ◌+◌, ◌%◌, ◌<◌, ◌≤◌, ◌^◌, inl, inr, Bool, true, false, not, ◌&&◌, ◌||◌, ◌==◌, List, [], ◌∷◌, length, replicate, Option, Some, None, refl, ap, sym, ◌∙◌, arith, nat_le, get_or, list_any, and_parts, eq-eqb, ne_eqb, eqb-true, leb-true, cases_eq, cond_both, get_or-set_same, get_or-set_other, get_or-replicate, length-set, length-replicate, no_cell, cell_of, counter_width, is_cell, is_counter, most_cells, is_open, with_mark, cell_word}

-- The marks are those of the cells in the list.
abbrev pub AreMarks : List Bool → List ℕ → Type 0
AreMarks marks taken = (cell : ℕ) → cell < length marks → get_or marks cell false ≡ list_any (λ other. other == cell) taken

-- a cell's word gives the cell, and the cell the word
pub cell_word-of : (word : ℕ) → cell_word (cell_of word) ≡ word
cell_word-of word = cond_both (word == no_cell) None (Some word) (λ cell. cell_word cell ≡ word) (λ is. sym (eqb-true word no_cell is)) (λ _. refl)

-- a counter has a cell
pub has_width : (version : ℕ) → 0 < counter_width version
has_width version = cond_both (version == 1) 1 2 (λ width. 0 < width) (λ _. omega arith) (λ _. omega arith)

-- the greater limit on cells
pub few_cells : (version cells : ℕ) → cells ≤ most_cells version → cells ≤ 2 ^ 23
few_cells version cells =
    cond_both (version == 1) (2 ^ 22) (2 ^ 23) (λ most. cells ≤ most → cells ≤ 2 ^ 23) (λ _ few. omega arith) (λ _ few. few)

-- the first cell of a counter is one of the cells
pub counter_below : (width cells cell : ℕ) → 0 < width → is_counter width cells cell ≡ true → cell < cells
counter_below width cells cell wide is =
    let parts = and_parts (cell % width == 0) (nat_le (cell + width) cells) is in
    let inside = leb-true (cell + width) cells parts.1 in
    omega arith

same_and : (b x y : Bool) → (b ≡ true → x ≡ y) → (b && not x) ≡ (b && not y)
same_and true x y same = ap not (same refl)
same_and false x y same = refl

pub open_cell : (width cells : ℕ) (marks : List Bool) (taken : List ℕ) → 0 < width → length marks ≡ cells → AreMarks marks taken
    → (word : ℕ) → is_open width marks word ≡ is_cell width cells taken word
open_cell width cells marks taken wide size marked word =
    ap (λ rest. (word == no_cell) || rest)
    (same_and (is_counter width (length marks) word) (get_or marks word false) (list_any (λ cell. cell == word) taken)
    (λ is. marked word (counter_below width (length marks) word wide is))
    ∙ ap (λ (n : ℕ). is_counter width n word && not (list_any (λ cell. cell == word) taken)) size)

pub none_marked : (cells : ℕ) → AreMarks (replicate cells false) []
none_marked cells cell below =
    let size = length-replicate cells false in
    get_or-replicate cells cell false false (omega arith)

pub marks_long : (cell : Option ℕ) (marks : List Bool) → length (with_mark cell marks) ≡ length marks
marks_long None marks = refl
marks_long (Some cell) marks = length-set marks cell true

pub marked_more : (cell : Option ℕ) (marks : List Bool) (taken : List ℕ) → length marks ≤ 2 ^ 23 → AreMarks marks taken → AreMarks (with_mark cell marks) (cell_word cell ∷ taken)
marked_more None marks taken few marked other below =
    rw (ne_eqb no_cell other (λ is. absurd (omega arith))) (marked other below)
marked_more (Some cell) marks taken few marked other below =
    let size = length-set marks cell true in
    elim (cases_eq other cell) [
      | inl same ↦ rw (same, eq-eqb cell cell refl) (get_or-set_same marks cell true false (omega arith))
      | inr differ ↦ rw (ne_eqb cell other (λ is. differ (sym is)), get_or-set_other marks cell other true false differ) (marked other (omega arith))
    ]
