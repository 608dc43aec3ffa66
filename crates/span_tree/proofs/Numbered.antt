-- Cells that are given in the order of the counted edges.
use Rattle.span_tree.proofs.Common.{◌≡◌, ℕ, zero, suc, ◌<◌, ◌≤◌, inl, inr, Bool, true, cond, List, length, map, refl, ap, sym, ◌∙◌, subst, arith, Option, Some, None, IfSome, unwrap_or, cases_lt, false≢true, get_or-map, get_or_past, length-map, EdgeSet, count_below, marked, below, get_or-below, length-below, AreNumbered, cell_at, cell_count, cell_of, has_cell}
use Rattle.std.specs.Option.{is_some}
use mir.Val.{bool_byte}

-- the cells of the first edges
abbrev pub cells_below : EdgeSet → ℕ → List (Option ℕ)
cells_below counted n = map (cell_of counted) (below n)

abbrev pub one : Bool → ℕ
one c = cond c 1 0

pub byte_is : (c : Bool) → bool_byte c ≡ one c
byte_is c = grind arith

pub one_most : (c : Bool) → one c ≤ 1
one_most c = grind arith

module _ (marks : List Bool) where
  abbrev cells : List (Option ℕ)
  cells = cells_below (marked marks) (length marks)

  length_is : length cells ≡ length marks
  length_is = length-map (below (length marks)) (cell_of (marked marks)) ∙ length-below (length marks)

  some_is : (c : Bool) (n : ℕ) → is_some (cond c (Some n) None) ≡ c
  some_is c n = grind arith

  cell_is : (e : ℕ) → cell_at cells e ≡ cell_of (marked marks) e
  cell_is e =
      let at = get_or-below (length marks) e 0 in
      let past = get_or_past cells e None in
      grind (arith, at, past, length_is, get_or-map, length-below, get_or_past)

  same : has_cell cells ≡ marked marks
  same = λ i e. (ap is_some (cell_is e) ∙ some_is (marked marks e) (count_below e (marked marks))) i

  numbered : AreNumbered cells
  numbered e = cell_is e ∙ ap (λ (s : EdgeSet). cell_of s e) (sym same)

-- as the code meets these facts
module _ (marks : List Bool) (given : List (Option ℕ)) (n : ℕ) (all : n ≡ length marks)
    (is : given ≡ cells_below (marked marks) n) where
  whole : given ≡ cells_below (marked marks) (length marks)
  whole = is ∙ ap (cells_below (marked marks)) all

  pub length_given : length given ≡ length marks
  length_given = ap length whole ∙ length_is marks

  pub same_given : has_cell given ≡ marked marks
  same_given = ap has_cell whole ∙ same marks

  pub numbered_given : AreNumbered given
  numbered_given = subst AreNumbered (sym whole) (numbered marks)

  pub count_given : (count : ℕ) → count ≡ count_below n (marked marks) → count ≡ cell_count given
  count_given count e = rw (length_given, same_given, ← all) e

-- ---- a cell is below their number

pub count_grows : (s : EdgeSet) (e n : ℕ) → e < n → s e ≡ true → count_below e s < count_below n s
count_grows s e zero l t = absurd (omega (arith, l))
count_grows s e (suc n) l t = let before = count_grows s e n in grind (arith, before)

pub cell_within : (cells : List (Option ℕ)) (e : ℕ) → AreNumbered cells
    → IfSome (cell_at cells e) (λ cell. cell < cell_count cells)
cell_within cells e h = by (cell_at cells e) refl
  where
    inside : is_some (cell_at cells e) ≡ true → e < length cells
    inside some = elim (cases_lt e (length cells)) [
      | inl l ↦ l
      | inr l ↦ absurd (false≢true (sym (ap is_some (get_or_past cells e None l)) ∙ some))
    ]

    by : (o : Option ℕ) → cell_at cells e ≡ o → IfSome o (λ cell. cell < cell_count cells)
    by None is = tt
    by (Some cell) is =
        let some : has_cell cells e ≡ true = ap is_some is in
        let here : Some cell ≡ Some (count_below e (has_cell cells)) =
        sym is ∙ h e ∙ ap (λ (c : Bool). cond c (Some (count_below e (has_cell cells))) None) some in
        let count : cell ≡ count_below e (has_cell cells) = ap (λ (o : Option ℕ). unwrap_or o 0) here in
        omega (arith, count, count_grows (has_cell cells) e (length cells) (inside some) some)
