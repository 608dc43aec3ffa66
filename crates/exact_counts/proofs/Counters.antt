-- An edge's counter holds how often the edge was completed, in 32 bits or in 64.
use Rattle.exact_counts.proofs.Common.{◌≡◌, ℕ, zero, suc, ◌+◌, ◌^◌, ◌<◌, ◌≤◌, inl, inr, cond, List, [], ◌∷◌, length, refl, ap, sym, ◌∙◌, arith, ◌==◌, All, cases_eq, cases_lt, eq-eqb, ne_eqb, counter_width, State, run, times, Op, WorksBelow, AreCounters, gone_in, walk, Edit, snippet_on, times-append, WorksIn, counter_op, counter_value, ◌%◌, replicate, ◌⊎◌, get_or-set_at, get_or-replicate, get_or-set_other, get_or_past, length-replicate, length-set, register_of, update, updated_by, store_of, updates, CellsCount, counter_limit, nat_tests}
use Rattle.snippets.specs.declared.snippet.Op.TheVariants.{Add}
use Rattle.snippets.specs.Ops.{cell_of, cells_end}

-- ---- a counter of either version

pub counter_cell : (version cell : ℕ) → cell_of (counter_op version cell) ≡ cell
counter_cell version cell = grind arith

pub end_is : (version cell : ℕ) → cells_end (counter_op version cell) ≡ cell + counter_width version
end_is version cell = grind arith

ends_by : (version cells cell : ℕ) → WorksIn cells (counter_op version cell) → cell + counter_width version ≤ cells
ends_by version cells cell works = grind arith

pub works_in : (version cells cell : ℕ) → cell + counter_width version ≤ cells
    → WorksIn cells (counter_op version cell)
works_in version cells cell inside = grind arith

-- it begins with 0
none_yet : (version count cell : ℕ) → cell + counter_width version ≤ count
    → counter_value version (replicate count 0) cell ≡ 0 % counter_limit version
none_yet version count cell inside = grind (arith, get_or-replicate)

-- it counts, and begins at 0 again
counts_one : (version : ℕ) (registers : ℕ → ℕ) (cells : List ℕ) (cell made : ℕ)
    → cell + counter_width version ≤ length cells → counter_value version cells cell ≡ made % counter_limit version
    → counter_value version (updated_by registers (counter_op version cell) cells) cell
    ≡ (made + 1) % counter_limit version
counts_one version registers cells cell made inside before =
    grind (arith, length-set, get_or-set_at, get_or-set_other, before)

-- and leaves every other
leaves_other : (version : ℕ) (registers : ℕ → ℕ) (cells : List ℕ) (own cell : ℕ)
    → (own + counter_width version ≤ cell) ⊎ (cell + counter_width version ≤ own)
    → counter_value version (updated_by registers (counter_op version own) cells) cell ≡ counter_value version cells cell
leaves_other version registers cells own cell apart = grind (arith, get_or-set_other, apart)

pub small_rest : (version value : ℕ) → value < counter_limit version → value % counter_limit version ≡ value
small_rest version value small = grind arith

pub limit_few : (version value : ℕ) → value < counter_limit version → value < 2 ^ 64
limit_few version value small = grind arith

-- ---- counters

module _ (version : ℕ) where
  abbrev pub counter : ℕ → List Op
  counter cell = counter_op version cell ∷ []

  -- a counter in a cell from `next` on
  pub record IsCounterFrom (next : ℕ) (ops : List Op) : Type 0 where
    pub cell : ℕ
    pub from : next ≤ cell
    pub is : ops ≡ counter cell

  end_of_first : (next : ℕ) (op : Op) → op ≡ counter_op version next → cells_end op ≡ next + counter_width version
  end_of_first next op is = ap cells_end is ∙ end_is version next

  -- each snippet is empty or a counter
  pub none_or_counter : (next : ℕ) (snips : List (List Op)) (e : ℕ) → AreCounters version next snips
      → (snippet_on snips e ≡ []) ⊎ IsCounterFrom next (snippet_on snips e)
  none_or_counter next [] e are = inl (get_or_past {X = List Op} [] e [] (omega arith))
  none_or_counter next ([] ∷ snips) zero are = inl refl
  none_or_counter next ([] ∷ snips) (suc e) are = none_or_counter next snips e are
  none_or_counter next ((op ∷ []) ∷ snips) zero are = grind (arith, nat_tests)
  none_or_counter next ((op ∷ []) ∷ snips) (suc e) are = elim (none_or_counter (cells_end op) snips e are.1) [
    | inl none ↦ inl none
    | inr some ↦
        inr (record { cell = some.cell; from = omega (arith, some.from, end_of_first next op are.0); is = some.is })
  ]
  none_or_counter next ((op ∷ other ∷ ops) ∷ snips) e are = absurd are

  same_cell : (a b : ℕ) → counter a ≡ counter b → a ≡ b
  same_cell a b e = grind (arith, nat_tests)

  not_empty : (cell : ℕ) → [] ≡ counter cell → ⊥
  not_empty cell e = cc

  -- a counter among those from `next` on
  not_below : (next : ℕ) (snips : List (List Op)) (e cell : ℕ) → AreCounters version next snips
      → snippet_on snips e ≡ counter cell → next ≤ cell
  not_below next snips e cell are is = elim (none_or_counter next snips e are) [
    | inl none ↦ absurd (not_empty cell (sym none ∙ is))
    | inr some ↦ omega (arith, same_cell some.cell cell (sym some.is ∙ is), some.from)
  ]

  -- counters stand in the order of their edges, so that the cells of two are apart
  ordered : (next : ℕ) (snips : List (List Op)) (e h a b : ℕ) → AreCounters version next snips → e < h
      → snippet_on snips e ≡ counter a → snippet_on snips h ≡ counter b → a + counter_width version ≤ b
  ordered next snips e zero a b are l is other = absurd (omega (arith, l))
  ordered next [] e (suc h) a b are l is other = absurd (not_empty b other)
  ordered next ([] ∷ snips) zero (suc h) a b are l is other = absurd (not_empty a is)
  ordered next ([] ∷ snips) (suc e) (suc h) a b are l is other =
      ordered next snips e h a b are (omega (arith, l)) is other
  ordered next ((op ∷ []) ∷ snips) zero (suc h) a b are l is other =
      let same : op ≡ counter_op version a = cc in
      omega (arith, end_of_first a op same, not_below (cells_end op) snips h b are.1 other)
  ordered next ((op ∷ []) ∷ snips) (suc e) (suc h) a b are l is other =
      ordered (cells_end op) snips e h a b are.1 (omega (arith, l)) is other
  ordered next ((op ∷ more ∷ ops) ∷ snips) e (suc h) a b are l is other = absurd are

  -- a counter's cells are some of them
  cells_below : (cells : ℕ) (snips : List (List Op)) (e cell : ℕ) → All (WorksBelow cells) snips
      → snippet_on snips e ≡ counter cell → cell + counter_width version ≤ cells
  cells_below cells snips e cell below is = elim (cases_lt e (length snips)) [
    | inl inside ↦
        let works : WorksBelow cells (counter cell) = rw is at (below e [] inside) in
        ends_by version cells cell (works 0 (Add 0 0) (omega arith))
    | inr past ↦ absurd (not_empty cell (sym (get_or_past snips e [] past) ∙ is))
  ]

-- ---- how many cells there are

length_update : (registers : ℕ → ℕ) (ops : List Op) (cells : List ℕ)
    → length (update registers ops cells) ≡ length cells
length_update registers [] cells = refl
length_update registers (op ∷ ops) cells =
    length_update registers ops (updated_by registers op cells) ∙ grind (arith, length-set)

length_updates : (snips : List (List Op)) (es cells : List ℕ) (s : State)
    → length (updates snips es cells s) ≡ length cells
length_updates snips [] cells s = refl
length_updates snips (e ∷ es) cells s = length_updates snips es _ s ∙ length_update _ (snippet_on snips e) cells

length_store : (g : Edit) (entry : ℕ) (s0 : State) (n : ℕ) → length (store_of g entry s0 n) ≡ g.notes.cells
length_store g entry s0 zero = length-replicate g.notes.cells 0
length_store g entry s0 (suc n) =
    length_updates g.snips (gone_in g.text g.graph entry s0 n) _ (run s0 (suc n)) ∙ length_store g entry s0 n

-- ---- one counter

module _ (version : ℕ) (snips : List (List Op)) (are : AreCounters version 0 snips) (e cell : ℕ)
    (is : snippet_on snips e ≡ counter version cell) where
  abbrev value : List ℕ → ℕ
  value cells = counter_value version cells cell

  -- what an edge that was completed makes of it
  counted_once : (registers : ℕ → ℕ) (cells : List ℕ) (h made : ℕ) → cell + counter_width version ≤ length cells
      → value cells ≡ made % counter_limit version
      → value (update registers (snippet_on snips h) cells) ≡ (made + cond (e == h) 1 0) % counter_limit version
  counted_once registers cells h made inside before = elim (cases_eq e h) [
    | inl same ↦
        rw (← same, is, eq-eqb e e refl) (counts_one version registers cells cell made inside before)
    | inr beside ↦
        let kept : value (update registers (snippet_on snips h) cells) ≡ value cells =
        elim (none_or_counter version 0 snips h are) [
          | inl none ↦ rw none refl
          | inr some ↦ rw some.is (leaves_other version registers cells some.cell cell (elim (cases_lt h e) [
            | inl before ↦ inl (ordered version 0 snips h e some.cell cell are before some.is is)
            | inr after ↦ inr (ordered version 0 snips e h cell some.cell are (omega (arith, after, beside)) is some.is)
          ]))
        ] in
        rw (ne_eqb e h beside) (kept ∙ before ∙ ap (λ k. k % counter_limit version) (omega arith))
  ]

  counted : (es cells : List ℕ) (s : State) (made : ℕ) → cell + counter_width version ≤ length cells
      → value cells ≡ made % counter_limit version → value (updates snips es cells s) ≡ (made + times es e) % counter_limit version
  counted [] cells s made inside before = before ∙ ap (λ k. k % counter_limit version) (omega arith)
  counted (h ∷ es) cells s made inside before =
      counted es _ s (made + cond (e == h) 1 0) (rw (length_update (register_of s) (snippet_on snips h) cells) inside)
      (counted_once (register_of s) cells h made inside before) ∙ ap (λ k. k % counter_limit version) (omega arith)

pub cells_count : CellsCount
unfolding walk
cells_count version g entry s0 zero e cell are below is =
    none_yet version g.notes.cells cell (cells_below version g.notes.cells g.snips e cell below is)
cells_count version g entry s0 (suc n) e cell are below is =
    let gone = gone_in g.text g.graph entry s0 n in
    rw (times-append (walk g.text g.graph entry s0 n) gone e)
    (counted version g.snips are e cell is gone _ (run s0 (suc n)) _
    (rw (length_store g entry s0 n) (cells_below version g.notes.cells g.snips e cell below is))
    (cells_count version g entry s0 n e cell are below is))
