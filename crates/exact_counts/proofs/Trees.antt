-- The cells of a spanning tree make a profile.
use Rattle.exact_counts.proofs.Common.{◌≡◌, ℕ, suc, ◌+◌, ◌*◌, ◌<◌, inl, inr, not, List, [], ◌∷◌, length, Option, Some, None, refl, ap, ◌∙◌, arith, is_some, counter_width, EdgeSet, count_below, rest, Op, WorksBelow, AreCounters, is_node, links_of, snippet_on, WorksIn, counter_op, cases_Bool, get_or_default, All-cons, All-nil, TreesMakeProfiles, counted_by, counter_in, is_counter}
use Rattle.span_tree.specs.Cells.{cell_at, cell_of, has_cell}
use Rattle.span_tree.proofs.Numbered.{count_grows}
use Rattle.exact_counts.proofs.Counters.{end_is, works_in}
use Rattle.exact_counts.proofs.Noted.{tree_alike}

-- ---- cells in order

-- one counter more takes so many cells more
width_more : (version n : ℕ) → counter_width version * (n + 1) ≡ counter_width version * n + counter_width version
width_more version n = grind arith

-- from edge k on
counters_from : (version : ℕ) (counted : EdgeSet) (k : ℕ) (snips : List (List Op))
    → ((e : ℕ) → e < length snips → snippet_on snips e ≡ counter_in version (cell_of counted (k + e)))
    → AreCounters version (counter_width version * count_below k counted) snips
counters_from version counted k [] are = tt
counters_from version counted k (ops ∷ snips) are =
    let first : k + 0 ≡ k = omega arith in
    let none : count_below k counted + 0 ≡ count_below k counted = omega arith in
    let is : ops ≡ counter_in version (cell_of counted k) = rw first at (are 0 (omega arith)) in
    let later = counters_from version counted (suc k) snips (λ e l.
    let next : k + suc e ≡ suc k + e = omega arith in rw next at (are (suc e) (omega (arith, l)))) in
    elim (cases_Bool (counted k)) [
      | inl one ↦ rw (is, one) (
        refl,
        rw (end_is version (counter_width version * count_below k counted), ← width_more version (count_below k counted))
            (rw one at later),
      )
      | inr other ↦ rw (is, other) (rw none at (rw other at later))
    ]

works_below : (version : ℕ) (counted : EdgeSet) (e n : ℕ) → e < n
    → WorksBelow (counter_width version * count_below n counted) (counter_in version (cell_of counted e))
works_below version counted e n l =
    let cells = counter_width version * count_below n counted in
    let cell = counter_width version * count_below e counted in
    elim (cases_Bool (counted e)) [
      | inl is ↦ rw is (All-cons (WorksIn cells) (counter_op version cell) []
          (works_in version cells cell (grind (arith, count_grows counted e n l is))) (All-nil (WorksIn cells)))
      | inr other ↦ rw other (All-nil (WorksIn cells))
    ]

counts_where_some : (version : ℕ) (cell : Option ℕ) → is_some cell ≡ is_counter (counter_in version cell)
counts_where_some version None = refl
counts_where_some version (Some cell) = refl

pub trees_make_profiles : TreesMakeProfiles
trees_make_profiles version graph plan cells h =
    let none : counter_width version * 0 ≡ 0 = omega arith in
    let snippet : (e : ℕ) → e < length plan.snips
    → snippet_on plan.snips e ≡ counter_in version (cell_of (has_cell cells) e) =
    λ e l. rw (← h.numbered e) (h.snips e (omega (arith, l, h.size))) in
    record {
      kind = h.kind;
      size = h.size;
      counters = rw none at (counters_from version (has_cell cells) 0 plan.snips (λ e l.
          let same : 0 + e ≡ e = omega arith in rw same (snippet e l)));
      below = λ e d l. rw (h.count, get_or_default plan.snips e d [] l ∙ snippet e l)
          (works_below version (has_cell cells) e (length cells) (omega (arith, l, h.size, h.len)));
      tree = tree_alike (links_of graph) (links_of graph)
          (record { nodes = omega arith; edges = refl; from = λ e l. refl; to = λ e l. refl })
          (is_node graph) (is_node graph) (λ v l there. there) refl
          (rest (has_cell cells)) (rest (counted_by plan.snips))
          (λ e l. rw (h.snips e l) (ap not (counts_where_some version (cell_at cells e)))) h.tree;
    }
