use Rattle.flow_tree.proofs.Common.{arith, ◌≡◌, ℕ, ◌+◌, List, [], ◌∷◌, ◌++◌, length, common_steps, AllBelow, Row}
use Rattle.flow_tree.proofs.rows.empty_rows.Goals as goal

one_more : (rows new : List Row) (row : Row) (count : ℕ) → new ≡ rows ++ row ∷ [] → length rows ≡ count
    → length new ≡ count + 1
one_more rows new row count is so_far = grind (arith, common_steps)

still_below : (rows new : List Row) (row : Row) (n : ℕ) → new ≡ rows ++ row ∷ [] → row.items ≡ [] → AllBelow n rows
    → AllBelow n new
still_below rows new row n is none below = grind (arith, common_steps)

pub loop-preserved : goal.loop-preserved
loop-preserved c = record {
  len = one_more c.loop.rows.items _ c.new.result _ c.in_ok-push.ensures.items c.loop.invariant.len;
  below = λ n.
      still_below c.loop.rows.items _ c.new.result n c.in_ok-push.ensures.items c.new.ensures.items (c.loop.invariant.below n);
}
