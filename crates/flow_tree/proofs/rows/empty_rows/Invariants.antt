use Rattle.flow_tree.proofs.Common.{◌≡◌, ℕ, length, AllBelow}
use Rattle.flow_tree.proofs.rows.empty_rows.Given as goal

abbrev pub invariant-loop : goal.invariant-loop
invariant-loop l = record {
  len : length l.rows.items ≡ l.counter;
  below : (n : ℕ) → AllBelow n l.rows.items;
}
