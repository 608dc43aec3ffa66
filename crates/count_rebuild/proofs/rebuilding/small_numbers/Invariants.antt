use Rattle.count_rebuild.proofs.Common.{◌≡◌, ◌<◌, ℕ, false, map, take, nat_abs, int_at, is_large}
use Rattle.count_rebuild.proofs.rebuilding.small_numbers.Given as goal

abbrev pub invariant-loop-edge : goal.invariant-loop-edge
invariant-loop-edge l = record {
  are : l.counts.items ≡ map nat_abs (take l.edge l.flow);
  small : (e : ℕ) → e < l.edge → is_large (int_at l.flow e) ≡ false;
}
