use Rattle.count_rebuild.proofs.Common.{◌≡◌, ◌<◌, ℕ, false, int_at, is_negative}
use Rattle.count_rebuild.proofs.rebuilding.keep_whole.Given as goal

abbrev pub invariant-loop-edge : goal.invariant-loop-edge
invariant-loop-edge l = (e : ℕ) → e < l.edge → is_negative (int_at l.flow e) ≡ false
