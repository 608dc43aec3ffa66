use Rattle.flow_rebuild.proofs.Common.{◌≡◌, ◌≤◌, ◌<◌, ◌^◌, ℕ, length, take, true, false, pos, nat_abs, All, on, int_at, abs_sum, edges_in}
use Rattle.flow_rebuild.proofs.cleared.Given as goal

abbrev pub invariant-loop-join : goal.invariant-loop-join
invariant-loop-join l = record {
  len : length l.cleared.items ≡ length l.values;
  small : All (λ z. nat_abs z < 2 ^ 64) l.cleared.items;
  less : abs_sum l.cleared.items ≤ abs_sum l.values;
  kept : (e : ℕ) → on (edges_in (take l.join-index l.joins)) e ≡ false → int_at l.cleared.items e ≡ int_at l.values e;
  unset : (e : ℕ) → on (edges_in (take l.join-index l.joins)) e ≡ true → int_at l.cleared.items e ≡ pos 0;
}
