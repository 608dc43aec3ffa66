use Rattle.flow_rebuild.proofs.Common.{◌≡◌, ◌≤◌, ◌+◌, ◌*◌, ℕ, true, false, length, nat_abs, All, iter_rest, on, abs_sum, int_at, edges_in, edges_of}
use Rattle.flow_rebuild.proofs.Peel.{IsPeeled}
use Rattle.flow_rebuild.proofs.rebuild.Given as goal

abbrev pub invariant-loop-join : goal.invariant-loop-join
invariant-loop-join l = record {
  peeled : IsPeeled (length l.tree.reached.items) l.links l.tree.root l.start l.end (iter_rest l.join-iterator.iter) l.flow.items l.excess.items;
  small : abs_sum l.excess.items ≤ 2 * abs_sum l.values + 2;
  values : All (λ z. nat_abs z ≤ 2 * abs_sum l.values + 2) l.flow.items;
  inside : (e : ℕ) → on (edges_in (iter_rest l.join-iterator.iter)) e ≡ true → on (edges_of l.tree) e ≡ true;
  agrees : (e : ℕ) → on (edges_of l.tree) e ≡ false → int_at l.flow.items e ≡ int_at l.values e;
}
