use Rattle.edit_core.proofs.Common.{◌≡◌, ℕ, ◌+◌, ◌*◌, ◌^◌, ◌≤◌, length, operations_on}
use Rattle.edit_core.proofs.requests.operations.Given as goal

-- The sum so far and that of what is left are the whole, and each edge adds 2^23 at most.
pub record IsSum (whole sum rest left : ℕ) : Type 0 where
  pub both : sum + rest ≡ whole
  pub few : sum + 2 ^ 23 * left ≤ 2 ^ 47

abbrev pub invariant-loop-edge : goal.invariant-loop-edge
invariant-loop-edge l =
    IsSum (operations_on l.kind l.graph l.graph.edges l.snips) l.sum
    (operations_on l.kind l.graph l.edge-iterator.a.rest.now l.edge-iterator.b.rest.now) (length
    l.edge-iterator.a.rest.now)
