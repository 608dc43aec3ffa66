use Rattle.edit_core.proofs.Common.{inl, inr, arith}
use Rattle.edit_core.proofs.Bounds.{none_first, none_second}
use Rattle.edit_core.proofs.requests.operations.Goals as goal

pub returns-clause-sum : goal.returns-clause-sum
returns-clause-sum c =
    let both = c.loop-edge.invariant.both in
    let rest = c.loop-edge.edge-iterator in
    elim c.in-None.ensures.steps [
      | inl h ↦ omega (arith, both, none_first c.args.kind c.args.graph.now _ rest.b.rest.now h.1.0)
      | inr h ↦ omega (arith, both, none_second c.args.kind c.args.graph.now rest.a.rest.now _ h.1.0)
    ]
