use Rattle.edge_ring.proofs.Common.{rules, refl, notes_seen}
use Rattle.edge_ring.proofs.Traces.{ring_decides}
use Rattle.edge_ring.proofs.reading.is_trace.Goals as goal

pub returns-then-n-eq-TRACE : goal.returns-then-n-eq-TRACE
returns-then-n-eq-TRACE c =
    ring_decides (notes_seen c.args.n.now) c.is_ring.result 16 refl (search rules) c.is_ring.ensures
