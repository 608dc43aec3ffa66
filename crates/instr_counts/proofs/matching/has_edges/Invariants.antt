use Rattle.instr_counts.proofs.Common.{◌<◌, ℕ, map, edge_seen, no_edge, no_noted, IsNoted, slice_index_or}
use Rattle.instr_counts.proofs.matching.has_edges.Given as goal

abbrev pub invariant-loop-number : goal.invariant-loop-number
invariant-loop-number l = (e : ℕ) → e < l.number
    → IsNoted l.graph (slice_index_or (map edge_seen l.noted) e no_noted) (slice_index_or l.graph.edges e no_edge)
