use Rattle.cfg_normal.proofs.Common.{◌≡◌, ◌++◌, filter, flat_map, below, copied_edges, is_copied}
use Rattle.cfg_normal.proofs.edges.leave_copies.Given as goal

abbrev pub invariant-loop-block : goal.invariant-loop-block
invariant-loop-block l = l.edges.items ≡ l.initial.edges.items
    ++ flat_map (copied_edges l.nodes.blocks l.nodes.opens) (filter (is_copied l.nodes.opens) (below l.block))
