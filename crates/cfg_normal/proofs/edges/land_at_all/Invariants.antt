use Rattle.cfg_normal.proofs.Common.{◌≡◌, ◌++◌, map, flat_map, below, landing_at, landings_of}
use Rattle.cfg_normal.proofs.edges.land_at_all.Given as goal

abbrev pub invariant-loop-block : goal.invariant-loop-block
invariant-loop-block l = l.edges.items ≡ l.initial.edges.items
    ++ map landing_at (flat_map (landings_of l.nodes.opens) (below l.block))
