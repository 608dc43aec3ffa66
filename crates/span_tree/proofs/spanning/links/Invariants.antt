use Rattle.span_tree.proofs.Common.{◌≡◌, map, take, link_of}
use Rattle.span_tree.proofs.spanning.links.Given as goal

abbrev pub invariant-loop-edge : goal.invariant-loop-edge
invariant-loop-edge l = l.links.items ≡ map (link_of l.graph) (take l.edge-index l.edges)
