use Rattle.show_text.proofs.Common.{◌≡◌, ◌++◌, take, enumerate_from, flat_map, edge_line}
use Rattle.show_text.proofs.lines.put_edges.Given as goal

abbrev pub invariant-loop-number : goal.invariant-loop-number
invariant-loop-number l = l.text.items
    ≡ l.initial.text.items ++ flat_map (edge_line l.view.image.text l.view.graph.blocks)
    (take l.number (enumerate_from 0 l.view.graph.edges))
