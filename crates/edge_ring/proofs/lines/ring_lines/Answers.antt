use Rattle.edge_ring.proofs.Common.{rules, map, length-map, notes_seen}
use Rattle.edge_ring.proofs.Places.{all_shown, number}
use Rattle.edge_ring.proofs.lines.ring_lines.Goals as goal

pub returns : goal.returns
returns c =
    let edges = c.args.edges.now in
    all_shown (notes_seen c.args.n.now) edges c.put_edges.new.text.items c.put_ring.new.text.items (search rules)
    (c.in_ok-put_ring.ensures (map number edges) (length-map edges number))
