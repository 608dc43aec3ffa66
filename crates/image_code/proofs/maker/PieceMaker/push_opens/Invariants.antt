use Rattle.image_code.proofs.Common.{◌≡◌, ◌++◌, take, flat_map, switch_labels, pieces_for}
use Rattle.image_code.proofs.maker.PieceMaker.push_opens.Given as goal

abbrev pub invariant-loop-number : goal.invariant-loop-number
invariant-loop-number l = l.list.items ≡ l.initial.list.items
    ++ pieces_for l.self (flat_map (switch_labels l.self.text.now l.self.graph.now) (take l.number l.found-items))
