use Rattle.image_code.proofs.Common.{◌≡◌, ◌++◌, map, below, Image, node_in_order, pieces_for}
use Rattle.image_code.proofs.maker.PieceMaker.push_images.Given as goal

abbrev pub invariant-loop-word : goal.invariant-loop-word
invariant-loop-word l = l.list.items ≡ l.initial.list.items
    ++ pieces_for l.self (map (λ word. Image (node_in_order l.self.graph.now word) word) (below l.word))
