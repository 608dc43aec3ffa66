use Rattle.image_code.proofs.Common.{◌≡◌, ◌++◌, map, below, pieces_for}
use Rattle.image_code.specs.Labels.{Way}
use Rattle.image_code.proofs.maker.PieceMaker.push_ways.Given as goal

abbrev pub invariant-loop-number : goal.invariant-loop-number
invariant-loop-number l = l.list.items ≡ l.initial.list.items ++ pieces_for l.self (map Way (below l.number))
