use Rattle.image_code.proofs.Common.{◌≡◌, ◌++◌, map, below, Landing, pieces_for}
use Rattle.image_code.proofs.maker.PieceMaker.push_landings.Given as goal

abbrev pub invariant-loop-word : goal.invariant-loop-word
invariant-loop-word l = l.list.items ≡ l.initial.list.items ++ pieces_for l.self (map Landing (below l.word))
