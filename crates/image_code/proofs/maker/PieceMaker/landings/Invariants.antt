use Rattle.image_code.proofs.Common.{◌≡◌, map, PieceNo, below, lands_at}
use Rattle.image_code.proofs.maker.PieceMaker.landings.Given as goal

abbrev pub invariant-loop-word : goal.invariant-loop-word
invariant-loop-word l =
    map (λ (n : PieceNo). n.0) l.landings.items ≡ map (lands_at l.self.text.now l.self.graph.now l.snips) (below l.word)
