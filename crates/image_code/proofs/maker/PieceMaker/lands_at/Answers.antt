use Rattle.image_code.proofs.Common.{ap, arith, length, ne_eqb}
use Rattle.image_code.proofs.Sources.{lands_within, piece_number}
use Rattle.image_code.proofs.OpenNumbers.{landing_is}
use Rattle.image_code.proofs.maker.PieceMaker.lands_at.Goals as goal

pub enter-requires : goal.enter-requires
enter-requires c = lands_within c.args.self.now.found _ _ c.requires.node c.requires.word

pub returns-else-operations-eq0 : goal.returns-else-operations-eq0
returns-else-operations-eq0 c =
    let from = c.from-else-operations-eq0.ensures in
    let edges = ap length c.edges_but_landings.ensures.edges in
    let some = ne_eqb c.operations.result 0 (λ e. omega (arith, c.if-operations-eq0.false)) in
    rw (← c.requires.node, ← c.landing_edge.ensures, ← c.operations.ensures, some)
    (piece_number c.args.self.now.found _ c.piece.ensures (λ g _.
    omega (arith, c.from.ensures, c.len.ensures.count, from, landing_is _ _ g c.args.word.0 c.requires.word)))
