use Rattle.std.proofs.Common.{[], arith}
use Rattle.std.proofs.lemmas.Result.{err_from_is_err_and}
use Rattle.eel_said.proofs.Lines.{took-piece}
use Rattle.eel_said.proofs.outcome.put_pieces.Goals as goal

pub returns-in_err-put_all : goal.returns-in_err-put_all
returns-in_err-put_all g c =
    let p = err_from_is_err_and c.from_residual.result c.from_residual.ensures.1 in
    let later = c.loop-piece.invariant.later in
    let failed = c.in_err-put_all.ensures.failed in
    let after = c.put_all.ensures.later in
    rw p.1 (took-piece _ _ _ c.args.pieces.now c.loop-piece.piece-index (record { ref_ptr = (0, 0); now = [] }) (omega arith) c.loop-piece.invariant.taken c.in_err-put_all.ensures.part, omega (arith, later, failed), omega (arith, later, after))
