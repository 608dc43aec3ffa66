use Rattle.std.proofs.Common.{◌+◌, length-take, arith}
use Rattle.std.proofs.lemmas.Result.{err_from_is_err_and}
use Rattle.eel_base.proofs.Parts.{gave-after, gave-all}
use Rattle.eel_base.proofs.whole.read_all.Goals as goal

pub returns-in_err-read_more-clause-some : goal.returns-in_err-read_more-clause-some
returns-in_err-read_more-clause-some g c =
    let p = err_from_is_err_and c.from_residual.result c.from_residual.ensures.1 in
    rw p.1 (gave-after _ _ _ c.loop-chunk.all.items _ _ c.loop-chunk.invariant.read c.in_err-read_more.ensures.some (simp length-take (omega arith)))

pub returns-clause-some : goal.returns-clause-some
returns-clause-some g c = gave-all _ _ c.loop-chunk.all.items (c.args.limit + 1) c.loop-chunk.invariant.read (omega arith)
