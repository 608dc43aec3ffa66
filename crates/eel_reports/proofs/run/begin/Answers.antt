use Rattle.std.proofs.lemmas.Result.{err_from_is_err_and}
use Rattle.eel_reports.specs.Code.{no_input, not_loaded}
use Rattle.eel_reports.proofs.run.begin.Goals as goal

pub returns-in_err-given-clause-unbegun : goal.returns-in_err-given-clause-unbegun
returns-in_err-given-clause-unbegun g c =
    let p = err_from_is_err_and c.from_residual-in_err-given.result c.from_residual-in_err-given.ensures.1 in
    rw (p.1, p.2) (no_input c.in_ok-bytes.bytes.items c.in_ok-bytes.ensures.read c.in_err-given.ensures.unfed)

pub returns-in_err-machine-clause-unbegun : goal.returns-in_err-machine-clause-unbegun
returns-in_err-machine-clause-unbegun g c =
    let p = err_from_is_err_and c.from_residual-in_err-machine.result c.from_residual-in_err-machine.ensures.1 in
    rw (p.1, p.2)
    (not_loaded c.in_ok-bytes.bytes.items c.in_ok-bytes.ensures.read c.in_ok-given.given.items c.in_ok-given.ensures.fed
    (rw c.deref.ensures.value at c.in_err-machine.ensures.refused))
