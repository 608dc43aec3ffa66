use Rattle.workload.proofs.Common.{length, ap, ◌∙◌}
use Rattle.workload.proofs.Faults.{generated_size}
use Rattle.workload.proofs.Made.{whole}
use Rattle.workload.proofs.making.make.Goals as goal

pub returns : goal.returns
returns c =
    let is = whole c.args.number c.args.routines _ _ _ _ _
    (search) c.in_ok-file.ensures.items c.in_ok-put_headers.ensures
    c.in_ok-put_caller.ensures c.in_ok-put_routines.ensures in
    record { file = is; size = ap length is ∙ generated_size c.args.number c.args.routines }
