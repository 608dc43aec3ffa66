use Rattle.workload.proofs.Common.{call_of}
use Rattle.workload.proofs.Made.{moved, one_call}
use Rattle.workload.proofs.making.put_caller.Goals as goal

pub loop-routine-preserved : goal.loop-routine-preserved
loop-routine-preserved c =
    let routine = c.loop-routine.routine in
    moved c.loop-routine.out.items c.put_words.new.out.items _ c.call_words.result (call_of c.args.count routine) _ _
    c.call_words.ensures c.in_ok-put_words.ensures (one_call c.args.count routine (search)) c.loop-routine.invariant
