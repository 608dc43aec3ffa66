use Rattle.workload.proofs.Common.{map, ap, ◌∙◌, word_of, routine_from, routine_code}
use Rattle.workload.proofs.Made.{moved, one_routine}
use Rattle.workload.proofs.making.put_routines.Goals as goal

pub loop-preserved : goal.loop-preserved
loop-preserved c =
    let x = c.loop.draws.state in
    moved c.loop.out.items c.put_words.new.out.items _ c.routine_words.result (routine_code (routine_from x)) _ _
    (c.routine_words.ensures ∙ ap (λ r. map word_of (routine_code r)) c.routine.ensures.routine)
    c.in_ok-put_words.ensures (one_routine c.args.count c.loop.counter x _ (search) c.routine.ensures.state)
    c.loop.invariant
