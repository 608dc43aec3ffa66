use Rattle.eel_said.specs.Seen.{stream_seen}
use Rattle.eel_reports.proofs.Running.{run_comes}
use Rattle.eel_reports.proofs.run.run_machine.Goals as goal

pub returns-clause-ran : goal.returns-clause-ran
returns-clause-ran g c =
    rw c.outcome_of.ensures
    (run_comes c.args.machine c.run.new.m c.args.limit c.run.result.steps c.run.result.stop
    (stream_seen g.O.Sink c.args.out.now) (stream_seen g.O.Sink c.run.new.out)
    (stream_seen g.E.Sink c.args.err.now) (stream_seen g.E.Sink c.run.new.err)
    c.run.ensures.state c.run.ensures.stop c.run.ensures.made c.run.ensures.out c.run.ensures.err c.run.ensures.cause)
