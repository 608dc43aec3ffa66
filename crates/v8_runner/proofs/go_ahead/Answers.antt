use Rattle.v8_runner.proofs.Ahead.{ahead}
use Rattle.v8_runner.proofs.go_ahead.Goals as goal

pub returns-clause-run : goal.returns-clause-run
returns-clause-run c = λ s0 is made.
    ahead s0 c.args.m.now c.go.new.self c.args.steps c.go.result is made c.go.ensures.run
