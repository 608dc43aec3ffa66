-- An instruction that is no Ticc puts nothing out.
use Rattle.std.proofs.Common.{◌∙◌}
use Rattle.v8_step.proofs.Quiet.{quiet_acts, took_nothing}
use Rattle.v8_step.proofs.machine.Machine.act.Goals as goal

pub returns-in_default-clause-state : goal.returns-in_default-clause-state
returns-in_default-clause-state g c =
    c.act_quietly.ensures ∙ quiet_acts c.args.self.now c.args.instr c.in_default.not-Ticc

pub returns-in_default-clause-out : goal.returns-in_default-clause-out
returns-in_default-clause-out g c = took_nothing c.args.self.now c.args.instr 1 _ c.in_default.not-Ticc

pub returns-in_default-clause-err : goal.returns-in_default-clause-err
returns-in_default-clause-err g c = took_nothing c.args.self.now c.args.instr 2 _ c.in_default.not-Ticc
