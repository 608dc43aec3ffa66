use Rattle.eel_said.proofs.command.parse_verb.Goals as goal

pub returns-then-eq-9-clause-command : goal.returns-then-eq-9-clause-command
returns-then-eq-9-clause-command c = rw (← c.eq.ensures, c.if-eq.false, ← c.eq-2.ensures, c.if-eq-2.false, ← c.eq-3.ensures, c.if-eq-3.false, ← c.eq-4.ensures, c.if-eq-4.false, ← c.eq-5.ensures, c.if-eq-5.false, ← c.eq-6.ensures, c.if-eq-6.false, ← c.eq-7.ensures, c.if-eq-7.false, ← c.eq-8.ensures, c.if-eq-8.false, ← c.eq-9.ensures, c.if-eq-9.true) c.parse_report-then-eq-9.ensures.command
