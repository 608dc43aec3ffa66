use Rattle.v8_step.proofs.Common.{◌≡◌, ◌-◌, spill_many}
use Rattle.v8_step.proofs.machine.Machine.flush.Given as goal

-- what is left to be saved, from the state now
abbrev pub invariant-loop-self : goal.invariant-loop-self
invariant-loop-self l = spill_many (l.self.valid - 1) l.self ≡ spill_many (l.initial.self.valid - 1) l.initial.self

abbrev pub decreases-loop-self : goal.decreases-loop-self
decreases-loop-self l = l.self.valid
