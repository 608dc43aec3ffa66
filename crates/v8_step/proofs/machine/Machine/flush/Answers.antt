use Rattle.v8_step.proofs.Common.{◌≡◌, ◌-◌, ◌<◌, ap, ◌∙◌, arith, State, spill_many}
use Rattle.v8_step.proofs.Spills.{one_less, none_saved, fewer}
use Rattle.v8_step.proofs.machine.Machine.flush.Goals as goal

pub returns-then-not-spill : goal.returns-then-not-spill
returns-then-not-spill c =
    let some : 1 < c.loop-self.self.valid = omega (arith, ap (λ (t : State). t.valid) c.self.view_is) in
    c.end.ensures
    ∙ none_saved c.loop-self.self c.spill.new.self c.spill.result some c.spill.ensures c.if-not-spill.true
    ∙ c.loop-self.invariant

pub loop-self-smaller : goal.loop-self-smaller
loop-self-smaller c =
    let some : 1 < c.loop-self.self.valid = omega (arith, ap (λ (t : State). t.valid) c.self.view_is) in
    fewer c.loop-self.self c.spill.new.self c.spill.result some c.spill.ensures c.if-not-spill.false

pub loop-self-preserved : goal.loop-self-preserved
loop-self-preserved c =
    let some : 1 < c.loop-self.self.valid = omega (arith, ap (λ (t : State). t.valid) c.self.view_is) in
    one_less c.loop-self.self c.spill.new.self c.spill.result some c.spill.ensures c.if-not-spill.false
    ∙ c.loop-self.invariant

pub returns : goal.returns
returns c =
    let one : 0 ≡ c.loop-self.self.valid - 1 = omega (arith, ap (λ (t : State). t.valid) c.self.view_is) in
    c.go_on.ensures ∙ ap (λ k. spill_many k c.loop-self.self) one ∙ c.loop-self.invariant
