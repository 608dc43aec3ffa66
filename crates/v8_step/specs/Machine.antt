-- What the parts of a machine's step answer, and what they leave.
use Rattle.std.specs.Prelude.{◌≡◌, ◌≢◌, ℕ, List, [], Option, Some, None}
use Rattle.eel_base.specs.Outside.{appended, TookPart, Rose}
use Rattle.v8_step.specs.declared.steps.StepOut.{StepOut}
use Rattle.v8_step.specs.declared.steps.StepOut.TheVariants.{Went, Ended, SinkFault}
use Rattle.v8_step.specs.State.{State}
use Rattle.v8_step.specs.Step.{step_of}

-- a sink that was to take some bytes failed: its count of faults rose
abbrev pub FailsAt : List ℕ → ℕ → ℕ → Type 0
FailsAt bytes before now = (bytes ≢ []) × Rose before now

-- a step was made and the run goes on, or has ended, or a sink failed and no step was made
abbrev pub Steps : State → State → StepOut → Type 0
Steps old new Went = (new ≡ step_of old) × (new.ending ≡ None)
Steps old new (Ended ending) = (new ≡ step_of old) × (new.ending ≡ Some ending)
Steps old new SinkFault = new ≡ old

-- a sink took all bytes of the step, or a first part of them where a sink failed
abbrev pub Takes : Option (List ℕ) → Option (List ℕ) → List ℕ → StepOut → Type 0
Takes old new bytes Went = new ≡ appended old bytes
Takes old new bytes (Ended ending) = new ≡ appended old bytes
Takes old new bytes SinkFault = TookPart old new bytes
