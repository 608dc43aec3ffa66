-- Many steps of instructions that have records.
use Rattle.std.specs.Prelude.{◌≡◌, ℕ, ◌<◌, [], None}
use Rattle.v8_step.specs.State.{State}
use Rattle.v8_step.specs.Run.{run, run_puts}

-- each of the first `steps` steps is made by a state that hasn't ended
abbrev pub AreMade : State → ℕ → Type 0
AreMade s0 steps = (k : ℕ) → k < steps → (run s0 k).ending ≡ None

-- a state after so many steps, each of which was made and put nothing out
pub record IsQuietRun (s0 : State) (steps : ℕ) (s : State) : Type 0 where
  pub state : s ≡ run s0 steps
  pub made : AreMade s0 steps
  pub quiet : (descriptor : ℕ) → run_puts s0 steps descriptor ≡ []
