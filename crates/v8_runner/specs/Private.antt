-- What only contracts of private functions and models cite.
use Rattle.std.specs.Prelude.{◌≡◌, ℕ}
use Rattle.v8_step.specs.State.{State}
use Rattle.v8_step.specs.Run.{run, run_puts}
use Rattle.v8_runner.specs.Made.{AreMade}

-- a state after `later` steps, of which those after `steps` put nothing out
pub record IsAhead (s0 : State) (steps later : ℕ) (s : State) : Type 0 where
  pub state : s ≡ run s0 later
  pub made : AreMade s0 later
  pub puts : (descriptor : ℕ) → run_puts s0 later descriptor ≡ run_puts s0 steps descriptor
