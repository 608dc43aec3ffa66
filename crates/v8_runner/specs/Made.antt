-- The steps that are made.
use Rattle.std.specs.Prelude.{◌≡◌, ℕ, ◌<◌, None}
use Rattle.v8_step.specs.State.{State}
use Rattle.v8_step.specs.Run.{run}

-- each of the first `steps` steps is made by a state that hasn't ended
abbrev pub AreMade : State → ℕ → Type 0
AreMade s0 steps = (k : ℕ) → k < steps → (run s0 k).ending ≡ None
