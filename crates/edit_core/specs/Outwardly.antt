-- What a written file does, to one who sees how its runs end and what they put out.
use Rattle.std.specs.Prelude.{◌≡◌, ℕ, ◌≤◌, false, List, Some, None}
use Rattle.v8_step.specs.declared.Ending.TheVariants.{Exit}
use Rattle.v8_step.specs.State.{State}
use Rattle.v8_step.specs.Run.{run, run_puts}
use Rattle.two_runs.specs.Refused.{NoBufferRefused, is_refusal}
use Rattle.edit_core.specs.RunsAlike.{ForEachRun}

-- after m steps, no fewer than n, t0's run has ended as s0's has after n, or goes on as that does, and put out the same
pub record LooksAs (s0 t0 : State) (n m : ℕ) : Type 0 where
  pub later : n ≤ m
  pub ending : (run t0 m).ending ≡ (run s0 n).ending
  pub output : (descriptor : ℕ) → run_puts t0 m descriptor ≡ run_puts s0 n descriptor

-- Where an original ends by `exit`, the written file does; where it runs forever, that does; and wherever it stands, the
-- written file comes to stand, where no access is refused by then.
pub record RunsLike (s0 t0 : State) : Type 0 where
  pub exits : (n status : ℕ) → NoBufferRefused s0 n → (run s0 n).ending ≡ Some (Exit status) → (m : ℕ) × LooksAs s0 t0 n m
  pub endless : ((n : ℕ) → NoBufferRefused s0 n) → ((n : ℕ) → (run s0 n).ending ≡ None)
      → ((m : ℕ) → (run t0 m).ending ≡ None) × ((n : ℕ) → (m : ℕ) × LooksAs s0 t0 n m)
  pub stands : (n : ℕ) → NoBufferRefused s0 n → is_refusal (run s0 n).ending ≡ false → (m : ℕ) × LooksAs s0 t0 n m

-- for all arguments and every input
abbrev pub DoesTheSame : List ℕ → List ℕ → Type 0
DoesTheSame original file = ForEachRun original file RunsLike
