-- Runs of which something is told: where the original touches no added page, and where both have ended.
use Rattle.std.specs.Prelude.{◌≡◌, ◌≢◌, ℕ, [], ◌∷◌, Some, None}
use Rattle.notes.specs.Format.{Notes}
use Rattle.v8_step.specs.declared.Ending.TheVariants.{Exit}
use Rattle.v8_step.specs.State.{State}
use Rattle.v8_step.specs.Run.{run}
use Rattle.two_runs.specs.Needed.{IsUntouched}
use Rattle.two_runs.specs.Refused.{above_first_page, NoBufferRefused, IsGranted, IsUntouchedWhereRefused}
use Rattle.two_runs.specs.Visits.{pages_of}
use Rattle.edit_core.specs.RunsAlike.{visits_by}

-- What is known of the original, where the written file is stopped after m steps. All but the first say nothing of pages.
pub data IsClear (notes : Notes) (s0 t0 : State) (m : ℕ) : Type 0 where
  -- it touches no added page in as many steps as there were visits
  untouched : IsUntouched (pages_of notes) s0 (visits_by notes t0 m) → IsClear notes s0 t0 m
  -- in as many steps no access is refused
  granted : IsGranted s0 (visits_by notes t0 m) → IsClear notes s0 t0 m
  -- what is refused lies below 4096, as by a null pointer
  crashes : IsUntouchedWhereRefused (above_first_page ∷ []) s0 (visits_by notes t0 m) → IsClear notes s0 t0 m
  -- it ends by `exit` sooner or later, and none of its buffers is refused
  exits : (n status : ℕ) → (run s0 n).ending ≡ Some (Exit status) → NoBufferRefused s0 n → IsClear notes s0 t0 m

-- After n steps the original has ended, and after m the written file.
pub record AreOver (s0 t0 : State) (n m : ℕ) : Type 0 where
  pub own : (run s0 n).ending ≢ None
  pub written : (run t0 m).ending ≢ None
