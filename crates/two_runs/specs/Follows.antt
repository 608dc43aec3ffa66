-- From one step to whole runs: where each step of the original is answered by a few steps of the written file
-- that end at the next visit, with none between, the two runs go on, end and are bounded as a whole.
use Rattle.std.specs.Prelude.{◌≡◌, ℕ, zero, suc, ◌+◌, ◌<◌, ◌≤◌, Some, None}
use Rattle.notes.specs.Format.{Notes}
use Rattle.v8_step.specs.declared.Ending.{Ending}
use Rattle.v8_step.specs.State.{State}
use Rattle.v8_step.specs.Run.{run}
use Rattle.two_runs.specs.Visits.{visit_of}
use Rattle.two_runs.specs.TwoRuns.{Matches, Answers, IsLeast, IsBounded}

-- the run goes on and no state visits anything from moment `begin` on, up to but not including moment `end`
abbrev pub IsQuiet : Notes → State → ℕ → ℕ → Type 0
IsQuiet notes t0 begin end =
    (j : ℕ) → begin ≤ j → j < end → ((run t0 j).ending ≡ None) × (visit_of notes (run t0 j) ≡ None)

-- the way from one visit to what answers the next step, within a limit
pub record IsWay (notes : Notes) (t0 : State) (m k limit : ℕ) : Type 0 where
  pub forward : m < k
  pub short : k ≤ m + limit
  pub quiet : IsQuiet notes t0 (suc m) k

-- The moments of the written file follow the original's first `last` steps.
pub record IsFollowed (notes : Notes) (s0 t0 : State) (early : ℕ) (limits moments : ℕ → ℕ) (last : ℕ) : Type 0 where
  pub soon : moments zero ≤ early
  pub quiet : IsQuiet notes t0 zero (moments zero)
  pub matches : (n : ℕ) → n ≤ last → Matches notes s0 t0 n (moments n)
  pub goes : (n : ℕ) → n < last → (run s0 n).ending ≡ None
      → IsWay notes t0 (moments n) (moments (suc n)) (limits n)
  pub stays : (n : ℕ) → n < last → (ending : Ending) → (run s0 n).ending ≡ Some ending
      → moments (suc n) ≡ moments n

abbrev pub RunsFollow : Type 0
RunsFollow =
    (notes : Notes) (s0 t0 : State) (early : ℕ) (limits moments : ℕ → ℕ) (last : ℕ)
    → IsFollowed notes s0 t0 early limits moments last
    → ((n : ℕ) → n ≤ last → IsLeast (Answers notes s0 t0 n) (moments n))
    × ((m : ℕ) → IsLeast (Answers notes s0 t0 zero) m → m ≤ early)
    × ((n : ℕ) → n < last → IsBounded notes s0 t0 n (limits n))
