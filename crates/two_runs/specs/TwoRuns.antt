-- What a run of a written file has to do with the original's run, at one moment of each.
use Rattle.std.specs.Prelude.{◌≡◌, ℕ, suc, ◌+◌, ◌≤◌, false, Option, Some, None}
use Rattle.notes.specs.Format.{Notes}
use Rattle.v8_memory.specs.Regions.{byte_at, heap_end_of}
use Rattle.v8_step.specs.declared.Ending.{Ending}
use Rattle.v8_step.specs.State.{State}
use Rattle.v8_step.specs.Run.{run, run_puts}
use Rattle.v8_step.specs.Items.{StateItem, IsSameAt}
use Rattle.two_runs.specs.Needed.{IsNeeded}
use Rattle.two_runs.specs.Visits.{visit_of, in_pages, trail_of, own_trail}

-- the same input is left, the same output went out, and the heap's end and memory outside the pages are the same
pub record HasSameOutside (notes : Notes) (s0 t0 : State) (n m : ℕ) : Type 0 where
  pub input : (run s0 n).input ≡ (run t0 m).input
  pub output : (descriptor : ℕ) → run_puts s0 n descriptor ≡ run_puts t0 m descriptor
  pub heap_end : heap_end_of (run s0 n).memory ≡ heap_end_of (run t0 m).memory
  pub memory : (address : ℕ) → in_pages notes address ≡ false
      → byte_at (run s0 n).memory address ≡ byte_at (run t0 m).memory address

-- Going on: the written file is at a visit of the instruction that the original carries out next, in the same
-- windows, with the same in each item that the original still needs.
pub record GoesOn (notes : Notes) (s0 t0 : State) (n m : ℕ) : Type 0 where
  pub visit : visit_of notes (run t0 m) ≡ Some (run s0 n).pc
  pub window : (run s0 n).window ≡ (run t0 m).window
  pub valid : (run s0 n).valid ≡ (run t0 m).valid
  pub needed : (item : StateItem) → IsNeeded s0 n item → IsSameAt item (run s0 n) (run t0 m)
  pub world : HasSameOutside notes s0 t0 n m

-- Ending: both have ended alike.
pub record Ends (notes : Notes) (s0 t0 : State) (n m : ℕ) : Type 0 where
  pub ending : (run t0 m).ending ≡ (run s0 n).ending
  pub world : HasSameOutside notes s0 t0 n m

abbrev pub MatchesBy : Option Ending → Notes → State → State → ℕ → ℕ → Type 0
MatchesBy None notes s0 t0 n m = GoesOn notes s0 t0 n m
MatchesBy (Some ending) notes s0 t0 n m = Ends notes s0 t0 n m

abbrev pub Matches : Notes → State → State → ℕ → ℕ → Type 0
Matches notes s0 t0 n m = MatchesBy (run s0 n).ending notes s0 t0 n m

-- after m steps the written file is where the original is after n, by the same trail
pub record Answers (notes : Notes) (s0 t0 : State) (n m : ℕ) : Type 0 where
  pub trail : trail_of notes t0 m ≡ own_trail s0 n
  pub matches : Matches notes s0 t0 n m

pub record IsLeast (P : ℕ → Type 0) (m : ℕ) : Type 0 where
  pub holds : P m
  pub least : (k : ℕ) → P k → m ≤ k

-- The step bound: from the first moment that answers n to the first that answers the next step, the written file
-- makes at most so many steps.
abbrev pub IsBounded : Notes → State → State → ℕ → ℕ → Type 0
IsBounded notes s0 t0 n limit =
    (m k : ℕ) → IsLeast (Answers notes s0 t0 n) m → IsLeast (Answers notes s0 t0 (suc n)) k → k ≤ m + limit
