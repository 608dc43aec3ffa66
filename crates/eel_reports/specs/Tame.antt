-- Files whose profile is made, run and rebuilt without a refusal.
use Rattle.std.specs.Prelude.{◌≡◌, ◌≢◌, ℕ, ◌+◌, ◌*◌, ◌^◌, ◌<◌, ◌≤◌, List, [], ◌∷◌, length, None}
use Rattle.elf32_sparc.specs.FileFault.{fault, load_fault}
use Rattle.elf32_sparc.specs.Image.{image_of}
use Rattle.v8_memory.specs.Spans.{Span}
use Rattle.v8_step.specs.declared.Ending.{Ending}
use Rattle.v8_step.specs.State.{State, AreBytes}
use Rattle.v8_step.specs.Run.{run}
use Rattle.two_runs.specs.Needed.{IsUntouched}
use Rattle.eel_reports.specs.Answers.Demo.{EndsAlone, alone}

-- pages from an address on
abbrev pub AreAbove : ℕ → List Span → Type 0
AreAbove base [] = Unit {0}
AreAbove base (page ∷ pages) = (base ≤ page.from) × AreAbove base pages

-- It has no fault, there is room for every profile, and its run ends soon, without touching what lies above its
-- segments.
pub record IsTame (file : List ℕ) : Type 0 where
  pub bytes : AreBytes file
  pub size : length file ≤ 2 ^ 26
  pub sound : fault file ≡ None
  pub loads : load_fault file ≡ None
  pub room : 2 ^ 20 + 1056 * length (image_of file).text.words ≤ (image_of file).room
  pub ending : Ending
  pub steps : ℕ
  pub ran : EndsAlone file ending steps
  pub few : steps ≤ 2 ^ 24
  pub untouched : (pages : List Span) → AreAbove (image_of file).base pages → (n : ℕ)
      → IsUntouched pages (alone file) n

-- the run of a machine ends within so many steps
pub record EndsWithin (s0 : State) (limit : ℕ) : Type 0 where
  pub steps : ℕ
  pub few : steps < limit
  pub ended : (run s0 steps).ending ≢ None
