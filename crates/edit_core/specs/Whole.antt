-- What the runs of a written file are, where its code keeps what the original's run still asks for.
use Rattle.std.specs.Prelude.{◌≡◌, ℕ, zero, suc, ◌<◌, ◌≤◌, All}
use Rattle.eel_base.specs.Code.{IsText}
use Rattle.v8_memory.specs.Spans.{AllApart}
use Rattle.v8_step.specs.State.{State}
use Rattle.v8_step.specs.Run.{run}
use Rattle.v8_step.specs.Items.{StateItem}
use Rattle.two_runs.specs.Needed.{IsUntouched, instr_at, judged_in}
use Rattle.two_runs.specs.Visits.{pages_of}
use Rattle.two_runs.specs.TwoRuns.{Answers, IsLeast, IsBounded}
use Rattle.cfg_blocks.specs.Blocks.{blocks_of}
use Rattle.cfg_walk.specs.Matches.{AreOpen, BeginsAt, FetchesOnly, JumpsGoByCase}
use Rattle.snippets.specs.Grammar.{IsOp}
use Rattle.layout.specs.Laid.{HasShortForms, Placement}
use Rattle.image_code.specs.Simulates.{EditSetup, edit_in, graph_in}
use Rattle.image_code.specs.Store.{cells_in, store_of}
use Rattle.image_code.specs.Images.{Pieces, EditorData, AtVisit}
use Rattle.image_code.specs.Outside.{IsOffPages}
use Rattle.liveness.specs.Live.{named_on}
use Rattle.live_walk.specs.Keeps.{IsKeptAt}
use Rattle.edit_core.specs.Dead.{AreDead}
use Rattle.edit_core.specs.Runs.{Keeping, RunFacts, Spares, limits_in}
use Rattle.edit_core.specs.RunsAlike.{EndsAtNode, IsMatched, IsStop, visits_by}

-- what is kept: what the original's run still needs, and what snippets name that come before it is written
abbrev pub KeptIn : EditSetup → ℕ → State → ℕ → StateItem → Type 0
KeptIn g entry s0 n item = IsKeptAt g.text (graph_in g) (named_on g.snips) entry s0 n item

-- Where just what isn't live is dead behind each edge's snippet, all that is kept which has to be.
abbrev pub KeepsWhatLives : Type 0
KeepsWhatLives =
    (g : EditSetup) (entry : ℕ) (s0 : State) → IsText g.text → FetchesOnly g.text s0 → BeginsAt g.text entry s0
    → AreOpen (blocks_of g.text g.given) g.switches → JumpsGoByCase g.text (graph_in g) entry s0
    → AreDead g.text (graph_in g) (named_on g.snips) g.dead → All (All IsOp) g.snips
    → Keeping g entry s0 (KeptIn g entry s0)

-- The written file answers each step of the original, within its limits, and stores and takes no more than it may. Its stops
-- tell where the original's walk stands.
pub record Answered (g : EditSetup) (entry : ℕ) (NoLongForms : Type 0) (s0 t0 : State) (last : ℕ) : Type 0 where
  pub moments : ℕ → ℕ
  pub answers : (n : ℕ) → n ≤ last → IsLeast (Answers g.notes s0 t0 n) (moments n)
  pub soon : (m : ℕ) → IsLeast (Answers g.notes s0 t0 zero) m → m ≤ 64
  pub bounded : (n : ℕ) → n < last → IsBounded g.notes s0 t0 n (limits_in g entry s0 n)
  pub spared : (n : ℕ) → n < last → (m k : ℕ) → IsLeast (Answers g.notes s0 t0 n) m
      → IsLeast (Answers g.notes s0 t0 (suc n)) k → Spares g entry NoLongForms s0 t0 n m k
  pub cells : (n : ℕ) → n ≤ last → cells_in g.notes (run t0 (moments n)) ≡ store_of (edit_in g) entry s0 n
  pub stops : (m : ℕ) → visits_by g.notes t0 m ≡ last → IsStop (edit_in g) entry s0 t0 m last
  pub over : (n : ℕ) → n ≤ last → EndsAtNode (edit_in g) entry s0 t0 n (moments n)
  pub leads : AllApart (pages_of g.notes) (judged_in (run s0 last) (instr_at (run s0 last)))
      → IsMatched (edit_in g) entry s0 t0 (suc last)

abbrev pub EditsAnswer : Type 0
EditsAnswer =
    (g : EditSetup) (l : Pieces) (base : ℕ) (p : Placement) (place : ℕ → ℕ → ℕ) (f : EditorData) (entry : ℕ) (s0 t0 : State)
    (last : ℕ)
    → RunFacts g entry (IsOffPages g) (AtVisit g l base p f) (HasShortForms l.list place) (KeptIn g entry s0) s0 t0
    → IsUntouched (pages_of g.notes) s0 last → Answered g entry (HasShortForms l.list place) s0 t0 last
