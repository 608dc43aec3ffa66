-- What an edit costs beside its original: room, steps, and stores into the added pages.
use Rattle.std.specs.Prelude.{◌≡◌, ℕ, suc, ◌+◌, ◌-◌, ◌*◌, ◌^◌, ◌<◌, ◌≤◌, Bool, true, false, ◌&&◌, nat_le, nat_lt, List, Option, Some, None, All}
use Rattle.std.specs.List.{list_any}
use Rattle.eel_base.specs.CodeText.{Words, word_at}
use Rattle.elf32_sparc.specs.Image.{image_of}
use Rattle.notes.specs.Format.{NoteSegment, Notes}
use Rattle.v8_decode.specs.declared.Instr.{Instr}
use Rattle.v8_decode.specs.declared.Instr.TheVariants as i
use Rattle.v8_decode.specs.declared.LoadKind.TheVariants as loads
use Rattle.v8_decode.specs.declared.Part.{Part}
use Rattle.v8_step.specs.State.{State}
use Rattle.v8_step.specs.Run.{run}
use Rattle.two_runs.specs.Needed.{IsUntouched}
use Rattle.two_runs.specs.TwoRuns.{Answers, IsBounded, IsLeast}
use Rattle.two_runs.specs.Visits.{pages_of}
use Rattle.cfg_normal.specs.Opens.{Open}
use Rattle.cfg_normal.specs.Graph.{Graph}
use Rattle.cfg_view.specs.View.{view_of}
use Rattle.cfg_walk.specs.Walk.{gone_in, instr_at, point_of}
use Rattle.liveness.specs.Live.{named_on}
use Rattle.image_code.specs.Cost.{CostsLittle, IsWatched, limit_on}
use Rattle.image_code.specs.Store.{Edit}
use Rattle.tool_kit.specs.Plans.{Plan}
use Rattle.edit_core.specs.Dead.{AreDead}
use Rattle.edit_core.specs.RunsAlike.{ForEachRun, edit_of}
use Rattle.edit_core.specs.Taken.{bound_in}

-- ---- steps

-- how many steps the written file may make before its first visit
abbrev pub first_limit : ℕ
first_limit = 64

-- So many steps at most lie before the first moment that answers the original, and from each to the next, by the operations
-- on the edges that the step completes.
pub record TakesFewSteps (e : Edit) (entry : ℕ) (s0 t0 : State) : Type 0 where
  pub soon : IsUntouched (pages_of e.notes) s0 0 → (m : ℕ) → IsLeast (Answers e.notes s0 t0 0) m → m ≤ first_limit
  pub bounded : (n : ℕ) → IsUntouched (pages_of e.notes) s0 (suc n)
      → IsBounded e.notes s0 t0 n (limit_on e.snips (gone_in e.text e.graph entry s0 n))

-- ---- stores

-- so little room is asked that no jump and no branch is long: 8 MiB
abbrev pub short_bound : ℕ
short_bound = 8 * 2 ^ 20

abbrev pub is_ld : Option Instr → Bool
is_ld (Some (i.Load loads.LD rd rs1 op2)) = true
is_ld _ = false

-- a word before the jump of an open switch, in its block
abbrev pub is_before_jump : Graph → ℕ → Bool
is_before_jump graph word =
    list_any (λ (o : Open). nat_le o.approach.first word && nat_lt word o.approach.jump) graph.opens

-- The original doesn't go on at an LD of such a block.
abbrev pub LoadsNoEntry : Words → Graph → State → Type 0
LoadsNoEntry text graph s =
    (word : ℕ) → word_at text s.pc ≡ Some word → is_before_jump graph word ≡ true → is_ld (instr_at text s.pc) ≡ false

-- From the first moment that answers a step to the first that answers the next, what is stored in the pages but for cells
-- and word 0 of the editor's page is registers that snippets spill; and what is so besides where so little room is asked
-- that nothing is long, and no address of a load is kept before the state where the original goes on.
abbrev pub StoresLittle : Edit → (ℕ → List Part) → (State → Type 0) → ℕ → ℕ → State → State → Type 0
StoresLittle e dead NoneKept bound entry s0 t0 =
    (n : ℕ) → IsUntouched (pages_of e.notes) s0 (suc n)
    → IsWatched e (gone_in e.text e.graph entry s0 n) (point_of (run s0 n)) (run s0 (suc n))
    → (m k : ℕ) → IsLeast (Answers e.notes s0 t0 n) m → IsLeast (Answers e.notes s0 t0 (suc n)) k
    → CostsLittle e dead (((run s0 n).ending ≡ None) × (bound ≤ short_bound) × NoneKept (run s0 (suc n)))
    (gone_in e.text e.graph entry s0 n) (point_of (run s0 n)) (run t0 m) (k - m)

-- ---- all of it

-- a page below 0x80000000, so any but the editor's, ends within the bound above the program's base
abbrev pub IsWithinBound : List ℕ → Plan → NoteSegment → Type 0
IsWithinBound original plan page =
    page.start < 2 ^ 31 → page.start + page.length ≤ (image_of original).base + bound_in original plan

-- Addresses are kept before loads of open switches alone.
pub record HasBoundedCost (original : List ℕ) (plan : Plan) (file : List ℕ) (notes : Notes) : Type 0 where
  pub room : All (IsWithinBound original plan) notes.segments
  pub steps : ForEachRun original file (TakesFewSteps (edit_of original plan notes) (image_of original).entry)
  -- what is dead behind the snippet of each edge, which may be taken there
  pub dead : ℕ → List Part
  pub exact : AreDead (image_of original).text (view_of original plan.marks).graph (named_on plan.snips) dead
  pub stores : ForEachRun original file
      (StoresLittle (edit_of original plan notes) dead
      (LoadsNoEntry (image_of original).text (view_of original plan.marks).graph) (bound_in original plan)
      (image_of original).entry)
