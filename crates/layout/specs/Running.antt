-- What machines do at placed items.
use Rattle.std.specs.Prelude.{◌≡◌, ℕ, suc, ◌+◌, ◌*◌, ◌<◌, ◌≤◌, ◌⊎◌, Bool, false, List, Some, if◌then◌else◌, slice_get, slice_index}
use Rattle.eel_base.specs.declared.numbers.PieceNo.{PieceNo}
use Rattle.v8_alu.specs.Conditions.{holds_of}
use Rattle.v8_memory.specs.Regions.{Memory, code_of, fetch_from}
use Rattle.v8_step.specs.declared.Slot.TheVariants.{NoSlot}
use Rattle.v8_step.specs.State.{State}
use Rattle.v8_step.specs.Valid.{IsValid}
use Rattle.code_runs.specs.Counted.{count_stores}
use Rattle.code_runs.specs.Hops.{Hops}
use Rattle.code_runs.specs.LongJump.{IsFirstWord}
use Rattle.code_runs.specs.Page.{page_word}
use Rattle.code_runs.specs.Straight.{IsReady}
use Rattle.code_runs.specs.Code.{CanStore, any_of_word}
use Rattle.layout.specs.declared.items.Item.{Item}
use Rattle.layout.specs.declared.items.Item.TheVariants as it
use Rattle.layout.specs.Laid.{Placement, IsLaid, item_at}

-- the code stands in memory, and can be executed
abbrev pub HasCode : ℕ → List ℕ → Memory → Type 0
HasCode base words m = (n word : ℕ) → slice_get words n ≡ Some word → fetch_from (code_of m) (base + 4 * n) ≡ Some word

-- a machine that can run placed code: it goes on in order, and has the code and word 0 of the editor's page
pub record CanRun (base : ℕ) (words : List ℕ) (s : State) : Type 0 where
  pub valid : IsValid s
  pub ready : IsReady s
  pub slot : s.slot ≡ NoSlot
  pub page : CanStore s.memory (page_word 0)
  pub code : HasCode base words s.memory

-- In so many steps, all below address b, the machine comes to `to`, as it was but for word 0 of the page. That is stored in
-- only where there is room for more than a short form before b.
pub record Goes (s : State) (to b least most short : ℕ) : Type 0 where
  pub count : ℕ
  pub memory : Memory
  pub some : least ≤ count
  pub few : count ≤ most
  pub inside : s.pc + 4 * count ≤ b
  pub hops : Hops s count IsFirstWord to memory
  pub stored : (counted : ℕ → Bool) → (any_of_word counted (page_word 0) ≡ false) ⊎ (b ≤ s.pc + 4 * short)
      → count_stores counted s count ≡ 0

-- A Jump leads to its piece.
abbrev pub JumpsHop : Type 0
JumpsHop =
    (pieces : List (List Item)) (base : ℕ) (p : Placement) (place : ℕ → ℕ → ℕ) → IsLaid pieces base p place
    → (k n : ℕ) (to : PieceNo) → item_at pieces k n ≡ Some (it.Jump to)
    → (s : State) → CanRun base p.code s → s.pc ≡ place k n
    → Goes s (slice_index p.at to.0) (place k (suc n)) 0 4 1

-- A Branch leads to its piece where its condition holds, and to the item after it where it doesn't.
abbrev pub BranchesHop : Type 0
BranchesHop =
    (pieces : List (List Item)) (base : ℕ) (p : Placement) (place : ℕ → ℕ → ℕ) → IsLaid pieces base p place
    → (k n cond : ℕ) (to : PieceNo) → item_at pieces k n ≡ Some (it.Branch cond to) → cond < 16
    → (s : State) → CanRun base p.code s → s.pc ≡ place k n
    → Goes s (if holds_of cond s.codes then slice_index p.at to.0 else place k (suc n)) (place k (suc n)) 1 6 2

-- A Word can be fetched where it was placed, and the item after it stands behind it.
abbrev pub WordsStand : Type 0
WordsStand =
    (pieces : List (List Item)) (base : ℕ) (p : Placement) (place : ℕ → ℕ → ℕ) → IsLaid pieces base p place
    → (k n word : ℕ) → item_at pieces k n ≡ Some (it.Word word)
    → (s : State) → CanRun base p.code s → s.pc ≡ place k n
    → (fetch_from (code_of s.memory) s.pc ≡ Some word) × (place k (suc n) ≡ place k n + 4)
