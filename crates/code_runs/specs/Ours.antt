-- Words of the editor's: no instruction changes them which judges no byte of the editor's pages, and what is stored in
-- them changes nothing outside those pages.
use Rattle.std.specs.Prelude.{◌≡◌, ℕ, ◌+◌, ◌<◌, ◌≤◌, ◌⊎◌, true, false, Bool, List, [], ◌∷◌, length, Option, Some, None}
use Rattle.std.specs.List.{find}
use Rattle.v8_decode.specs.declared.Instr.{Instr}
use Rattle.v8_memory.specs.Regions.{Memory, Region, covers}
use Rattle.v8_memory.specs.Segments.{heap_start, heap_room}
use Rattle.v8_memory.specs.Spans.{Span, IsApartFromAll, AllApart}
use Rattle.v8_memory.specs.Code.{IsSameOutside}
use Rattle.v8_step.specs.State.{State}
use Rattle.v8_step.specs.Step.{act}
use Rattle.v8_step.specs.Judged.{judged_by}
use Rattle.code_runs.specs.Page.{page_word}
use Rattle.code_runs.specs.StoredWords.{memory_word}
use Rattle.code_runs.specs.Code.{Stores}

-- A region has the word, away from all addresses that the heap can take: it may be read, and written or not.
pub record HasWordAt (a : ℕ) (writable : Bool) (m : Memory) : Type 0 where
  pub start : m.heap.start ≡ heap_start
  pub size : m.heap.size ≤ heap_room
  pub away : (a + 4 ≤ heap_start) ⊎ (heap_start + heap_room ≤ a)
  pub region : Region
  pub at : find (covers a 4) m.regions ≡ Some region
  pub readable : region.readable ≡ true
  pub may_write : region.writable ≡ writable
  pub whole : region.size ≤ length region.bytes

-- All four bytes of the word at the address `a` lie in one of the pages.
abbrev pub IsIn : List Span → ℕ → Type 0
IsIn [] a = ⊥
IsIn (page ∷ pages) a = ((page.from ≤ a) × (a + 4 ≤ page.from + page.count)) ⊎ IsIn pages a

-- An instruction that judges no byte of the pages leaves each word of theirs, and what may be done with it.
abbrev pub WordsStay : Type 0
WordsStay =
    (pages : List Span) (a : ℕ) (writable : Bool) (s : State) (x : Instr) → IsIn pages a
    → AllApart pages (judged_by s x) → HasWordAt a writable s.memory
    → HasWordAt a writable (act s x).memory × (memory_word (act s x).memory a ≡ memory_word s.memory a)

-- ---- the words that the editor's code may store

abbrev pub IsAmongWords : List ℕ → ℕ → Type 0
IsAmongWords [] a = ⊥
IsAmongWords (b ∷ bs) a = (a ≡ b) ⊎ IsAmongWords bs a

-- The region, if there is one, doesn't cover all four bytes of the word at `a`.
abbrev pub HasNot : ℕ → Option Region → Type 0
HasNot a None = Unit {0}
HasNot a (Some r) = covers a 4 r ≡ false

-- they lie in the pages, and word 0 of the page is one
pub record AreOwn (pages : List Span) (own : List ℕ) : Type 0 where
  pub first : IsAmongWords own (page_word 0)
  pub within : (a : ℕ) → IsAmongWords own a → IsIn pages a

-- Each may be loaded and stored, and no region with bytes outside the pages has it.
pub record IsOurs (pages : List Span) (own : List ℕ) (m : Memory) : Type 0 where
  pub words : (a : ℕ) → IsAmongWords own a → HasWordAt a true m
  pub alone : (a from count : ℕ) → IsAmongWords own a → 0 < count
      → IsApartFromAll pages (record { from = from; count = count }) → HasNot a (find (covers from count) m.regions)

-- An instruction that judges no byte of the pages leaves them the editor's.
abbrev pub OursStay : Type 0
OursStay =
    (pages : List Span) (own : List ℕ) (s : State) (x : Instr) → AreOwn pages own → IsOurs pages own s.memory
    → AllApart pages (judged_by s x) → IsOurs pages own (act s x).memory

-- Where words are stored in them, they stay the editor's, and memory outside the pages is as it was.
abbrev pub OursAreStored : Type 0
OursAreStored =
    (pages : List Span) (own : List ℕ) (m n : Memory) → IsOurs pages own m → Stores (IsAmongWords own) m n
    → IsOurs pages own n × IsSameOutside pages m n
