-- What contracts of this crate's code and laws cite beyond the statement.
use Rattle.std.specs.Prelude.{◌≡◌, ◌≤◌, List, ◌∷◌, map, None, ℕ}
use Rattle.v8_memory.specs.Regions.{Memory}
use Rattle.v8_memory.specs.Segments.{heap_start, heap_room}
use Rattle.v8_memory.specs.Spans.{Span, AllApart, IsApart, IsApartFromAll}
use Rattle.v8_memory.specs.Code.{heap_span, span_of}
use Rattle.v8_step.specs.State.{State}
use Rattle.two_runs.specs.Refused.{above_first_page, IsGranted, IsUntouchedWhereRefused}
use Rattle.two_runs.specs.Needed.{IsUntouched}

-- no region has a byte of the pages, and the heap can't get one
pub record IsUnmapped (pages : List Span) (m : Memory) : Type 0 where
  pub start : m.heap.start ≡ heap_start
  pub room : m.heap.size ≤ heap_room
  pub apart : AllApart pages (heap_span ∷ map span_of m.regions)

-- ---- whoever touches such pages is refused: of a run in which none of those is that are refused, none is

abbrev pub UnmappedIsUntouched : Type 0
UnmappedIsUntouched =
    (pages : List Span) (s0 : State) (n : ℕ) → s0.ending ≡ None → IsUnmapped pages s0.memory
    → IsUntouchedWhereRefused pages s0 n → IsUntouched pages s0 n

-- and none where all the pages lie behind the first one, of a run that is granted its accesses
abbrev pub AreHigh : List Span → Type 0
AreHigh pages = (y : Span) → IsApart above_first_page y → IsApartFromAll pages y

abbrev pub GrantedIsUntouched : Type 0
GrantedIsUntouched =
    (pages : List Span) (s0 : State) (n : ℕ) → s0.ending ≡ None → IsUnmapped pages s0.memory → AreHigh pages
    → IsGranted s0 n → IsUntouched pages s0 n
