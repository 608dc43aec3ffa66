-- Which instructions of the original a run of a written file visits, by the notes of that file.
use Rattle.std.specs.Prelude.{ℕ, zero, suc, ◌+◌, Bool, true, false, List, [], ◌∷◌, ◌++◌, map, Option, Some, None, ◌==◌, if◌then◌else◌}
use Rattle.std.specs.List.{list_any}
use Rattle.notes.specs.Format.{Notes, NoteSegment, NoteRange, range_at, holds}
use Rattle.v8_memory.specs.Spans.{Span}
use Rattle.v8_step.specs.declared.Ending.{Ending}
use Rattle.v8_step.specs.State.{State}
use Rattle.v8_step.specs.Run.{run}

abbrev pub page_of : NoteSegment → Span
page_of segment = record { from = segment.start; count = segment.length }

abbrev pub pages_of : Notes → List Span
pages_of notes = map page_of notes.segments

abbrev pub in_pages : Notes → ℕ → Bool
in_pages notes address = list_any (holds address (address + 1)) notes.segments

-- A place is visited at its first address, as the instruction that stands there. Outside the pages an address
-- is visited as itself.
abbrev pub visited : Option NoteRange → Bool → ℕ → Option ℕ
visited (Some range) in_page pc = if range.lo == pc then Some range.address else None
visited None true pc = None
visited None false pc = Some pc

abbrev pub if_live : Option Ending → Option ℕ → Option ℕ
if_live None address = address
if_live (Some ending) address = None

-- the address of the instruction that a state visits, where it visits one; a run that has ended visits none
abbrev pub visit_of : Notes → State → Option ℕ
visit_of notes t = if_live t.ending (visited (range_at notes t.pc) (in_pages notes t.pc) t.pc)

-- the original visits what it carries out
abbrev pub own_visit : State → Option ℕ
own_visit s = if_live s.ending (Some s.pc)

abbrev pub as_list : Option ℕ → List ℕ
as_list None = []
as_list (Some address) = address ∷ []

-- The trail: what the states before the m-th have visited, in order. A trail grows with each visit, so that of
-- the visits of a live run only one has a trail of a given length.
abbrev pub trail_of : Notes → State → ℕ → List ℕ
trail_of notes t0 zero = []
trail_of notes t0 (suc m) = trail_of notes t0 m ++ as_list (visit_of notes (run t0 m))

abbrev pub own_trail : State → ℕ → List ℕ
own_trail s0 zero = []
own_trail s0 (suc n) = own_trail s0 n ++ as_list (own_visit (run s0 n))
