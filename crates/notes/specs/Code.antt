-- What contracts of this crate's code and laws cite beyond the statement.
use Rattle.std.specs.Prelude.{map, ◌≡◌, Result, Err, ⊤, Ok}
use Rattle.notes.specs.Format.{NoteSegment, NoteEdge, NoteRange, Notes, NoNotes, Absent, Bad}
use Rattle.notes.specs.declared.note.NoteSegment as declared_segment
use Rattle.notes.specs.declared.note.NoteEdge as declared_edge
use Rattle.eel_base.specs.declared.range.Range as declared_range
use Rattle.notes.specs.declared.note.Notes as declared_notes
use Rattle.notes.specs.declared.note.NotesFault.{NotesFault}
use Rattle.notes.specs.declared.note.NotesFault.TheVariants as faults

abbrev pub segment_seen : declared_segment.NoteSegment → NoteSegment
segment_seen segment = record { start = segment.start; length = segment.length }

abbrev pub edge_seen : declared_edge.NoteEdge → NoteEdge
edge_seen edge = record { kind = edge.kind; from = edge.from; to = edge.to; cell = edge.cell }

abbrev pub range_seen : declared_range.Range → NoteRange
range_seen range = record { lo = range.lo.0; hi = range.hi.0; address = range.address.0; node = range.node }

abbrev pub notes_seen : declared_notes.Notes → Notes
notes_seen notes = record {
  version = notes.version;
  delta = notes.delta;
  length = notes.length;
  tool = notes.tool;
  start = notes.start;
  words = notes.words;
  entry = notes.entry;
  base = notes.base;
  cells = notes.cells;
  segments = map segment_seen notes.segments.items;
  blocks = notes.blocks.items;
  edges = map edge_seen notes.edges.items;
  ranges = map range_seen notes.ranges.items;
}

-- A fault is the one that was read; that memory is wanting says nothing of what reads.
abbrev pub IsFault : {A : Type 0} → NotesFault → Result A NoNotes → Type 0
IsFault faults.Absent read = read ≡ Err Absent
IsFault (faults.Bad at) read = read ≡ Err (Bad at)
IsFault faults.NoMemory read = ⊤

-- an answer is what was read
abbrev pub Answers : {A B : Type 0} → (A → B) → Result A NotesFault → Result B NoNotes → Type 0
Answers seen (Ok x) read = read ≡ Ok (seen x)
Answers seen (Err fault) read = IsFault fault read

-- memory is wanting only where this holds
abbrev pub WantsMemoryIf : Type 0 → NotesFault → Type 0
WantsMemoryIf holds faults.Absent = ⊤
WantsMemoryIf holds (faults.Bad at) = ⊤
WantsMemoryIf holds faults.NoMemory = holds
