-- A row of each table as bytes.
use Rattle.std.specs.Prelude.{ℕ, List}
use Rattle.eel_base.specs.declared.range.Range as declared_range
use Rattle.notes.specs.declared.note.NoteSegment as declared_segment
use Rattle.notes.specs.declared.note.NoteEdge as declared_edge
use Rattle.notes.specs.Written.{words_bytes, segment_words, edge_words, range_words}
use Rattle.notes.specs.Code.{segment_seen, edge_seen, range_seen}

unfoldable pub segment_bytes : declared_segment.NoteSegment → List ℕ
segment_bytes segment = words_bytes (segment_words (segment_seen segment))

unfoldable pub edge_bytes : declared_edge.NoteEdge → List ℕ
edge_bytes edge = words_bytes (edge_words (edge_seen edge))

unfoldable pub range_bytes : declared_range.Range → List ℕ
range_bytes range = words_bytes (range_words (range_seen range))
