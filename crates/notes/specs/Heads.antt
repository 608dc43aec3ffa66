-- The numbers before the tables, as the definitions of reading have them.
use Rattle.notes.specs.Format.{NoteHead}
use Rattle.notes.specs.declared.reading.Head.{Head}

abbrev pub head_seen : Head → NoteHead
head_seen head = record {
  version = head.version;
  delta = head.delta;
  length = head.length;
  tool = head.tool;
  start = head.start;
  words = head.words;
  entry = head.entry;
  base = head.base;
  cells = head.cells;
  segment_count = head.segment_count;
}
