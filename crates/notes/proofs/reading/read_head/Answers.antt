use Rattle.notes.proofs.Common.{refl, leb-true, head_at}
use Rattle.notes.proofs.reading.read_head.Goals as goal

pub returns : goal.returns
unfolding head_at
returns c = record {
  head =
      rw (
        c.in_ok-delta.ensures.original,
        c.in_ok-tool.ensures.word,
        ← c.last_tool.ensures,
        c.in_ok-keep.ensures,
        c.in_ok-start.ensures.text,
        c.in_ok-entry.ensures.word,
        c.in_ok-base.ensures.cells,
        c.in_ok-segment_count.ensures.word,
        c.in_ok-keep-2.ensures,
      ) refl;
  memory = tt;
  inside = c.in_ok-delta.ensures.inside;
  cells = c.in_ok-base.ensures.few;
  words = c.in_ok-start.ensures.words;
  segments = leb-true _ _ c.in_ok-keep-2.ensures;
}
