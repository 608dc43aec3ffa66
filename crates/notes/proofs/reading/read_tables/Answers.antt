use Rattle.notes.proofs.Common.{◌∙◌, refl, sym, tables_of}
use Rattle.notes.proofs.reading.read_tables.Goals as goal

pub returns : goal.returns
unfolding tables_of
returns c = record {
  read =
      rw (
        c.in_ok-segments.ensures,
        c.in_ok-block_count.ensures.count,
        c.in_ok-blocks.ensures,
        c.in_ok-edge_count.ensures.count,
        (rw c.counter_width.ensures at c.in_ok-edges.ensures),
        c.in_ok-range_count.ensures.count,
        (rw c.deref.ensures.value at c.in_ok-ranges.ensures),
        sym c.end_at.ensures ∙ c.in_ok-keep.ensures,
      ) refl;
  delta = refl;
  length = refl;
}
