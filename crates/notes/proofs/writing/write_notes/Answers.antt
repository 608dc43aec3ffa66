use Rattle.notes.proofs.Common.{arith, refl, common_steps}
use Rattle.notes.proofs.Bytes.{turns}
use Rattle.notes.proofs.writing.write_notes.Goals as goal

pub returns : goal.returns
returns c = turns c.args.n.now c.put_ranges.new.out.items (record {
  segments = c.len.result;
  blocks = c.len-2.result;
  edges = c.len-3.result;
  ranges = c.len-4.result;
  segments_are = grind (arith, common_steps);
  blocks_are = grind (arith, common_steps);
  edges_are = grind (arith, common_steps);
  ranges_are = grind (arith, common_steps);
  all =
      rw (c.in_ok-put_ranges.ensures, c.in_ok-put_words-6.ensures, c.in_ok-put_edges.ensures, c.in_ok-put_words-5.ensures, c.in_ok-put_words-4.ensures, c.in_ok-put_words-3.ensures, c.in_ok-put_segments.ensures, c.in_ok-put_words-2.ensures, c.in_ok-put_words.ensures, c.new-out.ensures.items, c.deref.ensures.value, c.deref-2.ensures.value, c.deref-3.ensures.value, c.deref-4.ensures.value) refl;
})
