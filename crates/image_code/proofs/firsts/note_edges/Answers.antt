use Rattle.image_code.proofs.Common.{◌∙◌}
use Rattle.image_code.proofs.EdgeTables.{mark_more}
use Rattle.image_code.proofs.firsts.note_edges.Goals as goal

pub loop-number-preserved : goal.loop-number-preserved
loop-number-preserved c = record {
  long = c.note_edge.ensures.long ∙ c.loop-number.invariant.long;
  each = λ node kind.
      mark_more _ _ _ _ _ _ c.loop-number-test.true (c.loop-number.invariant.each node kind)
      (c.note_edge.ensures.marks node kind);
}
