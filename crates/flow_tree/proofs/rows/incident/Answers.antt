use Rattle.std.proofs.Common.{rules, arith}
use Rattle.flow_tree.proofs.RowLemmas.{ends_step}
use Rattle.flow_tree.proofs.rows.incident.Goals as goal

pub loop-e-preserved : goal.loop-e-preserved
loop-e-preserved c = record {
  len = search rules;
  ends =
      ends_step c.args.links.now c.loop-e.e c.args.nodes c.loop-e.rows.items c.attach-in-loop-e.new.rows.items c.loop-e.invariant.len
      (λ e l. c.requires.linked e _ (omega arith))
      (λ u x l h. c.in_ok-attach-2.ensures.kept u x (omega arith) (c.in_ok-attach.ensures.kept u x (omega arith) h))
      (c.in_ok-attach-2.ensures.kept _ _ (search rules) c.in_ok-attach.ensures.added)
      c.in_ok-attach-2.ensures.added
      c.loop-e.invariant.ends;
  below = c.in_ok-attach-2.ensures.below _ (search rules) (c.in_ok-attach.ensures.below _ (search rules) c.loop-e.invariant.below);
}

pub returns-clause-ends : goal.returns-clause-ends
returns-clause-ends c = λ e l. c.loop-e.invariant.ends e (omega arith)
