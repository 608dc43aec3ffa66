use Rattle.cfg_normal.proofs.Common.{true, false, ◌++◌, ap, sym, ◌∙◌, append-nil, copied_edges, is_copied}
use Rattle.cfg_normal.proofs.Cases.{copies_more}
use Rattle.cfg_normal.proofs.edges.leave_copies.Goals.{then-is_copied+in_ok-leave_by_ways, else-is_copied}
use Rattle.cfg_normal.proofs.edges.leave_copies.Goals as goal

pub loop-block-preserved : goal.loop-block-preserved
loop-block-preserved c =
    let f = copied_edges c.args.nodes.now.blocks c.args.nodes.now.opens in
    let n = c.loop-block.block in
    let more = copies_more f (is_copied c.args.nodes.now.opens) c.args.edges.now.items n in
    elim c.if-is_copied.branch [
      | then-is_copied+in_ok-leave_by_ways w ↦
          rw w.edges-is (w.in_ok-leave_by_ways.ensures ∙ ap (λ es. es ++ f n) c.loop-block.invariant
          ∙ more true (sym c.is_copied.ensures ∙ w.if-is_copied.true))
      | else-is_copied w ↦
          rw w.edges-is (c.loop-block.invariant ∙ sym (append-nil _) ∙ more false (sym c.is_copied.ensures ∙ w.if-is_copied.false))
    ]
