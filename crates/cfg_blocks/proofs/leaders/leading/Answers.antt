use Rattle.cfg_blocks.proofs.Common.{[], ◌∷◌, ◌++◌, sym, ap, ◌∙◌, append-nil, leads_by}
use Rattle.cfg_blocks.proofs.Below.{filter_below_more}
use Rattle.cfg_blocks.proofs.leaders.leading.Goals.{then-leads+in_ok-push, else-leads}
use Rattle.cfg_blocks.proofs.leaders.leading.Goals as goal

pub loop-word-preserved : goal.loop-word-preserved
loop-word-preserved c =
    let more = filter_below_more c.loop-word.word (leads_by c.args.ends.now c.args.marks.now) c.leads.result c.leads.ensures in
    elim c.if-leads.branch [
      | then-leads+in_ok-push w ↦
          rw w.words-is (w.in_ok-push.ensures.items ∙ ap (λ ws. ws ++ c.loop-word.word ∷ []) c.loop-word.invariant
          ∙ (rw w.if-leads.true at more))
      | else-leads w ↦ rw w.words-is (c.loop-word.invariant ∙ sym (append-nil _) ∙ (rw w.if-leads.false at more))
    ]
