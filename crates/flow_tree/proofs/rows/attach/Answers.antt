use Rattle.std.proofs.lemmas.List.Elements.{Contains-append_left}
use Rattle.flow_tree.proofs.RowLemmas.{row_kept, same_items}
use Rattle.flow_tree.proofs.rows.attach.Goals as goal

pub returns-in_err-push-clause-kept : goal.returns-in_err-push-clause-kept
returns-in_err-push-clause-kept c = row_kept _ _ c.index_mut.result.now _ c.requires.row c.index_mut.ensures.value (λ x h. same_items _ _ x c.in_err-push.ensures.items h)

pub returns-clause-kept : goal.returns-clause-kept
returns-clause-kept c = row_kept _ _ c.index_mut.result.now _ c.requires.row c.index_mut.ensures.value (λ x h. same_items _ _ x c.in_ok-push.ensures.items (Contains-append_left _ _ x h))
