use Rattle.edit_core.proofs.Common.{ap, sym, ◌∙◌, arith, count_by, get, Node, node_number, is_at, targets_from, case_key, count_of, same_key}
use Rattle.edit_core.proofs.Counting.{counts_led, led_few}
use Rattle.edit_core.proofs.requests.entries_along.Goals as goal

pub returns-in-Block : goal.returns-in-Block
returns-in-Block c =
    let graph = c.args.graph.now in
    let to = c.args.edge.now.to in
    let block = c.in-Block.block.0 in
    let is = c.edges-edges.ensures.graph in
    let from = ap (λ (node : Node). count_by (is_at graph to) (targets_from graph node)) c.in-Block.is in
    let entries = c.count_at.ensures ∙ ap (λ k. count_of (get same_key c.args.cases.now k)) c.case_key.ensures
    ∙ c.requires.cases (case_key block (node_number graph to)) ∙ counts_led graph is block to c.requires.edge.to _ in
    record { entries = entries ∙ sym from; few = omega (arith, entries, led_few graph is block to c.requires.edge.to) }
