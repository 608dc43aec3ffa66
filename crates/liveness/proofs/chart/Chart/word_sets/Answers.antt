use Rattle.liveness.proofs.Common.{arith, ◌≡◌, ℕ, take, ap, ◌∙◌, nodes_from}
use Rattle.liveness.proofs.Joining.{joined_alone}
use Rattle.liveness.proofs.chart.Chart.word_sets.Goals as goal

pub returns-then-self-len : goal.returns-then-self-len
returns-then-self-len c =
    let graph = c.args.self.now.graph.now in
    let sets = c.args.sets.items in
    let len : c.len-then-self-len.result ≡ graph.blocks.words =
    omega (arith, c.len-then-self-len.ensures.count, c.args.self.now.of_text) in
    let none : nodes_from graph ≡ graph.blocks.words =
    omega (arith, c.args.self.now.of_nodes, c.if-self-len.true, c.len.ensures.count, c.args.self.now.of_text) in
    rw (c.truncate.ensures.items ∙ ap (λ (n : ℕ). take n sets) len)
    (joined_alone graph c.args.self.now.of_firsts sets none (omega (arith, c.requires.found.len)))

pub returns : goal.returns
returns c = rw c.deref.ensures.value at c.in_ok-join_blocks.ensures
