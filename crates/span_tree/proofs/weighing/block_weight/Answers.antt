use Rattle.span_tree.proofs.Common.{ℕ, ◌+◌, ◌*◌, ap, ◌∙◌, arith, min, loops_at}
use Rattle.span_tree.proofs.LoopBounds.{loops_length, loops_read}
use Rattle.span_tree.proofs.weighing.block_weight.Goals as goal

pub bounds-loops-last : goal.bounds-loops-last
bounds-loops-last c =
    let length = loops_length c.args.graph.now.blocks c.args.loops.now c.requires.loops in
    omega (arith, length, c.last-last.ensures.within)

pub returns : goal.returns
returns c =
    let b = c.args.graph.now.blocks in
    ap (λ (n : ℕ). 1 + 8 * n) (c.min.ensures ∙ ap (λ n. min n 1000) (c.from.ensures
    ∙ loops_read b c.args.loops.now c.last-last.result.0 c.requires.loops c.last-last.ensures.within
    ∙ ap (loops_at b) c.last-last.ensures.last))
