use Rattle.span_tree.proofs.Common.{◌≤◌, ℕ, ◌∙◌, ap, arith, slice_index, sym, All-get_or, branch_target}
use Rattle.span_tree.proofs.LoopBounds.{put}
use Rattle.span_tree.proofs.loops.put_loop.Goals as goal

pub raise-requires-clause-few : goal.raise-requires-clause-few
raise-requires-clause-few c =
    let l = c.if-target-last.true in
    let w = c.last-last.ensures.within in
    let h = c.requires.bounds in
    let few = All-get_or (λ (n : ℕ). n ≤ c.args.block.0) c.args.bounds.now.begins.items c.in-Some.target.0 0
    (omega (arith, l, w, h.begins_len)) h.begins_few in
    omega (arith, few, c.requires.block, c.requires.few)

pub raise-requires-2-clause-few : goal.raise-requires-2-clause-few
raise-requires-2-clause-few c =
    let w = c.last-last.ensures.within in
    let h = c.requires.bounds in
    let few : slice_index c.args.bounds.now.ends.items c.last-last.result.0 ≤ c.args.block.0 =
    All-get_or (λ (n : ℕ). n ≤ c.args.block.0) c.args.bounds.now.ends.items c.last-last.result.0 0
    (omega (arith, w, h.ends_len)) h.ends_few in
    omega (arith, few, c.requires.block, c.requires.few)

pub returns-then-target-last : goal.returns-then-target-last
returns-then-target-last c =
    put c.args.blocks.now.blocks c.args.block.0 c.args.bounds.now.begins.items c.args.bounds.now.ends.items c.requires.bounds
    c.in-Some.target c.last-last.result.0 c.raise.new.counts.items c.raise-2.new.counts.items c.raise.ensures c.raise-2.ensures
    c.last-last.ensures.last (ap branch_target (sym c.end.ensures.end) ∙ sym c.branch_target.ensures ∙ c.in-Some.is)
    c.if-target-last.true c.last-last.ensures.within
