use Rattle.layout.proofs.Common.{ap, ◌∙◌, ◌≡◌, [], length, arith, first_laid, compact_order}
use Rattle.layout.proofs.Laying.{marking_none, whole_is}
use Rattle.layout.proofs.order.order_of.Goals as goal

pub loop-init : goal.loop-init
loop-init c =
    let e : c.in_ok-laid.laid.items ≡ [] = c.in_ok-laid.ensures.items in
    record { count = ap length e; marking = rw (e, c.in_ok-marks.ensures) (marking_none c.args.pieces.now) }

pub returns-clause-order : goal.returns-clause-order
returns-clause-order c =
    let n : length c.loop.laid.items ≡ length c.args.pieces.now = omega (arith, c.loop.invariant.count) in
    c.loop.invariant.marking.order ∙ ap (first_laid c.args.pieces.now) n

pub returns-clause-whole : goal.returns-clause-whole
returns-clause-whole c =
    let n : length c.loop.laid.items ≡ length c.args.pieces.now = omega (arith, c.loop.invariant.count) in
    let e : c.loop.laid.items ≡ compact_order c.args.pieces.now = cc (c.loop.invariant.marking.order, n) in
    rw e (whole_is c.args.pieces.now c.requires.leads)
