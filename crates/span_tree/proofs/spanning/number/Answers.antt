use Rattle.span_tree.proofs.Common.{◌≡◌, ◌∙◌, arith, length, marked}
use Rattle.span_tree.proofs.LoopBounds.{counted_few}
use Rattle.span_tree.proofs.Numbered.{byte_is, count_given, length_given, numbered_given, one, one_most, same_given}
use Rattle.span_tree.proofs.spanning.number.Goals as goal

-- all edges have their turn
all : (c : goal.After-loop-is_counted) → c.loop-is_counted.is_counted-index ≡ length c.args.counted.now
all c = omega (arith, c.loop-is_counted-test.false, c.loop-is_counted.auto.is_counted-index-end)

pub overflow_add-count : goal.overflow_add-count
overflow_add-count c =
    let count = c.loop-is_counted.invariant.count in
    let few = counted_few (c.loop-is_counted.is_counted-index) (marked c.args.counted.now) in
    let byte : c.from-count.result ≡ one (marked c.args.counted.now c.loop-is_counted.is_counted-index) =
    c.from-count.ensures ∙ byte_is (marked c.args.counted.now c.loop-is_counted.is_counted-index) in
    let most = one_most (marked c.args.counted.now c.loop-is_counted.is_counted-index) in
    omega (arith, count, few, byte, most, c.loop-is_counted-test.true, c.requires)

pub invariant_of-result : goal.invariant_of-result
invariant_of-result c =
    let cells = c.loop-is_counted.invariant.cells in
    let marks = c.args.counted.now in
    let n = c.loop-is_counted.is_counted-index in
    (numbered_given marks _ n (all c) cells, count_given marks _ n (all c) cells _ c.loop-is_counted.invariant.count)

pub returns-clause-len : goal.returns-clause-len
returns-clause-len c =
    length_given c.args.counted.now _ c.loop-is_counted.is_counted-index (all c) c.loop-is_counted.invariant.cells

pub returns-clause-same : goal.returns-clause-same
returns-clause-same c =
    same_given c.args.counted.now _ c.loop-is_counted.is_counted-index (all c) c.loop-is_counted.invariant.cells

pub returns-clause-numbered : goal.returns-clause-numbered
returns-clause-numbered c =
    numbered_given c.args.counted.now _ c.loop-is_counted.is_counted-index (all c) c.loop-is_counted.invariant.cells
