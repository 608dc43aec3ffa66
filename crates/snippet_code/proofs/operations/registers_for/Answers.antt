use Rattle.snippet_code.proofs.Common.{◌≡◌, max, arith, rules}
use Rattle.snippet_code.proofs.Wanted.{for_more}
use Rattle.snippet_code.proofs.operations.registers_for.Goals as goal

pub loop-op-preserved : goal.loop-op-preserved
loop-op-preserved c =
    let more =
    for_more c.args.codes_dead c.args.ops.now c.loop-op.op-index c.op-item.result (omega (arith, c.loop-op-test.true))
    c.op-item.is in
    let greater : c.max-most.result ≡ max c.loop-op.most c.op_registers.result = search rules in
    let needed = c.op_registers.ensures in
    let before = c.loop-op.invariant in
    record {
      value = omega (arith, greater, more, needed.value, before.value);
      few = omega (arith, greater, needed.few, before.few);
    }
