use Rattle.snippet_code.proofs.Common.{arith, slice_index}
use Rattle.snippet_code.proofs.Pushed.{are_more, op_low, op_more, op_room}
use Rattle.snippet_code.proofs.operations.push_ops.Goals as goal

pub push_op-requires-clause-room : goal.push_op-requires-clause-room
push_op-requires-clause-room c =
    omega (
      arith,
      op_room c.args.codes_dead c.args.ops.now c.loop-op.op-index c.op-item.result (omega (arith, c.loop-op-test.true))
          c.op-item.is,
      c.requires.room,
    )

pub push_op-requires-clause-low : goal.push_op-requires-clause-low
push_op-requires-clause-low c =
    op_low c.args.cells.0 c.args.ops.now c.loop-op.op-index c.op-item.result (omega (arith, c.loop-op-test.true))
    c.op-item.is c.requires.low

pub loop-op-preserved : goal.loop-op-preserved
loop-op-preserved c = record {
  code =
      op_more c.args.cells.0 c.args.codes_dead (slice_index c.args.regs.now) c.args.ops.now c.loop-op.op-index
      c.op-item.result _ _ _ (omega (arith, c.loop-op-test.true)) c.op-item.is c.loop-op.invariant.code
      c.in_ok-push_op.ensures.code;
  ops =
      are_more c.args.ops.now c.loop-op.op-index c.op-item.result (omega (arith, c.loop-op-test.true)) c.op-item.is
      c.loop-op.invariant.ops c.push_op.ensures.op;
}
