use Rattle.snippet_code.proofs.Common.{◌≡◌, ◌≤◌, take, registers_for}
use Rattle.snippet_code.proofs.operations.registers_for.Given as goal

abbrev pub invariant-loop-op : goal.invariant-loop-op
invariant-loop-op l = record {
  value : l.most ≡ registers_for l.codes_dead (take l.op-index l.ops);
  few : l.most ≤ 5;
}
