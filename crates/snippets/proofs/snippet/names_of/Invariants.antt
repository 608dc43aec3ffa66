use Rattle.snippets.proofs.Common.{◌≡◌, take, named_by}
use Rattle.snippets.proofs.snippet.names_of.Given as goal

abbrev pub invariant-loop-op : goal.invariant-loop-op
invariant-loop-op l = l.names ≡ named_by (take l.op-index l.ops)
