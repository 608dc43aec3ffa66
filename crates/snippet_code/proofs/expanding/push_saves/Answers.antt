use Rattle.snippet_code.proofs.Common.{arith, save}
use Rattle.snippet_code.proofs.WholeCode.{all_numbered}
use Rattle.snippet_code.proofs.expanding.push_saves.Goals as goal

pub returns : goal.returns
returns c = all_numbered save c.args.spilled.now c.loop-n.n _ _ (omega (arith, c.loop-n-test.false)) c.loop-n.invariant
