use Rattle.snippets.proofs.Filled.{filled_more}
use Rattle.snippets.proofs.snippet.Snippet.push.Goals as goal

pub invariant_of-self : goal.invariant_of-self
invariant_of-self c = filled_more c.self.inside c.args.op c.self.invariant c.if-self-ge-MOST_OPS.false
