use Rattle.snippet_code.proofs.Common.{rules}
use Rattle.snippet_code.proofs.WholeCode.{few_avoided, is_code}
use Rattle.snippet_code.proofs.expanding.expand.Goals as goal

pub code_of-requires-clause-avoid : goal.code_of-requires-clause-avoid
code_of-requires-clause-avoid c = few_avoided c.args.s.now c.args.avoid c.requires.avoid c.ops.ensures.few

pub returns : goal.returns
returns c =
    let ops = rw c.ops.ensures.ops at c.in_ok-code_of.ensures.ops in
    let is = is_code c.args.cells.0 c.args.dead c.args.avoid c.args.s.now _ c.requires.aligned c.requires.low
    c.requires.avoid c.ops.ensures.few ops (rw c.ops.ensures.ops at c.in_ok-code_of.ensures.code) in
    record {
      few = search rules;
      code = search rules;
      words = is.decodes;
      just = is.just;
      cost = is.cost;
      ops = ops;
    }
