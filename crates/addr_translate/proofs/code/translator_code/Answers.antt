use Rattle.std.proofs.Common.{rules, arith}
use Rattle.addr_translate.proofs.TwelveWords.{translates}
use Rattle.addr_translate.proofs.code.translator_code.Goals as goal

pub returns-clause-translates : goal.returns-clause-translates
returns-clause-translates c =
    translates _ c.args.base.0 c.args.a c.args.b (omega arith) (omega arith) (omega arith) (omega arith)
    c.requires.differ (search rules)
