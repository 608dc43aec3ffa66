use Rattle.std.proofs.Common.{rules, ◌<◌, ◌^◌}
use Rattle.v8_text.proofs.Least.{spelled_is}
use Rattle.v8_text.proofs.writing.is_spelled.Goals as goal

pub returns : goal.returns
returns c =
    let fits : c.args.word < 2 ^ 32 = search rules in
    rw (spelled_is c.args.word fits) (search rules)
