use Rattle.std.proofs.Common.{◌+◌, get_or, rules}
use Rattle.std.proofs.lemmas.List.FromFn.{fill_by_all}
use Rattle.v8_windows.specs.Registers.{place_of}
use Rattle.v8_windows.proofs.windows.frame.Goals as goal

pub returns : goal.returns
returns c =
    fill_by_all (λ k. get_or c.args.registers.now (place_of c.args.window (16 + k)) 0) c.loop-i.words 16 0
    c.loop-i.invariant.count (search rules)
