use Rattle.std.proofs.Common.{rules}
use Rattle.v8_windows.proofs.Seen.{bring_seen}
use Rattle.v8_windows.proofs.windows.bring.Goals as goal

pub returns-clause-all : goal.returns-clause-all
returns-clause-all c =
    let words = c.args.registers.now in
    bring_seen words c.args.current.now c.copy.new.to c.copy-2.new.to c.copy-3.new.to c.args.window (search rules)
    (search rules) c.copy.ensures.copied
    (rw c.outs_at.ensures at c.copy-2.ensures.copied)
    (rw c.outs_at-2.ensures at c.copy-3.ensures.copied)
