use Rattle.std.proofs.Common.{rules}
use Rattle.v8_windows.proofs.Seen.{before_seen}
use Rattle.v8_windows.proofs.windows.go_before.Goals as goal

pub returns-clause-all : goal.returns-clause-all
returns-clause-all c =
    let old = c.args.current.now in
    before_seen old c.args.others.now c.copy.new.to c.copy-2.new.to c.shift.new.current c.copy-3.new.to c.args.window
    (search rules)
    (rw c.outs_at.ensures at c.copy.ensures.copied)
    (rw c.outs_at-2.ensures at c.copy-2.ensures.copied)
    c.shift.ensures
    (rw c.outs_at-3.ensures at c.copy-3.ensures.copied)
