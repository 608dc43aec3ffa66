use Rattle.std.proofs.Common.{◌≡◌, length}
use Rattle.v8_encode.proofs.Several.{AreWords}
use Rattle.v8_encode.proofs.instrs.words.Given as goal

abbrev pub invariant-instrs : goal.invariant-instrs
invariant-instrs g l = (length l.words ≡ g.row.N) × AreWords l.instrs l.words l.n
