use Rattle.std.proofs.Common.{◌≡◌, length}
use Rattle.cfg_blocks.specs.Values.{followed}
use Rattle.cfg_blocks.proofs.values.follow.Given as goal

abbrev pub invariant-loop-n : goal.invariant-loop-n
invariant-loop-n l =
    (l.values ≡ followed l.text l.initial.values l.from l.n) × (length l.values ≡ 32)
