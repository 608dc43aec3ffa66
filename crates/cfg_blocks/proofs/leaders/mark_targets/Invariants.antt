use Rattle.cfg_blocks.proofs.Common.{◌≡◌, ℕ, ◌<◌, ◌||◌, length, is_target, end_in, marked}
use Rattle.cfg_blocks.proofs.leaders.mark_targets.Given as goal

abbrev pub invariant-loop-end : goal.invariant-loop-end
invariant-loop-end l =
    (k : ℕ) → k < length l.marks → marked l.marks k
    ≡ (marked l.initial.marks k || is_target l.end-index (end_in l.ends) k)
