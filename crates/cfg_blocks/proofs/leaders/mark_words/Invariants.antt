use Rattle.cfg_blocks.proofs.Common.{◌≡◌, ℕ, ◌<◌, ◌||◌, length, take, marked, is_in}
use Rattle.cfg_blocks.proofs.leaders.mark_words.Given as goal

abbrev pub invariant-loop-word : goal.invariant-loop-word
invariant-loop-word l =
    (k : ℕ) → k < length l.marks → marked l.marks k
    ≡ (marked l.initial.marks k || is_in (take l.word-index l.words) k)
