use Rattle.cfg_blocks.proofs.Common.{◌≡◌, ℕ, ◌<◌, length, added_all, counted_from, into_at, is_bare_in}
use Rattle.cfg_blocks.proofs.entries.CutText.enter_all.Given as goal

abbrev pub invariant-loop-block : goal.invariant-loop-block
invariant-loop-block l =
    let b = l.self.list.now.blocks in
    (k : ℕ) → k < length l.initial.intos → into_at l.intos k
    ≡ added_all (into_at l.initial.intos k)
    (counted_from b (is_bare_in b l.self.word_ends.now l.self.given.now l.known) l.block k)
