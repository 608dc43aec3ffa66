use Rattle.v8_text.proofs.Common.{◌≡◌, take, lines_from}
use Rattle.v8_text.proofs.listings.listing.Given as goal

abbrev pub invariant-loop-word : goal.invariant-loop-word
invariant-loop-word l = l.lines.items ≡ lines_from l.text.start (take l.word l.text.words)
