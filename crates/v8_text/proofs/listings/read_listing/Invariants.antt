use Rattle.std.proofs.Common.{length}
use Rattle.v8_text.proofs.Listed.{IsReading}
use Rattle.v8_text.proofs.listings.read_listing.Given as goal

abbrev pub invariant-loop-rest : goal.invariant-loop-rest
invariant-loop-rest l = IsReading l.bytes l.words.items l.next l.rest

abbrev pub decreases-loop-rest : goal.decreases-loop-rest
decreases-loop-rest l = length l.rest
