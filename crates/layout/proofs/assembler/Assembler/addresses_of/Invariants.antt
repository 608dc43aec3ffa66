use Rattle.layout.proofs.Common.{◌≡◌, take, addresses}
use Rattle.layout.proofs.assembler.Assembler.addresses_of.Given as goal

abbrev pub invariant-loop-words : goal.invariant-loop-words
invariant-loop-words l = l.addresses.items ≡ addresses l.self.base.0 (take l.words-index l.at)
