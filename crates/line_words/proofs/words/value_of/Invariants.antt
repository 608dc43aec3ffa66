use Rattle.std.proofs.Common.{◌≡◌, drop}
use Rattle.line_words.specs.Registers.{hex_value}
use Rattle.line_words.proofs.words.value_of.Given as goal

abbrev pub invariant-loop-byte : goal.invariant-loop-byte
invariant-loop-byte l = hex_value l.value (drop l.byte-index l.word) ≡ hex_value 0 l.word
