use Rattle.elf32_sparc.proofs.Common.{◌≡◌, ◌-◌, ◌*◌, ◌++◌, drop, words_of}
use Rattle.elf32_sparc.proofs.program.read_words.Given as goal

abbrev pub invariant-loop-number : goal.invariant-loop-number
invariant-loop-number l =
    l.words.items ++ words_of (l.number-end - l.number) (drop (4 * l.number) l.bytes) ≡ words_of l.count l.bytes
