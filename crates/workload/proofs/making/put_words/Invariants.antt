use Rattle.workload.proofs.Common.{◌≡◌, ◌++◌, drop, bytes_of}
use Rattle.workload.proofs.making.put_words.Given as goal

abbrev pub invariant-loop-word : goal.invariant-loop-word
invariant-loop-word l =
    l.out.items ++ bytes_of (drop l.word-index l.words) ≡ l.initial.out.items ++ bytes_of l.words
