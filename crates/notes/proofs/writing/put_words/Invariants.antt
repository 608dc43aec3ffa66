use Rattle.notes.proofs.Common.{◌≡◌, ◌++◌, take, flat_map, big_bytes}
use Rattle.notes.proofs.writing.put_words.Given as goal

abbrev pub invariant-loop-word : goal.invariant-loop-word
invariant-loop-word l = l.out.items ≡ l.initial.out.items ++ flat_map (big_bytes 4) (take l.word-index l.words)
