use Rattle.snippet_code.proofs.Common.{◌≡◌, ◌++◌, map, take, word_of, numbered, restore}
use Rattle.snippet_code.proofs.expanding.push_restores.Given as goal

abbrev pub invariant-loop-n : goal.invariant-loop-n
invariant-loop-n l = l.words.items ≡ l.initial.words.items ++ map word_of (take l.n (numbered restore 0 l.spilled))
