use Rattle.show_text.proofs.Common.{◌≡◌, ◌++◌, take, flat_map}
use Rattle.show_text.proofs.Joined.{spaced}
use Rattle.show_text.proofs.lines.put_line.Given as goal

abbrev pub invariant-loop-word : goal.invariant-loop-word
invariant-loop-word l = l.text.items ≡ l.initial.text.items ++ flat_map spaced (take l.word-index l.words)
