use Rattle.show_text.proofs.Common.{◌≡◌, map, take, printed}
use Rattle.show_text.proofs.words.name_text.Given as goal

abbrev pub invariant-loop-i : goal.invariant-loop-i
invariant-loop-i l = take l.i l.bytes ≡ map printed (take l.i l.name)
