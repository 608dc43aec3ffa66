use Rattle.cfg_normal.proofs.Common.{◌≡◌, list_any, marked, words_from}
use Rattle.cfg_normal.proofs.tables.any_marked.Given as goal

abbrev pub invariant-loop-n : goal.invariant-loop-n
invariant-loop-n l = l.any ≡ list_any (marked l.marks) (words_from l.from l.n)
