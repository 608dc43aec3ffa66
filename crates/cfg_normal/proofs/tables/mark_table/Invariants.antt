use Rattle.cfg_normal.proofs.Common.{◌≡◌, ℕ, ◌<◌, ◌||◌, length, ◌==◌, list_any, marked, words_from}
use Rattle.cfg_normal.proofs.tables.mark_table.Given as goal

abbrev pub invariant-loop-n : goal.invariant-loop-n
invariant-loop-n l = (k : ℕ) → k < length l.initial.marks
    → marked l.marks k ≡ (marked l.initial.marks k || list_any (λ x. x == k) (words_from l.from l.n))
