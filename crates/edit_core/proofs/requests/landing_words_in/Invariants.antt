use Rattle.edit_core.proofs.Common.{◌≡◌, ◌-◌, count_by, range_with_len, is_at}
use Rattle.edit_core.proofs.requests.landing_words_in.Given as goal

-- those among the words so far
abbrev pub invariant-loop-word : goal.invariant-loop-word
invariant-loop-word l = l.count ≡ count_by (is_at l.graph l.node) (range_with_len l.first (l.word - l.first))
