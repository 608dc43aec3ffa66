use Rattle.edit_core.proofs.Common.{◌≡◌, ◌+◌, map, take, count_by, get, WordNo, CaseKey, count_of, is_entry, same_key}
use Rattle.edit_core.proofs.requests.count_entries.Given as goal

-- those of the words so far
abbrev pub invariant-loop-word : goal.invariant-loop-word
invariant-loop-word l =
    (key : CaseKey) → count_of (get same_key l.cases key)
    ≡ count_by (is_entry l.graph l.block.0 key) (map (λ (w : WordNo). w.0) (take l.word-index l.targets))
    + count_of (get same_key l.fn.cases key)
