use Rattle.edit_core.proofs.Common.{◌≡◌, take, get, CaseKey, count_of, entries_with, same_key}
use Rattle.edit_core.proofs.requests.case_counts.Given as goal

-- those of the switches so far
abbrev pub invariant-loop-found : goal.invariant-loop-found
invariant-loop-found l =
    (key : CaseKey) → count_of (get same_key l.cases key) ≡ entries_with l.graph key (take l.found-index l.found-items)
