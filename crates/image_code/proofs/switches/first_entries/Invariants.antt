use Rattle.image_code.proofs.Common.{◌≡◌, ℕ, ◌==◌, map, nat_eq, take, position, get}
use Rattle.image_code.proofs.switches.first_entries.Given as goal

abbrev pub invariant-loop-entry : goal.invariant-loop-entry
invariant-loop-entry l =
    (word : ℕ) → get nat_eq l.places word ≡ position (λ t. t == word) (take l.entry (map (λ w. w.0) l.targets))
