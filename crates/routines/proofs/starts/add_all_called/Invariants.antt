use Rattle.std.proofs.Common.{◌≡◌, ℕ, nat_eq, []}
use Rattle.std.specs.List.{list_any, range_with_len}
use Rattle.std.specs.Option.{option_or}
use Rattle.indexmap.specs.IndexMap.{get}
use Rattle.routines.specs.Routines.{called_at, leads_to}
use Rattle.routines.specs.Starts.{name_where}
use Rattle.routines.proofs.starts.add_all_called.Given as goal

abbrev pub invariant-loop-number : goal.invariant-loop-number
invariant-loop-number l =
    (word : ℕ) → get nat_eq l.starts word ≡ option_or (get nat_eq l.initial.starts word) (name_where
    (list_any (λ other. leads_to word (called_at l.text other)) (range_with_len 0 l.number)) [])
