use Rattle.image_code.proofs.Common.{◌≡◌, ◌+◌, ◌^◌, ◌<◌, map, below, first_entry}
use Rattle.image_code.proofs.lookups.entries_of.Given as goal

abbrev pub invariant-loop-found : goal.invariant-loop-found
invariant-loop-found l = record {
  entries : l.entries.items ≡ map (first_entry l.text l.graph) (below (l.found-index + 1));
  here : l.entry ≡ first_entry l.text l.graph l.found-index;
  few : l.entry < 2 ^ 32;
}
