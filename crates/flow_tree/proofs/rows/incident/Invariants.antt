use Rattle.flow_tree.proofs.Common.{◌≡◌, length, HasEnds, AllBelow}
use Rattle.flow_tree.proofs.rows.incident.Given as goal

abbrev pub invariant-loop-e : goal.invariant-loop-e
invariant-loop-e l = record {
  len : length l.rows.items ≡ l.nodes;
  ends : HasEnds l.links l.e l.rows.items;
  below : AllBelow (length l.links) l.rows.items;
}
