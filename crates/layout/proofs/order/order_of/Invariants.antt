use Rattle.layout.proofs.Common.{◌≡◌, length, IsMarking}
use Rattle.layout.proofs.order.order_of.Given as goal

abbrev pub invariant-loop : goal.invariant-loop
invariant-loop l = record {
  count : length l.laid.items ≡ l.counter;
  marking : IsMarking l.pieces l.laid.items l.marks.items l.lowest;
}
