use Rattle.liveness.proofs.Common.{◌≡◌, AreCopies, copies_from}
use Rattle.liveness.proofs.places.place_copies.Given as goal

abbrev pub invariant-loop-block : goal.invariant-loop-block
invariant-loop-block l = record {
  copies : AreCopies l.graph l.block l.copies.items;
  next : l.next ≡ copies_from l.graph l.block;
}
