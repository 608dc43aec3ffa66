use Rattle.layout.proofs.Common.{◌≡◌, length, forms_in, IsListing}
use Rattle.layout.proofs.Offsets.{AreOffsets}
use Rattle.layout.proofs.Walked.{IsWalk}
use Rattle.layout.proofs.forms.offsets.Given as goal

abbrev pub invariant-loop-long : goal.invariant-loop-long
invariant-loop-long l = record {
  walk : IsWalk l.entries (forms_in l.forms) l.left l.long-index l.here;
  len : length l.at ≡ length l.fn.at;
  listing : IsListing l.entries (length l.at);
  so_far : AreOffsets l.entries (forms_in l.forms) l.at l.long-index;
}
