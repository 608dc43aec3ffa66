use Rattle.image_code.proofs.Common.{◌≡◌, ℕ, ◌<◌, length, dead_on, CodeDoes, codes_of}
use Rattle.image_code.proofs.Codes.{AreCodes}
use Rattle.image_code.proofs.expansion.codes_of.Given as goal

abbrev pub invariant-loop-edge : goal.invariant-loop-edge
invariant-loop-edge l = record {
  long : length l.codes.spans.items ≡ l.edge;
  codes : AreCodes (codes_of l.cells.0 (dead_on l.live) l.snips) l.codes.words.items l.codes.spans.items l.edge;
  does : (edge : ℕ) → edge < l.edge → CodeDoes l.cells.0 (dead_on l.live) l.snips edge;
}
