use Rattle.liveness.proofs.Common.{◌≡◌, ℕ, length, Adds, Between, In, ReadsOf}
use Rattle.liveness.proofs.chart.Chart.read_blocks.Given as goal

abbrev pub invariant-loop-block : goal.invariant-loop-block
invariant-loop-block l = record {
  len : length l.all.items ≡ length l.fn.all.items;
  read : (p : ℕ) → Adds (In l.fn.all.items p) (In l.all.items p) (Between (ReadsOf l.self.text.now l.self.graph.now p) 0 l.block);
}
