use Rattle.liveness.proofs.Common.{◌≡◌, ℕ, length, Adds, Between, In, ReadsAt, first_in}
use Rattle.liveness.proofs.chart.Chart.read_node.Given as goal

abbrev pub invariant-loop-word : goal.invariant-loop-word
invariant-loop-word l = record {
  len : length l.all.items ≡ length l.fn.all.items;
  read : (p : ℕ) → Adds (In l.fn.all.items p) (In l.all.items p)
      (Between (ReadsAt l.self.text.now l.self.graph.now p l.node) (first_in l.self.graph.now l.node) l.word);
}
