use Rattle.flow_tree.proofs.Common.{◌≡◌, ℕ, length, take, true, Contains, heap_items, graph_of, marked, crosses, AreCandidates, candidate, Candidate}
use Rattle.flow_tree.proofs.growth.WeighedGraph.offer_all.Given as goal

abbrev pub invariant-loop-edge : goal.invariant-loop-edge
invariant-loop-edge l = record {
  candidates : AreCandidates l.self.weights.now (heap_items l.heap);
  kept : (c : Candidate) → Contains (heap_items l.initial.heap) c → Contains (heap_items l.heap) c;
  added : (e : ℕ) → Contains (take l.edge-index l.row) e → crosses (graph_of (length l.marks) l.self.links.now) (marked l.marks) e ≡ true → Contains (heap_items l.heap) (candidate l.self.weights.now e);
}
