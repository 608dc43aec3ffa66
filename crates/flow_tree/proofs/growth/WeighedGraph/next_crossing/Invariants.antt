use Rattle.flow_tree.proofs.Common.{◌≡◌, length, true, Contains, heap_items, heap_len, graph_of, marked, crosses, AreCandidates, Candidate}
use Rattle.flow_tree.proofs.growth.WeighedGraph.next_crossing.Given as goal

abbrev pub invariant-loop-top : goal.invariant-loop-top
invariant-loop-top l = record {
  candidates : AreCandidates l.self.weights.now (heap_items l.heap);
  came : (c : Candidate) → Contains (heap_items l.heap) c → Contains (heap_items l.initial.heap) c;
  kept : (c : Candidate) → Contains (heap_items l.initial.heap) c → crosses (graph_of (length l.marks) l.self.links.now) (marked l.marks) c.edge ≡ true → Contains (heap_items l.heap) c;
}

abbrev pub decreases-loop-top : goal.decreases-loop-top
decreases-loop-top l = heap_len l.heap
