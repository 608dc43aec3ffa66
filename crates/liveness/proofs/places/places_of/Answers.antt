use Rattle.liveness.proofs.Common.{◌≡◌, ℕ, ◌+◌, Bool, true, List, length, ◌⊎◌, Edge, Graph, node_numbers, edge_at, is_marked, AreMarks, IsMarked}
use borrow.Author.Count.{below_more}
use Rattle.liveness.proofs.places.places_of.Goals as goal

marks_more : (graph : Graph) (count : ℕ) (old new : List Bool) (edge : Edge) → AreMarks graph count old
    → edge ≡ edge_at graph count → (length new ≡ 0) ⊎ (length new ≡ node_numbers graph)
    → ((n : ℕ) → is_marked old n ≡ true → is_marked new n ≡ true) → IsMarked graph new edge
    → AreMarks graph (count + 1) new
marks_more graph count old new edge are is len kept here = record {
  len = len;
  marked = below_more (λ e. IsMarked graph new (edge_at graph e)) count
      (λ e low outside lands. kept _ (are.marked e low outside lands)) (rw is at here);
}

pub loop-e-preserved : goal.loop-e-preserved
loop-e-preserved c =
    marks_more c.args.graph.now c.loop-e.e c.loop-e.marks.items c.mark_edge.new.marks.items c.edge_at.result
    c.loop-e.invariant c.edge_at.ensures.edge c.in_ok-mark_edge.ensures.len c.in_ok-mark_edge.ensures.kept
    c.in_ok-mark_edge.ensures.marked
