use Rattle.instr_counts.proofs.Common.{◌≡◌, ◌<◌, inl, inr, ℕ, List, get_or, length, map, arith, cases_lt, Edge, Graph, edge_seen, no_edge, no_noted, IsNoted}
use Rattle.std.proofs.lemmas.List.{get_or-map, get_or_default}
use Rattle.notes.specs.declared.note.NoteEdge.{NoteEdge}
use Rattle.instr_counts.proofs.matching.has_edges.Goals as goal

-- what the code reads is what the definition reads
read_alike : (graph : Graph) (noted : List NoteEdge) (edges : List Edge) (e : ℕ) (d : Edge) (n : NoteEdge)
    → e < length noted → e < length edges → IsNoted graph (edge_seen (get_or noted e n)) (get_or edges e d)
    → IsNoted graph (get_or (map edge_seen noted) e no_noted) (get_or edges e no_edge)
read_alike graph noted edges e d n within inside is =
    rw (get_or_default edges e no_edge d inside, get_or-map edge_seen noted e n no_noted within) is

pub loop-number-preserved : goal.loop-number-preserved
loop-number-preserved c e l = elim (cases_lt e c.loop-number.number) [
  | inl less ↦ c.loop-number.invariant e less
  | inr past ↦
      let same : c.loop-number.number ≡ e = omega (arith, past, l) in
      rw (← same) (read_alike c.args.graph.now c.args.noted.now c.args.graph.now.edges c.loop-number.number _ _ (omega arith)
      (rw c.edges-edges.ensures.edges at c.loop-number-test.true)
      (rw c.edges-edges.ensures.edges at (c.is_noted.ensures.0 c.if-not-is_noted.false)))
]
