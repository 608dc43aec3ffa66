-- Notes of a profile, as the code tells them.
use Rattle.count_rebuild.proofs.Common.{◌≡◌, ℕ, ◌*◌, ◌≤◌, Bool, true, List, [], get_or, length, map, refl, ap, sym, ◌∙◌, subst, arith, IsTrue, eq-eqb, or_left, or_right, length-map, All-map, NoteEdge, counter_width, EdgeSet, Graph, rest, JoinsNodes, graph_of, marked, IsSpanningTree, Link, AreNotes, edge_seen, notes_seen, AreNodes, is_counted, link_of, has_cell, is_node, noted_graph}
use Rattle.notes.specs.declared.note.Notes as declared_notes
use Rattle.count_rebuild.proofs.Rules.{counted_is, edge_named, edges_inside, graph_is, links_seen, same_nodes}

module _ (n : declared_notes.Notes) (nodes : List Bool) (are_nodes : AreNodes (notes_seen n) nodes) where
  pub node_marked : (v : ℕ) → v ≤ 2 * length n.blocks.items → is_node (notes_seen n) v ≡ true → marked nodes v ≡ true
  node_marked v l h = are_nodes.are v (let len = are_nodes.len in omega (arith, l, len)) ∙ h

  module _ (links : List Link) (are : links ≡ map (λ edge. link_of (edge_seen edge)) n.edges.items) where
    pub joins : AreNotes (notes_seen n) → JoinsNodes nodes links
    joins rules =
        subst (JoinsNodes nodes) (sym (are ∙ sym (links_seen n.edges.items)))
        (All-map (λ (l : Link). IsTrue (marked nodes l.from) × IsTrue (marked nodes l.to)) link_of (map edge_seen n.edges.items)
        (λ k d l.
        let edges = map edge_seen n.edges.items in
        let inside = edges_inside (counter_width n.version) (length n.blocks.items) n.cells [] edges rules.edges k d l in
        let edge : NoteEdge = get_or edges k d in (
          node_marked edge.from inside.0
              (edge_named (notes_seen n) edge.from k d l (or_left _ _ (eq-eqb edge.from edge.from refl))),
          node_marked edge.to inside.1
              (edge_named (notes_seen n) edge.to k d l (or_right _ _ (eq-eqb edge.to edge.to refl))),
        )))

    pub plain_is : graph_of (length nodes) links ≡ noted_graph (notes_seen n)
    plain_is = graph_is n (length nodes) links are_nodes.len are

    module _ (counted : List Bool) (marks : counted ≡ map (λ edge. is_counted (edge_seen edge)) n.edges.items) where
      rest_is : rest (marked counted) ≡ rest (has_cell (notes_seen n))
      rest_is = ap rest (counted_is n counted marks)

      pub tree_of : IsSpanningTree (graph_of (length nodes) links) (marked nodes) (rest (marked counted))
          → IsSpanningTree (noted_graph (notes_seen n)) (is_node (notes_seen n)) (rest (has_cell (notes_seen n)))
      tree_of h =
          subst (λ (g : Graph). IsSpanningTree g (is_node (notes_seen n)) (rest (has_cell (notes_seen n)))) plain_is
          (subst (IsSpanningTree (graph_of (length nodes) links) (is_node (notes_seen n))) rest_is
          (same_nodes (graph_of (length nodes) links) (marked nodes) (is_node (notes_seen n)) (rest (marked counted))
          are_nodes.are h))

      pub tree_from : IsSpanningTree (noted_graph (notes_seen n)) (is_node (notes_seen n)) (rest (has_cell (notes_seen n)))
          → IsSpanningTree (graph_of (length nodes) links) (marked nodes) (rest (marked counted))
      tree_from h =
          same_nodes (graph_of (length nodes) links) (is_node (notes_seen n)) (marked nodes) (rest (marked counted))
          (λ v l. sym (are_nodes.are v l))
          (subst (IsSpanningTree (graph_of (length nodes) links) (is_node (notes_seen n))) (sym rest_is)
          (subst (λ (g : Graph). IsSpanningTree g (is_node (notes_seen n)) (rest (has_cell (notes_seen n)))) (sym plain_is) h))

      pub rest_at : (e : ℕ) → rest (marked counted) e ≡ rest (has_cell (notes_seen n)) e
      rest_at e = ap (λ (s : EdgeSet). s e) rest_is

pub length_links : (n : declared_notes.Notes) (links : List Link) → links ≡ map (λ edge. link_of (edge_seen edge)) n.edges.items
    → length links ≡ length n.edges.items
length_links n links are = ap length are ∙ length-map n.edges.items _
