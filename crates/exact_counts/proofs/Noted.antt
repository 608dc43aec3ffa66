-- The graph that notes tell is the original's.
use Rattle.exact_counts.proofs.Common.{All, ◌≡◌, ℕ, zero, suc, ◌+◌, ◌-◌, ◌*◌, ◌<◌, ◌≤◌, inl, inr, true, false, List, [], ◌∷◌, length, refl, ap, sym, ◌∙◌, arith, ◌==◌, if◌then◌else◌, ℤ, pos, is_some, list_any, cases_lt, eq-eqb, false≢true, lt-ltb, Notes, EdgeSet, IsFlow, count_below, rest, Op, Edge, Graph, edges_in, is_node, is_copied, links_of, snippet_on, Each, has_cell, noted_graph, leb-true, cases_Bool, nat_le, get_or, IsTrue, AllByRecursion, eqb-true, le-leb, le-ltb, or_left, or_right, false_from_ne_true, NoteEdge, get_or_default, each_in, IsEdgeIn, node_numbers, node_number, own_edge, no_own, note_edge, cell_noted, note_edges, ends_at, is_noted, lies_at, no_edge, edge_at, counted_by, is_counter}
use Rattle.tool_kit.specs.declared.edge_ref.ToolKind.{ToolKind}
use Rattle.flows.specs.SpanningTrees.{IsSpanningTree}
use Rattle.flows.specs.Flows.{NodeSet, Graph as PlainGraph, total}
use Rattle.std.proofs.lemmas.List.Folds.{list_any_at, list_any_none}
use Rattle.flows.proofs.Sums.{total_same}
use Rattle.flows.proofs.Weights.{weight_same}
use Rattle.tool_kit.specs.declared.edge_ref.ToolKind.TheVariants as tools
use Rattle.span_tree.proofs.Connected.{numbered}
use Rattle.span_tree.proofs.Landings.{landed_copy}
use Rattle.cfg_walk.proofs.NoneOpen.{edges_lie_in}

-- ---- plain graphs with the same links, the second with no more nodes

pub record AreAlike (g h : PlainGraph) : Type 0 where
  pub nodes : h.nodes ≤ g.nodes
  pub edges : g.edges ≡ h.edges
  pub from : (e : ℕ) → e < g.edges → g.from e ≡ h.from e
  pub to : (e : ℕ) → e < g.edges → g.to e ≡ h.to e

module _ (g h : PlainGraph) (alike : AreAlike g h) where
  -- what edges with an end at a node bring
  same_sum : (one other : ℕ → ℕ) (x : ℕ → ℤ) (v : ℕ) → ((e : ℕ) → e < g.edges → one e ≡ other e)
      → total g.edges (λ e. if one e == v then x e else pos 0)
      ≡ total h.edges (λ e. if other e == v then x e else pos 0)
  same_sum one other x v same = rw (← alike.edges) (total_same g.edges _ _ (λ e l. rw (same e l) refl))

  pub flow_alike : (a b : ℕ) (x : ℕ → ℤ) → IsFlow g a b x → IsFlow h a b x
  flow_alike a b x flow v l =
      rw (← same_sum g.to h.to x v alike.to, ← same_sum g.from h.from x v alike.from)
      (flow v (omega (arith, alike.nodes, l)))

  pub tree_alike : (nodes others : NodeSet) → ((v : ℕ) → v < h.nodes → IsTrue (others v) → IsTrue (nodes v))
      → count_below g.nodes nodes ≡ count_below h.nodes others
      → (s t : EdgeSet) → ((e : ℕ) → e < g.edges → s e ≡ t e) → IsSpanningTree g nodes s → IsSpanningTree h others t
  tree_alike own others there count s t same tree = record {
    joins = λ side none u v below under is_node other.
        tree.joins side (λ e l on. rw (alike.from e l, alike.to e l)
        (none e (omega (arith, alike.edges, l)) (rw (same e l) at on)))
        u v (omega (arith, alike.nodes, below)) (omega (arith, alike.nodes, under)) (there u below is_node) (there v under other);
    size = rw (← alike.edges, ← weight_same g.edges (λ e. 1) s t same, tree.size) count;
  }

each_by : {A : Type 0} (P : A → Type 0) (d : A) (xs : List A) → ((k : ℕ) → k < length xs → P (get_or xs k d))
    → AllByRecursion P xs
each_by P d [] each = tt
each_by P d (x ∷ xs) each = (each 0 (omega arith), each_by P d xs (λ k l. each (suc k) (omega (arith, l))))

-- ---- the edges of notes

module _ (graph : Graph) (kind : ToolKind) where
  pub length_noted : (edges : List Edge) (snips : List (List Op)) → length snips ≡ length edges
      → length (note_edges graph kind edges snips) ≡ length edges
  length_noted [] snips size = refl
  length_noted (edge ∷ edges) [] size = absurd (omega (arith, size))
  length_noted (edge ∷ edges) (ops ∷ snips) size = ap suc (length_noted edges snips (omega (arith, size)))

  noted_at : (edges : List Edge) (snips : List (List Op)) (e : ℕ) (past : NoteEdge) (d : Edge)
      → length snips ≡ length edges → e < length edges
      → get_or (note_edges graph kind edges snips) e past
      ≡ note_edge graph kind (get_or edges e d) (snippet_on snips e)
  noted_at [] snips e past d size l = absurd (omega (arith, l))
  noted_at (edge ∷ edges) [] e past d size l = absurd (omega (arith, size))
  noted_at (edge ∷ edges) (ops ∷ snips) zero past d size l = refl
  noted_at (edge ∷ edges) (ops ∷ snips) (suc e) past d size l =
      noted_at edges snips e past d (omega (arith, size)) (omega (arith, l))

-- notes of a profile
pub record AreNotesOf (graph : Graph) (snips : List (List Op)) (notes : Notes) : Type 0 where
  pub blocks : notes.blocks ≡ graph.blocks.firsts
  pub edges : notes.edges ≡ note_edges graph tools.Profile graph.edges snips
  pub size : length snips ≡ length graph.edges
  pub places : All (λ range. is_node graph range.node ≡ true) notes.ranges

module _ (graph : Graph) (snips : List (List Op)) (notes : Notes) (are : AreNotesOf graph snips notes) where
  abbrev count : ℕ
  count = length graph.blocks.firsts

  same_count : length notes.blocks ≡ count
  same_count = ap (λ (firsts : List ℕ). length firsts) are.blocks

  pub edge_count : length notes.edges ≡ length graph.edges
  edge_count = rw are.edges (length_noted graph tools.Profile graph.edges snips are.size)

  pub edge_is : (e : ℕ) → e < length graph.edges
      → edge_at notes e ≡ note_edge graph tools.Profile (own_edge graph e) (snippet_on snips e)
  edge_is e l = rw are.edges (noted_at graph tools.Profile graph.edges snips e no_edge _ are.size l)

  pub graphs_alike : AreAlike (links_of graph) (noted_graph notes)
  graphs_alike = record {
    nodes = omega (arith, same_count);
    edges = sym edge_count;
    from = λ e l. rw (edge_is e l) refl;
    to = λ e l. rw (edge_is e l) refl;
  }

  -- an edge has a cell where it has a counter
  noted_cell : (ops : List Op) → is_some (cell_noted tools.Profile ops) ≡ is_counter ops
  noted_cell [] = refl
  noted_cell (op ∷ ops) = refl

  pub has_cell_is : (e : ℕ) → e < length graph.edges → has_cell notes e ≡ counted_by snips e
  has_cell_is e l = rw (edge_is e l) (noted_cell (snippet_on snips e))

  -- ---- its nodes: the blocks, X, and the landed copies, to each of which an edge leads

  -- a number that is no node's
  module _ (inside : Each (IsEdgeIn graph.blocks graph.opens) graph.edges) (v : ℕ)
      (none : is_node graph v ≡ false) where
    other_number : (number : ℕ) → is_node graph number ≡ true → (number == v) ≡ false
    other_number number there = false_from_ne_true (number == v) (λ e.
        false≢true (sym none ∙ rw (eqb-true number v e) at there))

    noted_none : is_noted notes v ≡ false
    noted_none =
        let far : nat_le v (length notes.blocks) ≡ false = false_from_ne_true _ (λ e.
        false≢true (sym none ∙ rw (le-ltb count v (omega (arith, same_count, leb-true v (length notes.blocks) e))) refl)) in
        let ends : list_any (ends_at v) notes.edges ≡ false = list_any_none (ends_at v) notes.edges (λ e d l.
        let within : e < length graph.edges = rw edge_count at l in
        let is = each_in (IsEdgeIn graph.blocks graph.opens) graph.edges e no_own inside within in
        rw (
          get_or_default notes.edges e d no_edge l,
          edge_is e within,
          other_number _ (numbered graph _ is.from),
          other_number _ (numbered graph _ is.to),
        ) refl) in
        rw (far, ends) (list_any_none (lies_at v) notes.ranges (λ k d l. other_number _ (are.places k d l)))

  module _ (made : graph.edges ≡ edges_in graph.blocks graph.opens) (some : 1 ≤ count) where
    -- the landing at a copied block's copy
    noted_copy : (k : ℕ) → k < count → is_copied graph.opens k ≡ true → is_noted notes (count + 1 + k) ≡ true
    noted_copy k l is =
        let P : Edge → Type 0 =
        λ edge. node_number graph edge.to ≡ count + 1 + k → list_any (ends_at (count + 1 + k)) notes.edges ≡ true in
        let each = each_by P no_own graph.edges (λ e l same.
        list_any_at (ends_at (count + 1 + k)) notes.edges e no_edge (rw edge_count l)
        (rw (edge_is e l) (or_right _ _ (eq-eqb _ _ same)))) in
        or_left _ _ (or_right _ _ (landed_copy graph.blocks graph.opens P (rw made at each) k l is refl))

    noted_some : (v : ℕ) → v < node_numbers graph → is_node graph v ≡ true → is_noted notes v ≡ true
    noted_some v l is = elim (cases_lt count v) [
      | inl past ↦
          let same : count + 1 + (v - (count + 1)) ≡ v = omega (arith, past) in
          rw (← same) (noted_copy (v - (count + 1)) (omega (arith, past, l)) (rw (lt-ltb count v past) at is))
      | inr low ↦ or_left _ _ (or_left _ _ (le-leb v (length notes.blocks) (omega (arith, same_count, low))))
    ]

    nodes_alike : (v : ℕ) → v < node_numbers graph → is_node graph v ≡ is_noted notes v
    nodes_alike v l = elim (cases_Bool (is_node graph v)) [
      | inl is ↦ is ∙ sym (noted_some v l is)
      | inr is ↦ is ∙ sym (noted_none (rw made (edges_lie_in graph.blocks graph.opens some)) v is)
    ]

    pub tree_noted : IsSpanningTree (links_of graph) (is_node graph) (rest (counted_by snips))
        → IsSpanningTree (noted_graph notes) (is_noted notes) (rest (has_cell notes))
    tree_noted =
        let numbers : node_numbers graph ≡ 2 * length notes.blocks + 1 = omega (arith, same_count) in
        tree_alike (links_of graph) (noted_graph notes) graphs_alike (is_node graph) (is_noted notes)
        (λ v l there. rw (nodes_alike v (omega (arith, l, numbers))) there)
        (rw (← numbers) (weight_same (node_numbers graph) (λ e. 1) (is_node graph) (is_noted notes) nodes_alike))
        (rest (counted_by snips)) (rest (has_cell notes)) (λ e l. rw (has_cell_is e l) refl)
