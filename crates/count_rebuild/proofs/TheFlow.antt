-- The rebuilt flow as the definitions have it.
use Rattle.count_rebuild.proofs.Common.{◌≡◌, ℕ, ◌*◌, ◌<◌, ◌≤◌, true, not, List, length, map, ap, sym, ◌∙◌, subst, ℤ, IfSome, Option, Notes, EdgeSet, Graph, IsTheFlow, rest, graph_of, on, Link, edges_of, Tree, int_at, AreNotes, edge_seen, notes_seen, dump_seen, IsRefused, IsFirst, IsFlowTo, is_large, is_negative, StandsAt, cell_counts, cell_value, has_cell, is_node, noted_graph, link_of, IsBad, IsTreeOf}
use Rattle.flows.proofs.Bools.{not_twice}
use Rattle.notes.specs.declared.note.Notes as declared_notes
use Rattle.dump_file.specs.Dump.{Dump}
use Rattle.dump_file.specs.declared.dump.Dump as declared_dump
use Rattle.count_rebuild.specs.declared.fault.CountFault.{CountFault}
use Rattle.count_rebuild.specs.declared.fault.CountFault.TheVariants as faults
use Rattle.count_rebuild.proofs.Profile.{plain_is}
use Rattle.count_rebuild.proofs.Rules.{node_inside, values_are}

-- the same counted edges
the_flow_on : (g : Graph) (s r : EdgeSet) (a b : ℕ) (given x : ℕ → ℤ) → ((e : ℕ) → e < g.edges → s e ≡ r e)
    → IsTheFlow g s a b given x → IsTheFlow g r a b given x
the_flow_on g s r a b given x same h = record {
  flow = h.flow;
  agrees = λ e l t. h.agrees e l (same e l ∙ t);
  only = λ y flow agrees. h.only y flow (λ e l t. agrees e l (sym (same e l) ∙ t));
}

pub flow_to : (n : declared_notes.Notes) (d : declared_dump.Dump) (links told : List Link) (tree : Tree) (node : ℕ)
    (values flow : List ℤ)
    → links ≡ map (λ edge. link_of (edge_seen edge)) n.edges.items → IsTreeOf (notes_seen n) told tree
    → values ≡ map (λ edge. cell_value n.version d.cells.items (edge_seen edge).cell) n.edges.items
    → IsTheFlow (graph_of (length tree.reached.items) links) (rest (on (edges_of tree))) n.entry node (int_at values) (int_at flow)
    → IsFlowTo (notes_seen n) (dump_seen d) node (int_at flow)
flow_to n d links told tree node values flow are is held h =
    the_flow_on (noted_graph (notes_seen n)) (rest (on (edges_of tree))) (has_cell (notes_seen n)) n.entry node
    (cell_counts (notes_seen n) (dump_seen d)) (int_at flow) same
    (subst (λ (given : ℕ → ℤ). IsTheFlow (noted_graph (notes_seen n)) (rest (on (edges_of tree))) n.entry node given (int_at flow))
    (values_are n n.version d.cells.items values held)
    (subst (λ (g : Graph). IsTheFlow g (rest (on (edges_of tree))) n.entry node (int_at values) (int_at flow))
    (plain_is n tree.reached.items is.reached links are) h))
  where
    same : (e : ℕ) → e < length (map edge_seen n.edges.items) → rest (on (edges_of tree)) e ≡ has_cell (notes_seen n) e
    same e l = ap not (is.edges e l) ∙ not_twice (has_cell (notes_seen n) e)

-- the node where the run stands is one of the graph's
pub stands_inside : (n : declared_notes.Notes) (d : declared_dump.Dump) (node : ℕ) → AreNotes (notes_seen n)
    → StandsAt (notes_seen n) (dump_seen d) node
    → (node ≤ 2 * length n.blocks.items) × (is_node (notes_seen n) node ≡ true)
stands_inside n d node rules h =
    subst (λ (o : Option ℕ). IfSome o (λ node. (node ≤ 2 * length n.blocks.items) × (is_node (notes_seen n) node ≡ true)))
    h.at
    (node_inside (notes_seen n) d.pc.0 rules.ranges)

-- a flow that is below 0 somewhere is refused, and one that is too large
pub impossible : (notes : Notes) (dump : Dump) (node : ℕ) (flow : List ℤ) → StandsAt notes dump node
    → IsFlowTo notes dump node (int_at flow) → length flow ≡ length notes.edges
    → (fault : CountFault) → IsBad flow fault → IsRefused notes dump fault
impossible notes dump node flow stands is many (faults.Negative edge value) h = record {
  node = node;
  flow = int_at flow;
  stands = stands;
  is = is;
  first = subst (λ (edges : ℕ). IsFirst is_negative edges (int_at flow) edge.0 value) many h;
}
impossible notes dump node flow stands is many (faults.Large edge value) h = record {
  node = node;
  flow = int_at flow;
  stands = stands;
  is = is;
  whole = λ e l. h.0 e;
  first = subst (λ (edges : ℕ). IsFirst is_large edges (int_at flow) edge.0 value) many h.1;
}
impossible notes dump node flow stands is many faults.NoMemory h =
    stands.short.theirs.for_them.alike.right.tool
impossible notes dump node flow stands is many _ h = absurd h
