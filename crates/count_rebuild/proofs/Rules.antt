-- What the notes' rules and lists say of their graph.
use Rattle.count_rebuild.proofs.Common.{◌≡◌, ℕ, ◌+◌, ◌*◌, ◌<◌, ◌≤◌, Bool, true, false, ◌&&◌, List, [], ◌∷◌, get_or, length, map, nat_le, nat_lt, Option, Some, None, refl, ap, sym, ◌∙◌, arith, IfSome, ℤ, if◌then◌else◌, All, find, list_any, option_map, option_or, get_or-map, and_parts, cond_both, eq-eqb, le-leb, leb-true, or_left, or_right, length-map, All-cons, All-nil, list_any_at, NoteEdge, NoteRange, NoteSegment, Notes, holds, node_at, range_at, EdgeSet, Graph, NodeSet, graph_of, marked, IsSpanningTree, Link, int_at, are_edges, are_ranges, is_edge, is_range, with_cell, edge_seen, notes_seen, range_seen, segment_seen, any_map, cell_value, edge_at, ends_at, has_cell, is_node, lies_at, no_edge, noted_graph, is_counted, link_of}
use Rattle.flows.proofs.Weights.{weight_same}
use Rattle.eel_base.specs.declared.range.Range as declared_range
use Rattle.notes.specs.declared.note.NoteEdge as declared_edge
use Rattle.notes.specs.declared.note.Notes as declared_notes
use Rattle.v8_step.proofs.ValidMemory.{find-holds}

-- ---- lists that are made of the edges

map-map : {A B C : Type 0} (f : A → B) (g : B → C) (xs : List A) → map g (map f xs) ≡ map (λ x. g (f x)) xs
map-map f g [] = refl
map-map {C = C} f g (x ∷ xs) = ap (λ (ys : List C). g (f x) ∷ ys) (map-map f g xs)

pub links_seen : (edges : List declared_edge.NoteEdge) → map link_of (map edge_seen edges) ≡ map (λ edge. link_of (edge_seen edge)) edges
links_seen edges = map-map edge_seen link_of edges

noted_is : (notes : Notes) → graph_of (2 * length notes.blocks + 1) (map link_of notes.edges) ≡ noted_graph notes
noted_is notes = λ i. record {
  nodes = 2 * length notes.blocks + 1;
  edges = length-map notes.edges link_of i;
  from = λ e. ap (λ (l : Link). l.from) (get_or-map link_of notes.edges e no_edge) i;
  to = λ e. ap (λ (l : Link). l.to) (get_or-map link_of notes.edges e no_edge) i;
}

pub graph_is : (n : declared_notes.Notes) (count : ℕ) (links : List Link) → count ≡ 2 * length n.blocks.items + 1
    → links ≡ map (λ edge. link_of (edge_seen edge)) n.edges.items → graph_of count links ≡ noted_graph (notes_seen n)
graph_is n count links nodes are =
    rw (nodes, are, ← map-map edge_seen link_of n.edges.items) (noted_is (notes_seen n))

pub counted_is : (n : declared_notes.Notes) (counted : List Bool)
    → counted ≡ map (λ edge. is_counted (edge_seen edge)) n.edges.items → marked counted ≡ has_cell (notes_seen n)
counted_is n counted are = λ i e. at e i
  where
    at : (e : ℕ) → marked counted e ≡ has_cell (notes_seen n) e
    at e =
        ap (λ (marks : List Bool). marked marks e) (are ∙ sym (map-map edge_seen is_counted n.edges.items))
        ∙ get_or-map is_counted (map edge_seen n.edges.items) e no_edge

pub values_are : (n : declared_notes.Notes) (version : ℕ) (cells : List ℕ) (values : List ℤ)
    → values ≡ map (λ edge. cell_value version cells (edge_seen edge).cell) n.edges.items
    → int_at values ≡ (λ e. cell_value version cells (edge_at (notes_seen n) e).cell)
values_are n version cells values are = λ i e. at e i
  where
    held : NoteEdge → ℤ
    held edge = cell_value version cells edge.cell

    at : (e : ℕ) → int_at values e ≡ held (edge_at (notes_seen n) e)
    at e =
        ap (λ (values : List ℤ). int_at values e) (are ∙ sym (map-map edge_seen held n.edges.items))
        ∙ get_or-map held (map edge_seen n.edges.items) e no_edge

-- ---- the same nodes

pub same_nodes : (g : Graph) (p q : NodeSet) (t : EdgeSet) → ((v : ℕ) → v < g.nodes → p v ≡ q v)
    → IsSpanningTree g p t → IsSpanningTree g q t
same_nodes g p q t same h = record {
  joins = λ s none u v lu lv pu pv. h.joins s none u v lu lv (same u lu ∙ pu) (same v lv ∙ pv);
  size = h.size ∙ weight_same g.nodes (λ e. 1) p q same;
}

-- ---- the rules

pub edges_inside : (width blocks cells : ℕ) (taken : List ℕ) (edges : List NoteEdge)
    → are_edges width blocks cells taken edges ≡ true
    → All (λ (edge : NoteEdge). (edge.from ≤ 2 * blocks) × (edge.to ≤ 2 * blocks)) edges
edges_inside width blocks cells taken [] h = All-nil (λ (edge : NoteEdge). (edge.from ≤ 2 * blocks) × (edge.to ≤ 2 * blocks))
edges_inside width blocks cells taken (edge ∷ edges) h =
    let parts = and_parts (is_edge width blocks cells taken edge) _ h in
    let ends = and_parts _ _ (and_parts _ _ parts.0).0 in
    All-cons (λ (edge : NoteEdge). (edge.from ≤ 2 * blocks) × (edge.to ≤ 2 * blocks)) edge edges
    (leb-true edge.from (2 * blocks) (and_parts _ _ ends.0).1, leb-true edge.to (2 * blocks) ends.1)
    (edges_inside width blocks cells (with_cell edge.cell taken) edges parts.1)

ranges_inside : (blocks : ℕ) (segments : List NoteSegment) (end : ℕ) (ranges : List NoteRange)
    → are_ranges blocks segments end ranges ≡ true → All (λ (range : NoteRange). range.node ≤ 2 * blocks) ranges
ranges_inside blocks segments end [] h = All-nil (λ (range : NoteRange). range.node ≤ 2 * blocks)
ranges_inside blocks segments end (range ∷ ranges) h =
    let parts = and_parts (is_range blocks segments end range) _ h in
    All-cons (λ (range : NoteRange). range.node ≤ 2 * blocks) range ranges
    (leb-true range.node (2 * blocks) (and_parts _ _ parts.0).1) (ranges_inside blocks segments range.hi ranges parts.1)

-- ---- ends of edges and nodes of places are nodes

pub edge_named : (notes : Notes) (node k : ℕ) (d : NoteEdge) → k < length notes.edges
    → ends_at node (get_or notes.edges k d) ≡ true → is_node notes node ≡ true
edge_named notes node k d l h = or_left _ _ (or_right _ _ (list_any_at (ends_at node) notes.edges k d l h))

pub block_is_node : (notes : Notes) (node : ℕ) → node ≤ length notes.blocks → is_node notes node ≡ true
block_is_node notes node l = or_left _ _ (or_left _ _ (le-leb node (length notes.blocks) l))

-- ---- where an address stands

abbrev IsInside : Notes → ℕ → Type 0
IsInside notes node = (node ≤ 2 * length notes.blocks) × (is_node notes node ≡ true)

pub node_inside : (notes : Notes) (address : ℕ)
    → are_ranges (length notes.blocks) notes.segments 0 notes.ranges ≡ true
    → IfSome (node_at notes address) (IsInside notes)
node_inside notes address h =
    by (range_at notes address) (find-holds (λ (range : NoteRange). IsInside notes range.node)
    (λ range. nat_le range.lo address && nat_lt address range.hi) notes.ranges
    (λ k d l. (
      ranges_inside (length notes.blocks) notes.segments 0 notes.ranges h k d l,
      or_right _ _ (list_any_at (lies_at (get_or notes.ranges k d).node) notes.ranges k d l (eq-eqb _ _ refl)),
    )))
  where
    by : (o : Option NoteRange) → IfSome o (λ (range : NoteRange). IsInside notes range.node)
        → IfSome (option_or (option_map (λ (range : NoteRange). range.node) o)
        (if list_any (holds address (address + 1)) notes.segments then None else Some (length notes.blocks)))
        (IsInside notes)
    by None h =
        cond_both (list_any (holds address (address + 1)) notes.segments) None (Some (length notes.blocks))
        (λ o. IfSome o (IsInside notes)) (λ e. tt)
        (λ e. (omega arith, block_is_node notes (length notes.blocks) (omega arith)))
    by (Some range) h = h

pub find-map : {A B : Type 0} (p : B → Bool) (f : A → B) (xs : List A) → find p (map f xs) ≡ option_map f (find (λ x. p (f x)) xs)
find-map p f [] = refl
find-map p f (x ∷ xs) = let rest = find-map p f xs in grind (arith, rest)

-- as the code finds it
module _ (n : declared_notes.Notes) (address : ℕ) where
  abbrev pub found : Option declared_range.Range
  found = find (λ range. nat_le range.lo.0 address && nat_lt address range.hi.0) n.ranges.items

  abbrev paged : Bool
  paged = list_any (λ segment. holds address (address + 1) (segment_seen segment)) n.segments.items

  abbrev node_by : Option declared_range.Range → Bool → Option ℕ
  node_by o page =
      option_or (option_map (λ (range : NoteRange). range.node) (option_map range_seen o))
      (if page then None else Some (length n.blocks.items))

  node_is : node_at (notes_seen n) address ≡ node_by found paged
  node_is =
      rw (
        find-map (λ range. nat_le range.lo address && nat_lt address range.hi) range_seen n.ranges.items,
        any_map (holds address (address + 1)) segment_seen n.segments.items,
      ) refl

  pub at_place : (range : declared_range.Range) → found ≡ Some range → Some range.node ≡ node_at (notes_seen n) address
  at_place range e = sym (node_is ∙ ap (λ o. node_by o paged) e)

  pub at_page : found ≡ None → paged ≡ true → None ≡ node_at (notes_seen n) address
  at_page e p = sym (node_is ∙ ap (λ o. node_by o paged) e ∙ ap (node_by None) p)

  pub at_outside : found ≡ None → paged ≡ false → Some (length n.blocks.items) ≡ node_at (notes_seen n) address
  at_outside e p = sym (node_is ∙ ap (λ o. node_by o paged) e ∙ ap (node_by None) p)
