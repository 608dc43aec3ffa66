-- Where an item first stands in a list; the tables that say so, of edges and of open switches.
use Rattle.image_code.proofs.Common.{◌≡◌, ℕ, suc, ◌+◌, ◌<◌, Bool, ◌&&◌, ◌==◌, List, [], ◌∷◌, ◌++◌, Option, Some, length, length-take, take, refl, ap, ◌∙◌, arith, inl, inr, cases_Bool, if◌then◌else◌, slice_index_or, position, option_or, option_to_list, nat_tests, take_more, All, Words, BlockNo, EdgeKind, Edge, Node, Block, Graph, IsEdgeIn, IsNodeIn, same_kind, same_node, node_number, edge_along, same_kinds, and-false, kind_number, Coded-set, coded_list, coded_ℕ, ∥∥₁_elim, AreFound, first_mark, number_where, is_case, is_edge_at, is_land, mark_at, mark_of, node_of_edge}
use Rattle.cfg_blocks.specs.declared.EdgeKind.TheVariants as kinds
use Rattle.cfg_normal.specs.Landings.{IsNumbered}
use Rattle.image_code.specs.declared.lookups.Lookups.{Lookups}

-- ---- positions

module _ {A : Type 0} (p : A → Bool) where
  -- one item more
  position_more : (xs : List A) (x : A)
      → position p (xs ++ x ∷ []) ≡ option_or (position p xs) (number_where (p x) (length xs))
  position_more [] x = grind (arith, nat_tests)
  position_more (y ∷ ys) x = grind (arith, nat_tests, position_more ys x)

  -- one item more of a list
  pub positions_more : (xs : List A) (n : ℕ) (d : A) (was now : Option ℕ) → n < length xs
      → was ≡ position p (take n xs) → now ≡ option_or was (number_where (p (slice_index_or xs n d)) n)
      → now ≡ position p (take (n + 1) xs)
  positions_more xs n d was now l held next =
      let many : length (take n xs) ≡ n = omega (arith, length-take n xs) in
      rw (next, held, take_more xs n d l, position_more (take n xs) (slice_index_or xs n d), many)

-- two tests that agree on all items
position-same : {A : Type 0} (P : A → Type 0) (p q : A → Bool) (xs : List A) → All P xs
    → ((x : A) → P x → p x ≡ q x) → position p xs ≡ position q xs
position-same P p q [] h same = refl
position-same P p q (x ∷ xs) h same =
    grind (arith, nat_tests, same x (h 0 x (omega arith)), position-same P p q xs (λ k d l. h (suc k) d (omega arith)) same)

-- ---- marks

pub mark_same : (one other : Option ℕ) → mark_of one ≡ mark_of other → one ≡ other
mark_same one other e = grind arith

-- one item more of a list
pub mark_more : {A : Type 0} (p : A → Bool) (xs : List A) (n : ℕ) (d : A) (was now : ℕ) → n < length xs
    → was ≡ mark_of (position p (take n xs)) → now ≡ first_mark (p (slice_index_or xs n d)) n was
    → now ≡ mark_of (position p (take (n + 1) xs))
mark_more p xs n d was now l held next =
    rw (next, held, ← positions_more p xs n d (position p (take n xs)) _ l refl refl) (grind (arith, nat_tests))

-- ---- numbers by which nodes and kinds are told apart

kinds_same : (one other : EdgeKind) → (kind_number one == kind_number other) ≡ same_kind one other
kinds_same one other = grind arith

abbrev IsOneOf : Graph → Node → Type 0
IsOneOf graph node = IsNumbered (length graph.blocks.firsts) node

numbered : (graph : Graph) (node : Node) → IsNodeIn graph.blocks graph.opens node → IsOneOf graph node
numbered graph node h = grind arith

nodes_same : (graph : Graph) (one other : Node) → IsOneOf graph one → IsOneOf graph other
    → (node_number graph one == node_number graph other) ≡ same_node one other
nodes_same graph one other h k = grind (arith, nat_tests)

-- ---- edges

-- the node by which an edge is found, where it has a kind: of a landing that to which it leads
abbrev end_of : EdgeKind → Edge → Node
end_of kind edge = if is_land kind then edge.to else edge.from

by_kind : (graph : Graph) (node : Node) → IsOneOf graph node → (kind : EdgeKind) (edge : Edge)
    → IsEdgeIn graph.blocks graph.opens edge → is_edge_at graph (node_number graph node) (kind_number kind) edge
    ≡ (same_node (end_of kind edge) node && same_kind edge.kind kind)
by_kind graph node here kind edge inside =
    let from = nodes_same graph edge.from node (numbered graph edge.from inside.from) here in
    let to = nodes_same graph edge.to node (numbered graph edge.to inside.to) here in
    let by : (node_of_edge graph edge == node_number graph node) ≡ same_node (end_of edge.kind edge) node =
    elim (cases_Bool (is_land edge.kind)) [ inl e ↦ rw e to | inr e ↦ rw e from ] in
    rw (by, kinds_same edge.kind kind) (elim (cases_Bool (same_kind edge.kind kind)) [
      | inl e ↦ rw (same_kinds edge.kind kind e) refl
      | inr e ↦ rw (e, and-false, and-false) refl
    ])

module _ {text : Words} {graph : Graph} {l : Lookups} (known : ∥ AreFound text graph l ∥₁) where
  -- the edge of a kind at a node
  pub edge_is : (node : Node) → IsOneOf graph node → (kind : EdgeKind) (found : Option ℕ)
      → mark_of found ≡ mark_at l.edges.items (node_number graph node) (kind_number kind) → option_to_list found
      ≡ option_to_list (position (λ edge. same_node (end_of kind edge) node && same_kind edge.kind kind) graph.edges)
  edge_is node here kind found is =
      ∥∥₁_elim known (Coded-set (coded_list coded_ℕ) _ _) (λ h.
      ap option_to_list (mark_same found _ (is ∙ h.lookups.edges.each (node_number graph node) (kind_number kind))
      ∙ position-same (IsEdgeIn graph.blocks graph.opens) _ _ graph.edges h.source.is_graph.edges
      (by_kind graph node here kind)))

  -- the Case edge between two nodes
  pub case_edge_is : (block : BlockNo) (to : Node) → block.0 < length graph.blocks.firsts → IsOneOf graph to
      → (found : Option ℕ) → (AreFound text graph l
      → found ≡ position (is_case graph (record { from = block.0; to = node_number graph to })) graph.edges)
      → option_to_list found ≡ edge_along graph (Block block) (record { kind = kinds.Case; to = Some to })
  case_edge_is block to low here found is =
      ∥∥₁_elim known (Coded-set (coded_list coded_ℕ) _ _) (λ h.
      ap option_to_list (is h ∙ position-same (IsEdgeIn graph.blocks graph.opens) _ _ graph.edges
      h.source.is_graph.edges (λ edge inside. rw (
        nodes_same graph edge.from (Block block) (numbered graph edge.from inside.from) low,
        nodes_same graph edge.to to (numbered graph edge.to inside.to) here,
      ) (grind (arith, nat_tests)))))
