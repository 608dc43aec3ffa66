-- The edges of a graph, found by the node that they leave, or to which they lead, and by their kind.
use Rattle.cfg_walk.proofs.Common.{◌≡◌, ℕ, ◌<◌, Bool, true, false, ◌&&◌, ◌||◌, List, [], ◌∷◌, ◌++◌, length, map, Option, Some, refl, ap, sym, ◌∙◌, subst, inl, inr, arith, if◌then◌else◌, ◌⊎◌, ◌==◌, filter, list_any, flat_map, slice_get, position, option_to_list, list_any-append, and_parts, cases_Bool, cond_both, eq-eqb, false≢true, EdgeKind, Way, Blocks, below, end_of, last_word, ways_from, Edge, Node, Block, Landed, X, home_of, IsNodeIn, Open, is_copied, jumps_in, Graph, case_nodes, case_of, copied_edges, directed, graph_of, has_cases, landings_of, node_of, edge_of, edges_of, edges_in, landing_at, once_onto, ways_out, edge_along, edge_from, landing_number, is_to, node_after, led_to, same_kind, same_node, same_itself}
use Rattle.std.proofs.lemmas.List.Quantifiers.{position-Some}
use Rattle.std.proofs.lemmas.Option.{get_or_from_slice_get}
use Rattle.std.proofs.Math.Bool.{or-true}
use Rattle.cfg_blocks.specs.declared.EdgeKind.TheVariants as kinds
use Rattle.cfg_walk.proofs.Lists.{Each, each, each-append, each-flat_map, each-map, each-then, each_at, any_below, any-map, IsFound, found}
use Rattle.cfg_walk.proofs.Ways.{IsOne, IsOwn, ways_are_own}

abbrev pub block : ℕ → Node
block k = Block (record { 0 = k })

abbrev pub copy : ℕ → Node
copy k = Landed (record { 0 = k })

-- the list has the number of an edge alone, and this is the edge
pub record IsEdge (graph : Graph) (numbers : List ℕ) (edge : Edge) : Type 0 where
  pub number : ℕ
  pub only : numbers ≡ number ∷ []
  pub is : slice_get graph.edges number ≡ Some edge

-- so it leads there
pub leads_along : (graph : Graph) (node : Node) (numbers : List ℕ) (edge : Edge) → IsEdge graph numbers edge
    → node_after graph node numbers ≡ edge.to
leads_along graph node numbers edge h = ap (node_after graph node) h.only ∙ ap (led_to node) h.is

edge_is : (graph : Graph) (p : Edge → Bool) (edge : Edge) → IsFound p graph.edges edge
    → IsEdge graph (option_to_list (position p graph.edges)) edge
edge_is graph p edge h = record { number = h.number; only = ap option_to_list h.at; is = h.is }

-- ---- nodes

pub same_nodes : (one other : Node) → same_node one other ≡ true → one ≡ other
same_nodes one other e = grind arith

same_swap : (one other : Node) → same_node one other ≡ same_node other one
same_swap one other = grind arith

-- a node whose home is a block is that block or its copy
pub node_at : (node : Node) (k : ℕ) → home_of node ≡ block k → (node ≡ block k) ⊎ (node ≡ copy k)
node_at (Block a) k e = inl e
node_at (Landed a) k e = let same : a.0 ≡ k = cc in inr (ap copy same)
node_at X k e = absurd (cc)

-- ---- lists

-- the tests by which edges are found
abbrev leaves_by : Node → EdgeKind → Edge → Bool
leaves_by node kind edge = same_node edge.from node && same_kind edge.kind kind

abbrev goes_by_case : Node → Node → Edge → Bool
goes_by_case node to edge = is_to (Some to) edge && leaves_by node kinds.Case edge

abbrev lands_on : Node → Edge → Bool
lands_on node edge = same_node edge.to node && same_kind edge.kind kinds.Land

abbrev pub is_it : Node → Node → Bool
is_it to n = same_node n to

abbrev has : ℕ → List ℕ → Bool
has k xs = list_any (λ x. x == k) xs

any_in_flat : {A : Type 0} (p : A → Bool) (f : ℕ → List A) (xs : List ℕ) (k : ℕ) → has k xs ≡ true
    → list_any p (f k) ≡ true → list_any p (flat_map f xs) ≡ true
any_in_flat p f [] k l h = absurd (false≢true l)
any_in_flat p f (x ∷ xs) k l h =
    list_any-append p (f x) (flat_map f xs) ∙ (let rest = any_in_flat p f xs k in grind (arith, rest))

any_filtered : (q : ℕ → Bool) (xs : List ℕ) (k : ℕ) → has k xs ≡ true → q k ≡ true → has k (filter q xs) ≡ true
any_filtered q [] k l h = absurd (false≢true l)
any_filtered q (x ∷ xs) k l h = let rest = any_filtered q xs k in grind (arith, rest)

-- a node that is among others
turned : (node : Node) (xs : List Node) → list_any (same_node node) xs ≡ true → list_any (is_it node) xs ≡ true
turned node [] any = any
turned node (x ∷ xs) any = let rest = turned node xs in let swap = same_swap node x in grind (arith, rest, swap)

alike : (node : Node) (xs : List Node) → list_any (is_it node) xs ≡ true
    → list_any (λ n. same_node n node && true) xs ≡ true
alike node [] h = h
alike node (x ∷ xs) h = let rest = alike node xs in grind (arith, rest)

pub number_of_list : (o : Option ℕ) (number : ℕ) → option_to_list o ≡ number ∷ [] → o ≡ Some number
number_of_list o number e = grind arith

module _ (b : Blocks) (opens : List Open) where
  abbrev graph : Graph
  graph = graph_of b opens

  abbrev own : List Edge
  own = flat_map (edges_of b opens) (below (length b.firsts))

  abbrev copied : List Edge
  copied = flat_map (copied_edges b opens) (filter (is_copied opens) (below (length b.firsts)))

  abbrev landings : List Edge
  landings = map landing_at (flat_map (landings_of opens) (below (length b.firsts)))

  pub each_edge : (P : Edge → Type 0) → Each P own → Each P copied → Each P landings → Each P (edges_in b opens)
  unfolding edges_in
  each_edge P one two three = each-append P (own ++ copied) landings (each-append P own copied one two) three

  any_own : (p : Edge → Bool) → list_any p own ≡ true → list_any p (edges_in b opens) ≡ true
  unfolding edges_in
  any_own p h = simp (list_any-append, h)

  any_copied : (p : Edge → Bool) → list_any p copied ≡ true → list_any p (edges_in b opens) ≡ true
  unfolding edges_in
  any_copied p h = simp (list_any-append, h, or-true)

  any_landing : (p : Edge → Bool) → list_any p landings ≡ true → list_any p (edges_in b opens) ≡ true
  unfolding edges_in
  any_landing p h = simp (list_any-append, h, or-true)

  -- ---- edges that leave a node

  abbrev pub edges_at : Node → List Edge
  edges_at (Block k) = edges_of b opens k.0
  edges_at (Landed k) = copied_edges b opens k.0
  edges_at X = []

  ways_leave : (node : Node) (k : ℕ) → Each (λ edge. edge.from ≡ node) (ways_out b opens node k)
  ways_leave node k =
      each-map (λ edge. edge.from ≡ node) (edge_of b opens node k) (ways_from b k) (each _ (ways_from b k) (λ x. refl))

  pub leave_own : (k : ℕ) → Each (λ edge. edge.from ≡ block k) (edges_of b opens k)
  leave_own k =
      cond_both (jumps_in opens k) (map (case_of b k) (case_nodes b opens k)) (ways_out b opens (block k) k)
      (Each (λ edge. edge.from ≡ block k))
      (λ _. each-map (λ edge. edge.from ≡ block k) (case_of b k) (case_nodes b opens k)
      (each _ (case_nodes b opens k) (λ x. refl)))
      (λ _. ways_leave (block k) k)

  pub leave_node : (node : Node) → Each (λ edge. edge.from ≡ node) (edges_at node)
  leave_node (Block k) = leave_own k.0
  leave_node (Landed k) = ways_leave (copy k.0) k.0
  leave_node X = tt

  module _ (p : Edge → Bool) (v : Edge) (node : Node) (there : IsNodeIn b opens node) (home : same_node X node ≡ false)
      (leaves : (edge : Edge) → p edge ≡ true → same_node edge.from node ≡ true)
      (only : Each (λ edge. p edge ≡ true → edge ≡ v) (edges_at node)) where
    no_other : (other : Node) → Each (λ edge. p edge ≡ true → edge ≡ v) (edges_at other)
    no_other other = elim (cases_Bool (same_node other node)) [
      | inl e ↦
          subst (λ (n : Node). Each (λ edge. p edge ≡ true → edge ≡ v) (edges_at n)) (sym (same_nodes other node e)) only
      | inr e ↦
          each-then (λ edge. edge.from ≡ other) (λ edge. p edge ≡ true → edge ≡ v) (edges_at other)
          (λ x from passes. absurd (false≢true (sym e ∙ ap (λ n. same_node n node) (sym from) ∙ leaves x passes)))
          (leave_node other)
    ]

    pub found_at : list_any p (edges_at node) ≡ true → IsFound p (edges_in b opens) v
    found_at any =
        found p v (edges_in b opens) (at_node node there any)
        (each_edge (λ edge. p edge ≡ true → edge ≡ v)
        (each-flat_map _ (edges_of b opens) _ (each _ _ (λ j. no_other (block j))))
        (each-flat_map _ (copied_edges b opens) _ (each _ _ (λ j. no_other (copy j))))
        (each-map _ landing_at _ (each _ _ (λ n passes. absurd (false≢true (sym home ∙ leaves (landing_at n) passes))))))
      where
        at_node : (n : Node) → IsNodeIn b opens n → list_any p (edges_at n) ≡ true
            → list_any p (edges_in b opens) ≡ true
        at_node (Block k) within any =
            any_own p (any_in_flat p (edges_of b opens) (below (length b.firsts)) k.0
            (any_below (λ x. x == k.0) (length b.firsts) k.0 within (eq-eqb k.0 k.0 refl)) any)
        at_node (Landed k) within any =
            any_copied p (any_in_flat p (copied_edges b opens) _ k.0
            (any_filtered (is_copied opens) (below (length b.firsts)) k.0
            (any_below (λ x. x == k.0) (length b.firsts) k.0 within.0 (eq-eqb k.0 k.0 refl)) within.1) any)
        at_node X within any = absurd (false≢true any)

  -- ---- the edge of a way

  not_outside : (node : Node) (k : ℕ) → home_of node ≡ block k → same_node X node ≡ false
  not_outside node k e = grind arith

  plain_edges : (node : Node) (k : ℕ) → home_of node ≡ block k → has_cases opens node ≡ false
      → edges_at node ≡ ways_out b opens node k
  plain_edges node k e quiet = elim (node_at node k e) [
    | inl here ↦ rw here (ap (λ (x : Bool). if x then map (case_of b k) (case_nodes b opens k) else ways_out b opens (block k) k) (rw here at quiet))
    | inr there ↦ rw there
  ]

  pub edge_found : (node : Node) (k : ℕ) (w : Way) → IsNodeIn b opens node → home_of node ≡ block k
      → has_cases opens node ≡ false → IsOne w (ways_from b k)
      → IsEdge graph (edge_from graph node w.kind) (edge_of b opens node k w)
  edge_found node k w there home quiet h =
      edge_is graph (leaves_by node w.kind) (edge_of b opens node k w)
      (found_at (leaves_by node w.kind) (edge_of b opens node k w) node there (not_outside node k home) (λ edge e. (and_parts _ _ e).0)
      (rw own_is (each-map (λ edge. leaves_by node w.kind edge ≡ true → edge ≡ edge_of b opens node k w) (edge_of b opens node k)
      (ways_from b k)
      (each-then (λ (x : Way). same_kind x.kind w.kind ≡ true → x ≡ w)
      (λ (x : Way). (leaves_by node w.kind) (edge_of b opens node k x) ≡ true → edge_of b opens node k x ≡ edge_of b opens node k w)
      (ways_from b k) (λ x same e. ap (edge_of b opens node k) (same (and_parts _ _ e).1)) h.only)))
      (rw own_is (any-map (leaves_by node w.kind) (edge_of b opens node k) (ways_from b k)
      (subst (λ t. list_any (λ (x : Way). t && same_kind x.kind w.kind) (ways_from b k) ≡ true)
      (sym (same_itself node)) h.any))))
    where
      own_is : edges_at node ≡ ways_out b opens node k
      own_is = plain_edges node k home quiet

  -- ---- the edge to a node where a jump goes by case

  kept : (node to : Node) (xs : List Node) → list_any (same_node node) xs ≡ true → same_node node to ≡ true
      → list_any (is_it to) xs ≡ true
  kept node to xs any is = subst (λ (n : Node). list_any (is_it n) xs ≡ true) (same_nodes node to is) (turned node xs any)

  pub any_once : (to : Node) (seen nodes : List Node)
      → (list_any (is_it to) seen || list_any (is_it to) nodes) ≡ true
      → list_any (is_it to) (once_onto seen nodes) ≡ true
  any_once to seen [] h = grind arith
  any_once to seen (node ∷ nodes) h =
      any_once to (if list_any (same_node node) seen then seen else seen ++ node ∷ []) nodes
      (let k = kept node to seen in let a = list_any-append (is_it to) seen (node ∷ []) in grind (arith, k, a))

  pub case_found : (k : ℕ) (to : Node) → k < length b.firsts → jumps_in opens k ≡ true
      → list_any (λ n. same_node n to) (case_nodes b opens k) ≡ true
      → IsEdge graph (edge_along graph (block k) (record { kind = kinds.Case; to = Some to })) (case_of b k to)
  case_found k to within jumps any =
      edge_is graph (goes_by_case (block k) to) (case_of b k to)
      (found_at (goes_by_case (block k) to) (case_of b k to) (block k) within refl (λ edge e. (and_parts _ _ (and_parts _ _ e).1).0)
      (rw own_is (each-map (λ edge. (goes_by_case (block k) to) edge ≡ true → edge ≡ case_of b k to) (case_of b k) (case_nodes b opens k)
      (each _ (case_nodes b opens k) (λ n e. ap (case_of b k) (same_nodes n to (and_parts _ _ e).0)))))
      (rw own_is (any-map (goes_by_case (block k) to) (case_of b k) (case_nodes b opens k)
      (subst (λ t. list_any (λ n. same_node n to && (t && true)) (case_nodes b opens k) ≡ true)
      (sym (same_itself (block k))) (alike to (case_nodes b opens k) any)))))
    where
      own_is : edges_of b opens k ≡ map (case_of b k) (case_nodes b opens k)
      own_is =
          ap (λ (x : Bool). if x then map (case_of b k) (case_nodes b opens k) else ways_out b opens (block k) k) jumps

  -- ---- landings

  none_of_ways : (node : Node) (k : ℕ) → Each (λ edge. same_kind edge.kind kinds.Land ≡ false) (ways_out b opens node k)
  none_of_ways node k =
      each-map (λ edge. same_kind edge.kind kinds.Land ≡ false) (edge_of b opens node k) (ways_from b k)
      (each-then IsOwn (λ (x : Way). same_kind (edge_of b opens node k x).kind kinds.Land ≡ false) (ways_from b k)
      (λ x own. own.0) (ways_are_own b.words (last_word b.firsts b.words k) (end_of b k)))

  none_own : (k : ℕ) → Each (λ edge. same_kind edge.kind kinds.Land ≡ false) (edges_of b opens k)
  none_own k =
      cond_both (jumps_in opens k) (map (case_of b k) (case_nodes b opens k)) (ways_out b opens (block k) k)
      (Each (λ edge. same_kind edge.kind kinds.Land ≡ false))
      (λ _. each-map (λ edge. same_kind edge.kind kinds.Land ≡ false) (case_of b k) (case_nodes b opens k)
      (each _ (case_nodes b opens k) (λ x. refl)))
      (λ _. none_of_ways (block k) k)

  pub landing_found : (node : Node) (k : ℕ) → k < length b.firsts
      → list_any (λ n. same_node n node) (landings_of opens k) ≡ true
      → IsEdge graph (landing_number graph node) (landing_at node)
  landing_found node k within any =
      edge_is graph (lands_on node) (landing_at node) (found (lands_on node) (landing_at node) (edges_in b opens)
      (any_landing (lands_on node) (any-map (lands_on node) landing_at _
      (any_in_flat (λ n. same_node n node && true) (landings_of opens) (below (length b.firsts)) k
      (any_below (λ x. x == k) (length b.firsts) k within (eq-eqb k k refl)) (alike node (landings_of opens k) any))))
      (each_edge (λ edge. (lands_on node) edge ≡ true → edge ≡ landing_at node)
      (each-flat_map _ (edges_of b opens) _ (each _ _ (λ j. quiet (edges_of b opens j) (none_own j))))
      (each-flat_map _ (copied_edges b opens) _
      (each _ _ (λ j. quiet (copied_edges b opens j) (none_of_ways (copy j) j))))
      (each-map _ landing_at _ (each _ _ (λ n e. ap landing_at (same_nodes n node (and_parts _ _ e).0))))))
    where
      quiet : (xs : List Edge) → Each (λ edge. same_kind edge.kind kinds.Land ≡ false) xs
          → Each (λ edge. (lands_on node) edge ≡ true → edge ≡ landing_at node) xs
      quiet xs h = each-then (λ edge. same_kind edge.kind kinds.Land ≡ false) (λ edge. lands_on node edge ≡ true → edge ≡ landing_at node) xs (λ x none e. absurd (false≢true (sym none ∙ (and_parts (same_node x.to node) (same_kind x.kind kinds.Land) e).1))) h

  -- ---- jumps lead to X but by case

  outs_of_ways : (node : Node) (k : ℕ)
      → Each (λ edge. same_kind edge.kind kinds.Out ≡ true → edge.to ≡ X) (ways_out b opens node k)
  outs_of_ways node k =
      each-map (λ edge. same_kind edge.kind kinds.Out ≡ true → edge.to ≡ X) (edge_of b opens node k) (ways_from b k)
      (each-then IsOwn _ (ways_from b k)
      (λ x own e. ap (λ o. directed opens node x.kind (node_of b o)) (own.1 e))
      (ways_are_own b.words (last_word b.firsts b.words k) (end_of b k)))

  out_leads : Each (λ edge. same_kind edge.kind kinds.Out ≡ true → edge.to ≡ X) (edges_in b opens)
  out_leads =
      each_edge _
      (each-flat_map _ (edges_of b opens) _ (each _ _ (λ k.
      cond_both (jumps_in opens k) (map (case_of b k) (case_nodes b opens k)) (ways_out b opens (block k) k)
      (Each (λ edge. same_kind edge.kind kinds.Out ≡ true → edge.to ≡ X))
      (λ _. each-map _ (case_of b k) (case_nodes b opens k)
      (each _ (case_nodes b opens k) (λ x e. absurd (false≢true e))))
      (λ _. outs_of_ways (block k) k))))
      (each-flat_map _ (copied_edges b opens) _ (each _ _ (λ k. outs_of_ways (copy k) k)))
      (each-map _ landing_at _ (each _ _ (λ n e. absurd (false≢true e))))

  pub out_to : (node : Node) (edge : Edge) → IsEdge graph (edge_from graph node kinds.Out) edge → edge.to ≡ X
  out_to node edge h =
      let passes =
      position-Some (λ (x : Edge). same_node x.from node && same_kind x.kind kinds.Out) (edges_in b opens)
      h.number edge (number_of_list _ h.number h.only) in
      each_at _ (edges_in b opens) h.number edge out_leads h.is
      (ap (λ (x : Edge). same_kind x.kind kinds.Out)
      (sym (get_or_from_slice_get (edges_in b opens) h.number edge edge h.is))
      ∙ (and_parts _ _ passes.1).1)

  -- ---- landings come from X

  pub land_from : Each (λ edge. same_kind edge.kind kinds.Land ≡ true → edge.from ≡ X) (edges_in b opens)
  land_from =
      each_edge _
      (each-flat_map _ (edges_of b opens) _
      (each _ _ (λ k. each-then _ _ (edges_of b opens k) (λ x none e. absurd (false≢true (sym none ∙ e))) (none_own k))))
      (each-flat_map _ (copied_edges b opens) _
      (each _ _ (λ k. each-then _ _ (copied_edges b opens k) (λ x none e. absurd (false≢true (sym none ∙ e)))
      (none_of_ways (copy k) k))))
      (each-map _ landing_at _ (each _ _ (λ n e. refl)))
