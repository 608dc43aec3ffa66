-- The plain graph of a flow graph; the walk of a run is a walk of it.
use Rattle.walk_counts.proofs.Common.{◌-◌, ◌≡◌, ℕ, zero, suc, ◌<◌, Bool, true, ◌&&◌, List, [], ◌∷◌, ◌++◌, length, Option, Some, None, refl, ap, sym, subst, inl, inr, arith, position, slice_get, option_to_list, and_parts, cond_both, cases_lt, Words, word_at, State, PlainGraph, IsWalk, Blocks, blocks_of, Open, Graph, graph_of, has_cases, lands_of, edges_in, instr_at, way_of, Point, WayOut, by_kind, completed, edge_along, is_to, edge_from, end_of_walk, ends_block, gone, landed, landing_at, led_to, left_at, left_by, node_after, point_of, slot_left, unless_ended, walk, IsOnItsWay, MatchesBy, edge_at, links_of, no_edge, ExecutionsAreFlows, WalksArePaths, LinksAreAGraph, live_before, walks_match, number_inside, edges_leave_in, edges_lead_in}
use Rattle.std.proofs.lemmas.List.Quantifiers.{position-Some}
use Rattle.std.proofs.lemmas.Option.{slice_get-get_or}
use Rattle.v8_decode.specs.declared.Instr.{Instr}
use Rattle.v8_decode.specs.declared.Instr.TheVariants as i
use Rattle.v8_step.specs.declared.Ending.{Ending}
use Rattle.v8_step.specs.declared.Slot.{Slot}
use Rattle.v8_step.specs.declared.Slot.TheVariants.{NoSlot}
use Rattle.v8_step.specs.Run.{run}
use Rattle.flows.proofs.Walks.{walk_is_flow}
use Rattle.cfg_blocks.specs.declared.EdgeKind.{EdgeKind}
use Rattle.cfg_blocks.specs.declared.EdgeKind.TheVariants as kinds
use Rattle.cfg_normal.specs.declared.Edge.{Edge}
use Rattle.cfg_normal.specs.declared.Node.{Node}
use Rattle.cfg_normal.specs.declared.Node.TheVariants.{X}
use Rattle.cfg_normal.specs.Nodes.{same_kind, same_node}
use Rattle.cfg_normal.specs.Numbers.{node_number}
use Rattle.cfg_walk.proofs.Lists.{each_in}
use Rattle.cfg_walk.proofs.Edges.{land_from, leads_along, same_nodes}
use Rattle.cfg_normal.specs.Code.{IsNodeIn}

-- ---- both ends of each edge are nodes

-- without blocks there are no edges
no_edges : (b : Blocks) (opens : List Open) → length b.firsts ≡ 0 → edges_in b opens ≡ []
unfolding edges_in
no_edges b opens none = rw none refl

pub links_are_a_graph : LinksAreAGraph
links_are_a_graph b opens e l = elim (cases_lt 0 (length b.firsts)) [
  | inl some ↦ (
    number_inside (graph_of b opens) _
        (each_in (λ (edge : Edge). IsNodeIn b opens edge.from) (edges_in b opens) e no_edge (edges_leave_in b opens (omega arith)) l),
    number_inside (graph_of b opens) _
        (each_in (λ (edge : Edge). IsNodeIn b opens edge.to) (edges_in b opens) e no_edge (edges_lead_in b opens (omega arith)) l),
  )
  | inr none ↦ absurd (let none = no_edges b opens (omega arith) in omega (arith, rw none at l))
]

-- ---- paths

walk-append : (g : PlainGraph) (a b c : ℕ) (es more : List ℕ) → IsWalk g a es b → IsWalk g b more c
    → IsWalk g a (es ++ more) c
walk-append g a b c [] more h k = subst (λ n. IsWalk g n more c) (sym h) k
walk-append g a b c (e ∷ es) more h k = (h.0, h.1, walk-append g (g.to e) b c es more h.2 k)

module _ (graph : Graph) where
  -- edges that lead on from a node
  abbrev pub IsPath : Node → List ℕ → Type 0
  IsPath node es =
      IsWalk (links_of graph) (node_number graph node) es (node_number graph (node_after graph node es))

  after-append : (es more : List ℕ) (node : Node)
      → node_after graph node (es ++ more) ≡ node_after graph (node_after graph node es) more
  after-append [] more node = refl
  after-append (e ∷ es) more node = after-append es more (led_to node (slice_get graph.edges e))

  pub path-append : (node : Node) (es more : List ℕ) → IsPath node es → IsPath (node_after graph node es) more
      → IsPath node (es ++ more)
  path-append node es more h k =
      subst (λ to. IsWalk (links_of graph) (node_number graph node) (es ++ more) (node_number graph to))
      (sym (after-append es more node)) (walk-append (links_of graph) _ _ _ es more h k)

  -- the first edge that passes, where all that do leave the node
  first_path : (p : Edge → Bool) (node : Node)
      → ((k : ℕ) → k < length graph.edges → p (edge_at graph k) ≡ true
      → node_number graph (edge_at graph k).from ≡ node_number graph node)
      → IsPath node (option_to_list (position p graph.edges))
  first_path p node from = by (position p graph.edges) refl
    where
      by : (o : Option ℕ) → position p graph.edges ≡ o → IsPath node (option_to_list o)
      by None e = refl
      by (Some k) e =
          let passes = position-Some p graph.edges k _ e in (
            passes.0,
            from k passes.0 passes.1,
            ap (λ o. node_number graph (led_to node o)) (sym (slice_get-get_or graph.edges k _ passes.0)),
          )

  pub along_path : (node : Node) (way : WayOut) → IsPath node (edge_along graph node way)
  along_path node way =
      first_path (λ edge. is_to way.to edge && (same_node edge.from node && same_kind edge.kind way.kind)) node
      (λ k l passes. ap (node_number graph)
      (same_nodes _ node (and_parts (same_node (edge_at graph k).from node) (same_kind (edge_at graph k).kind way.kind)
      (and_parts (is_to way.to (edge_at graph k)) _ passes).1).0))

  pub edge_path : (node : Node) (kind : EdgeKind) → IsPath node (edge_from graph node kind)
  edge_path node kind = along_path node (by_kind kind)

  left_path : (node : Node) (word : ℕ) (instr : Instr) → IsPath node (left_by graph node word instr)
  left_path node word (i.Branch cond annul disp22) = edge_path node _
  left_path node word _ =
      cond_both (ends_block graph node word) _ _ (IsPath node) (λ _. edge_path node kinds.Fall) (λ _. refl)

  pub path_at : (text : Words) (node : Node) (o : Option ℕ) → IsPath node (left_at text graph node o)
  path_at text node None = refl
  path_at text node (Some word) = left_path node word _

module _ (text : Words) (b : Blocks) (opens : List Open) where
  abbrev graph : Graph
  graph = graph_of b opens

  -- ---- out of a slot

  landing_path : (node : Node) → IsPath graph X (landing_at graph node)
  landing_path node =
      first_path graph (λ edge. same_node edge.to node && same_kind edge.kind kinds.Land) X
      (λ k l passes. ap (node_number graph)
      (each_in (λ edge. same_kind edge.kind kinds.Land ≡ true → edge.from ≡ X) graph.edges k _ (land_from b opens) l
      (and_parts (same_node (edge_at graph k).to node) (same_kind (edge_at graph k).kind kinds.Land) passes).1))

  landed_path : (address : ℕ) (o : Option ℕ) → word_at text address ≡ o
      → IsPath graph X (landed text graph kinds.Out address)
  landed_path address None e = rw e refl
  landed_path address (Some word) e = rw e (landing_path (lands_of b opens (Some word)))

  slot_path : (node : Node) (before : Point) (way : EdgeKind) (next : ℕ) → IsOnItsWay text graph node before way
      → IsPath graph node (slot_left text graph node way next)
  slot_path node before kinds.Out next h =
      let case : WayOut = record { kind = kinds.Case; to = Some (lands_of b opens (word_at text next)) } in
      cond_both (has_cases opens node) case (by_kind kinds.Out)
      (λ way. IsPath graph node (edge_along graph node way ++ landed text graph way.kind next))
      (λ cased. path-append graph node (edge_along graph node case) [] (along_path graph node case) refl)
      (λ plain.
      let to : h.edge.to ≡ X = rw plain at (h.lands_at refl) in
      let only : edge_from graph node kinds.Out ≡ h.number ∷ [] = rw plain at h.only in
      path-append graph node (edge_from graph node kinds.Out) _ (edge_path graph node kinds.Out)
      (rw (leads_along graph node _ h.edge (record { number = h.number; only = only; is = h.is }), to)
      (landed_path next _ refl)))
  slot_path node before way next h = path-append graph node (edge_from graph node way) [] (edge_path graph node way) refl

  -- ---- a step

  step_path : (node : Node) (before after : Point) (was now : Slot) → MatchesBy text graph node before was
      → IsPath graph node (completed text graph node before after was now)
  step_path node before after NoSlot NoSlot h = path_at graph text node (word_at text before.pc)
  step_path node before after was NoSlot h =
      slot_path node before (way_of (instr_at text (before.pc - 4)) was) after.pc h
  step_path node before after _ _ h = refl

  pub gone_path : (node : Node) (s t : State) (o : Option Ending)
      → (o ≡ None → MatchesBy text graph node (point_of s) s.slot)
      → IsPath graph node (gone text graph node (point_of s) (unless_ended o (point_of t)))
  gone_path node s t None h = step_path node (point_of s) (point_of t) s.slot t.slot (h refl)
  gone_path node s t (Some ending) h = refl

pub walks_are_paths : WalksArePaths
unfolding walk end_of_walk
walks_are_paths text given opens entry s0 zero is fetches begins are cases = refl
walks_are_paths text given opens entry s0 (suc n) is fetches begins are cases =
    let b = blocks_of text given in
    let s : State = run s0 n in
    let t : State = run s0 (suc n) in
    walk-append (links_of (graph_of b opens)) _ _ _ (walk text (graph_of b opens) entry s0 n) _
    (walks_are_paths text given opens entry s0 n is fetches begins are cases)
    (gone_path text b opens (end_of_walk text (graph_of b opens) entry s0 n) s t t.ending
    (λ live. (walks_match text given opens entry s0 n is fetches begins are cases (live_before s live)).0))

pub executions_are_flows : ExecutionsAreFlows
executions_are_flows text given opens entry s0 n is fetches begins are cases =
    walk_is_flow _ _ _ _ (walks_are_paths text given opens entry s0 n is fetches begins are cases)
