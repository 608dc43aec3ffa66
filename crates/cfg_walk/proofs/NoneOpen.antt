-- The graph where no switch is open: blocks and X are its nodes, and a block has an edge for each way out of it.
use Rattle.cfg_walk.proofs.Common.{◌≡◌, ℕ, suc, ◌+◌, ◌≤◌, Bool, true, false, nat_lt, List, [], ◌∷◌, ◌++◌, append-nil, length, map, Option, Some, refl, ap, sym, ◌∙◌, arith, if◌then◌else◌, filter, flat_map, slice_get, cond_both, false≢true, nat_tests, Words, address_of, word_at, Taken, State, run, EdgeKind, Blocks, below, end_of, last_word, ways_from, Edge, Node, Block, Landed, X, home_of, IsEdgeIn, IsNodeIn, IsSlotIn, Open, is_copied, jumps_in, Graph, case_nodes, case_of, copied_edges, directed, edge_of, edges_in, edges_of, graph_of, has_cases, landing_at, landings_of, lands, lands_of, node_of, runs_slot, slot_behind, slot_on, ways_out, Point, WayOut, by_kind, edge_along, edge_from, end_of_walk, landed, left_along, point_of, slot_left, way_to, same_kind, AreOpen, Begins, GoesByCase, IsCarried, IsOnItsWay, JumpsGoByCase, last_in, way_address}
use Rattle.cfg_blocks.specs.declared.EdgeKind.TheVariants as kinds
use Rattle.cfg_normal.specs.declared.Slot.TheVariants as carried
use Rattle.cfg_walk.proofs.Edges.{block, each_edge}
use Rattle.cfg_walk.proofs.Lists.{Each, each, each-flat_map, each-map, each_at}
use Rattle.cfg_walk.proofs.Nodes.{edges_lead_in, edges_leave_in}

-- ---- nodes

-- there are no landed copies
pub home_none : (b : Blocks) (node : Node) → IsNodeIn b [] node → home_of node ≡ node
home_none b (Block k) h = refl
home_none b (Landed k) h = absurd (false≢true h.1)
home_none b X h = refl

pub directed_none : (from : Node) (kind : EdgeKind) (to : Node) → directed [] from kind to ≡ to
directed_none from kind to = grind arith

pub lands_none : (b : Blocks) (word : Option ℕ) → lands_of b [] word ≡ node_of b word
lands_none b word = grind arith

pub cases_none : (node : Node) → has_cases [] node ≡ false
cases_none node = grind arith

-- so no jump goes by case
pub open_none : (b : Blocks) → AreOpen b []
open_none b k e = absurd (false≢true e)

pub goes_none : (text : Words) (node : Node) (before after : Point) → GoesByCase text [] node before after
goes_none text node before after e none taken = absurd (false≢true (sym (cases_none node) ∙ e))

pub jumps_none : (text : Words) (b : Blocks) (entry : ℕ) (s0 : State) → JumpsGoByCase text (graph_of b []) entry s0
jumps_none text b entry s0 n live =
    goes_none text (end_of_walk text (graph_of b []) entry s0 n) (point_of (run s0 n)) (point_of (run s0 (suc n)))

-- ---- the ways of transfers

pub way_none : (text : Words) (b : Blocks) (node : Node) (kind : EdgeKind) (next : ℕ)
    → way_to text (graph_of b []) node kind next ≡ by_kind kind
way_none text b node kinds.Out next =
    ap (λ (x : Bool). if x then record { kind = kinds.Case; to = Some (lands (graph_of b []) (word_at text next)) }
    else by_kind kinds.Out) (cases_none node)
way_none text b node kind next = refl

pub slot_none : (text : Words) (b : Blocks) (node : Node) (kind : EdgeKind) (next : ℕ)
    → slot_left text (graph_of b []) node kind next
    ≡ edge_from (graph_of b []) node kind ++ landed text (graph_of b []) kind next
slot_none text b node kind next =
    ap (λ (way : WayOut). left_along text (graph_of b []) node way next) (way_none text b node kind next)

-- in a slot, where a node has one edge of each kind
pub record IsOnEdge (text : Words) (graph : Graph) (node : Node) (point : Point) (way : EdgeKind) : Type 0 where
  pub number : ℕ
  pub edge : Edge
  pub only : edge_from graph node way ≡ number ∷ []
  pub is : slice_get graph.edges number ≡ Some edge
  pub pc : point.pc ≡ address_of text (last_in graph node + 1)
  pub carries : IsCarried text edge.slot point.pc
  pub goes : same_kind way kinds.Out ≡ false → point.npc ≡ way_address text graph node way
  pub jumps : same_kind way kinds.Out ≡ true → point.slot ≡ Taken
  pub leads : same_kind way kinds.Out ≡ false
      → Begins graph edge.to (word_at text point.npc) × (edge.to ≡ node_of graph.blocks (word_at text point.npc))

pub on_edge : (text : Words) (b : Blocks) (node : Node) (point : Point) (way : EdgeKind)
    → IsOnItsWay text (graph_of b []) node point way → IsOnEdge text (graph_of b []) node point way
on_edge text b node point way h = record {
  number = h.number;
  edge = h.edge;
  only = ap (edge_along (graph_of b []) node) (sym (way_none text b node way point.npc)) ∙ h.only;
  is = h.is;
  pc = h.pc;
  carries = h.carries;
  goes = h.goes;
  jumps = h.jumps;
  leads = λ no_jump.
      let to = h.leads no_jump in
      (to.0, to.1 ∙ directed_none node way (node_of b (word_at text point.npc)));
}

-- ---- edges lie in their graph, whatever switches are open

each_zip : {A : Type 0} (P Q R : A → Type 0) (xs : List A) → ((x : A) → P x → Q x → R x) → Each P xs → Each Q xs
    → Each R xs
each_zip P Q R [] f one other = tt
each_zip P Q R (x ∷ xs) f one other = (f x one.0 other.0, each_zip P Q R xs f one.1 other.1)

slot_behind_in : (b : Blocks) (word : ℕ) → IsSlotIn b (slot_behind b.words word)
slot_behind_in b word =
    cond_both (nat_lt (word + 1) b.words) (carried.Word (record { 0 = word + 1 })) carried.Off (IsSlotIn b)
    (λ h. grind (h, arith, nat_tests)) (λ h. tt)

slot_on_in : (b : Blocks) (k : ℕ) (kind : EdgeKind) → IsSlotIn b (slot_on b k kind)
slot_on_in b k kind =
    cond_both (runs_slot (end_of b k) kind) (slot_behind b.words (last_word b.firsts b.words k)) carried.Nothing
    (IsSlotIn b) (λ h. slot_behind_in b (last_word b.firsts b.words k)) (λ h. tt)

module _ (b : Blocks) (opens : List Open) where
  abbrev CarriesIn : Edge → Type 0
  CarriesIn edge = IsSlotIn b edge.slot

  ways_carry : (from : Node) (k : ℕ) → Each CarriesIn (ways_out b opens from k)
  ways_carry from k =
      each-map CarriesIn (edge_of b opens from k) (ways_from b k)
      (each _ (ways_from b k) (λ w. slot_on_in b k w.kind))

  own_carry : (k : ℕ) → Each CarriesIn (edges_of b opens k)
  own_carry k =
      cond_both (jumps_in opens k) (map (case_of b k) (case_nodes b opens k)) (ways_out b opens (block k) k)
      (Each CarriesIn)
      (λ _. each-map CarriesIn (case_of b k) (case_nodes b opens k)
      (each _ (case_nodes b opens k) (λ n. slot_on_in b k kinds.Case)))
      (λ _. ways_carry (block k) k)

  edges_carry : Each CarriesIn (edges_in b opens)
  edges_carry =
      each_edge b opens CarriesIn
      (each-flat_map CarriesIn (edges_of b opens) (below (length b.firsts)) (each _ (below (length b.firsts)) own_carry))
      (each-flat_map CarriesIn (copied_edges b opens) (filter (is_copied opens) (below (length b.firsts)))
      (each _ (filter (is_copied opens) (below (length b.firsts))) (λ k. ways_carry _ k)))
      (each-map CarriesIn landing_at (flat_map (landings_of opens) (below (length b.firsts)))
      (each _ (flat_map (landings_of opens) (below (length b.firsts))) (λ n. tt)))

  pub edges_lie_in : 1 ≤ length b.firsts → Each (IsEdgeIn b opens) (edges_in b opens)
  edges_lie_in some =
      each_zip (λ (x : Edge). IsNodeIn b opens x.from) (λ (x : Edge). IsNodeIn b opens x.to × CarriesIn x) (IsEdgeIn b opens)
      (edges_in b opens) (λ x from rest. record { from = from; to = rest.0; slot = rest.1 })
      (edges_leave_in b opens some)
      (each_zip (λ (x : Edge). IsNodeIn b opens x.to) CarriesIn (λ (x : Edge). IsNodeIn b opens x.to × CarriesIn x)
      (edges_in b opens) (λ x to slot. (to, slot)) (edges_lead_in b opens some) edges_carry)

  pub edge_lies_in : 1 ≤ length b.firsts → (number : ℕ) (edge : Edge)
      → slice_get (edges_in b opens) number ≡ Some edge → IsEdgeIn b opens edge
  edge_lies_in some number edge e = each_at (IsEdgeIn b opens) (edges_in b opens) number edge (edges_lie_in some) e
