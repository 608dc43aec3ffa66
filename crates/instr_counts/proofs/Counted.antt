-- How often each word is visited, along a run, where each block has one word and no switch is open: along the edges that
-- a step completes the run comes to the word where it goes on, and has run the slot out of which it goes.
use Rattle.instr_counts.proofs.Common.{◌≡◌, ℕ, zero, suc, ◌+◌, ◌<◌, Bool, List, [], ◌∷◌, ◌++◌, refl, arith, ◌-◌, inl, inr, false, length, slice_index, Option, Some, ap, sym, ◌∙◌, ◌&&◌, nat_lt, ◌==◌, cond_both, eq-eqb, eqb-true, lt-ltb, Words, IsText, WordNo, Instr, decode_of, BlockEnd, EdgeKind, end_at, end_by, Blocks, holding_of, last_word, blocks_of, Edge, Node, same_node, Graph, node_of, IsCut, cut, edge_at, no_edge, entered_of, one_if, AreSingle, leads_to, runs_slot, is_slot, is_begun, ◌≢◌, true, not, None, subst, if◌then◌else◌, cases_Bool, false≢true, ne_eqb, and_parts, cases_eq, address_of, word_at, Way, always, branch_target, number_of, way, ways_of, within, same_kind, edge_of, edges_in, graph_of, landing, lands_of, runs_on, copied_edges, edges_of, in_held, links_of, switches_of, VisitsAreCounted}
use Rattle.flows.specs.Flows.{weight_below, times, Graph as PlainGraph}
use Rattle.cfg_walk.proofs.Lists.{Each, each, each-flat_map, each-map, each-then, each_in}
use Rattle.std.proofs.lemmas.Option.{get_or_from_slice_get}
use Rattle.v8_decode.specs.declared.Instr.TheVariants as i
use Rattle.v8_step.specs.declared.Slot.{Slot}
use Rattle.v8_step.specs.declared.Slot.TheVariants.{NoSlot, Taken, Untaken}
use Rattle.v8_step.specs.State.{State}
use Rattle.v8_step.specs.Step.{act, step_of}
use Rattle.v8_step.specs.Transfers.{branch_step, call_step, jump_step}
use Rattle.v8_step.specs.Items.{is_transfer}
use Rattle.v8_step.proofs.CopiedMoves.{goes_act}
use Rattle.cfg_blocks.specs.declared.BlockEnd.TheVariants as ends
use Rattle.cfg_blocks.specs.declared.EdgeKind.TheVariants as kinds
use Rattle.cfg_blocks.proofs.Targets.{IsWord, word_at-some}
use Rattle.cfg_normal.specs.declared.Node.TheVariants.{X, Block, Landed}
use Rattle.cfg_normal.specs.declared.Slot.{Slot as Carried}
use Rattle.cfg_normal.specs.declared.Slot.TheVariants as carried
use Rattle.cfg_normal.specs.Code.{home_of, IsNodeIn}
use Rattle.cfg_walk.specs.Walk.{Point, completed, edge_from, gone, goes_on_at, instr_at, landed, landing_at, left_by, node_after, point_of, slot_left, way_of, end_of_walk, gone_in, walk}
use Rattle.cfg_walk.specs.Matches.{FetchesOnly, IsCarried, IsOnItsWay, Matches, MatchesBy, BeginsAt, MatchesRun}
use Rattle.cfg_walk.proofs.Addresses.{word_at-address}
use Rattle.cfg_walk.proofs.Edges.{IsEdge, block, landing_found, leads_along, out_to, copy, each_edge, leave_node, leave_own, number_of_list}
use Rattle.cfg_walk.proofs.Leaving.{end_here, end_is, ends_home, node_is, straight_end, straight_left, way_found}
use Rattle.cfg_walk.proofs.Nodes.{lands_there}
use Rattle.cfg_walk.proofs.NoneOpen.{IsOnEdge, cases_none, home_none, lands_none, on_edge, open_none, slot_none, jumps_none}
use Rattle.cfg_walk.proofs.Points.{Stands, at, home, low}
use Rattle.cfg_walk.proofs.States.{couples, out_goes}
use Rattle.cfg_walk.proofs.Ways.{IsOne, fall_is_one, same_kinds, taken_is_one, untaken_is_one}
use Rattle.switch_runs.proofs.Steps.{carries_out, comes_to}
use Rattle.instr_counts.proofs.Single.{none_are_open, as_many, holds_itself, last_is, words_are_blocks}
use Rattle.std.proofs.lemmas.List.Quantifiers.{position-Some}
use Rattle.elf32_sparc.specs.Header.{e_entry}
use Rattle.elf32_sparc.specs.Image.{image_of, text_of, word_number}
use Rattle.flows.proofs.Walks.{times-append}
use Rattle.flows.specs.Walks.{IsWalk}
use Rattle.v8_step.specs.Run.{run}
use Rattle.two_runs.specs.Visits.{as_list, own_trail, own_visit}
use Rattle.v8_step.proofs.Executable.{code_stays}
use Rattle.v8_process.specs.Start.{start_of}
use Rattle.cfg_normal.specs.Numbers.{node_number}
use Rattle.cfg_walk.proofs.Walks.{live_before, walks_match}
use Rattle.walk_counts.specs.Executions.{executions}
use Rattle.walk_counts.specs.Counts.{IsPath, last_node}
use Rattle.std.proofs.lemmas.Bool.Decides.{nat_tests}
use Rattle.walk_counts.proofs.Fetching.{only_text_is_fetched}
use Rattle.walk_counts.proofs.Files.{begins, entry_is}
use Rattle.walk_counts.proofs.Paths.{walks_are_paths}
use Rattle.instr_counts.specs.Code.{visits_by}

-- ---- what is counted of the numbers of a list

-- how many pass a test
abbrev passing : (ℕ → Bool) → List ℕ → ℕ
passing s [] = 0
passing s (e ∷ es) = one_if (s e) + passing s es

passing-append : (s : ℕ → Bool) (es more : List ℕ) → passing s (es ++ more) ≡ passing s es + passing s more
passing-append s [] more = omega arith
passing-append s (e ∷ es) more = omega (arith, passing-append s es more)

-- the weights of the numbers that pass, by how often each stands in the list
weighed_next : (n x : ℕ) (es : List ℕ) (s : ℕ → Bool)
    → weight_below n (times (x ∷ es)) s ≡ weight_below n (times es) s + (if nat_lt x n then one_if (s x) else 0)
weighed_next zero x es s = grind (arith, nat_tests)
weighed_next (suc n) x es s = let before = weighed_next n x es s in grind (arith, nat_tests, before)

none_weighed : (n : ℕ) (s : ℕ → Bool) → weight_below n (times []) s ≡ 0
none_weighed zero s = refl
none_weighed (suc n) s = let before = none_weighed n s in grind (arith, before)

weighed : (g : PlainGraph) (s : ℕ → Bool) (a : ℕ) (es : List ℕ) (z : ℕ) → IsWalk g a es z
    → weight_below g.edges (times es) s ≡ passing s es
weighed g s a [] z h = none_weighed g.edges s
weighed g s a (x ∷ es) z h =
    let next = weighed_next g.edges x es s in let rest = weighed g s (g.to x) es z h.2 in let l = h.0 in
    grind (arith, nat_tests, next, rest, l)

-- ---- which instructions go on without a slot

abbrev IsPassed : Instr → Type 0
IsPassed (i.Branch cond annul disp22) = annul ≡ true
IsPassed (i.Call disp30) = ⊥
IsPassed (i.Jmpl rd rs1 op2) = ⊥
IsPassed _ = Unit {0}

passed : (s : State) (instr : Instr) → s.slot ≡ NoSlot → (act s instr).ending ≡ None → (act s instr).slot ≡ NoSlot
    → IsPassed instr
unfolding act branch_step call_step jump_step
passed s (i.Branch cond annul disp22) e live f = grind (arith, e, live, f)
passed s (i.Call disp30) e live f = absurd (grind (arith, e, live, f))
passed s (i.Jmpl rd rs1 op2) e live f = absurd (grind (arith, e, live, f))
passed s _ e live f = tt

-- ---- no transfer goes from X

-- edges from X are landings
abbrev LandsFromX : Edge → Type 0
LandsFromX edge = same_node edge.from X ≡ true → same_kind edge.kind kinds.Land ≡ true

not_from_x : (from : Node) (xs : List Edge) → same_node from X ≡ false → Each (λ (x : Edge). x.from ≡ from) xs
    → Each LandsFromX xs
not_from_x from xs off = each-then _ LandsFromX xs (λ x is e. absurd (false≢true (sym off ∙ rw is at e)))

lands_from : (b : Blocks) → Each LandsFromX (edges_in b [])
lands_from b =
    each_edge b [] LandsFromX
    (each-flat_map _ (edges_of b []) _ (each _ _ (λ k. not_from_x (block k) (edges_of b [] k) refl (leave_own b [] k))))
    (each-flat_map _ (copied_edges b []) _ (each _ _ (λ k.
    not_from_x (copy k) (copied_edges b [] k) refl (leave_node b [] (copy k)))))
    (each-map _ landing _ (each _ _ (λ n e. refl)))

-- and no transfer goes by one
no_landing : (o : Option Instr) (slot : Slot) → same_kind (way_of o slot) kinds.Land ≡ false
no_landing o slot = grind arith

none_from_x : (b : Blocks) (kind : EdgeKind) (number : ℕ) → same_kind kind kinds.Land ≡ false
    → edge_from (graph_of b []) X kind ≡ number ∷ [] → ⊥
none_from_x b kind number off only =
    let passes =
    position-Some (λ (x : Edge). same_node x.from X && same_kind x.kind kind) (edges_in b []) number no_edge
    (number_of_list _ number only) in
    let parts = and_parts _ _ passes.1 in
    let land : same_kind (edge_at (graph_of b []) number).kind kinds.Land ≡ true =
    each_in LandsFromX (edges_in b []) number no_edge (lands_from b) passes.0 parts.0 in
    false≢true (sym off ∙ rw (same_kinds _ kind parts.1) at land)

-- ---- what is counted of a word

module _ (text : Words) (is : IsText text) (b : Blocks) (c : IsCut text b) (single : AreSingle b) (w : ℕ)
    (inside : w < length text.words) where
  abbrev graph : Graph
  graph = graph_of b []

  -- edges to the word, and those that run it as their slot
  abbrev into_word : ℕ → Bool
  into_word e = leads_to b w (edge_at graph e)

  abbrev as_slot : ℕ → Bool
  as_slot e = runs_slot w (edge_at graph e)

  -- the address is the word's
  abbrev here_at : ℕ → ℕ
  here_at a = one_if (a == address_of text w)

  -- the word is a slot that was begun
  abbrev begun_at : ℕ → Slot → ℕ
  begun_at a NoSlot = 0
  begun_at a _ = here_at a

  w_low : w < b.words
  w_low = omega (arith, inside, c.words)

  -- each word is a block by itself
  itself : (v : ℕ) → v < b.words → holding_of b v ≡ v
  itself v l = holds_itself b c.firsts single v l

  node_at : (v : ℕ) → v < b.words → node_of b (Some v) ≡ block v
  node_at v l = node_is b v l ∙ ap block (itself v l)

  word_here : word_at text (address_of text w) ≡ Some w
  word_here = word_at-address text w ∙ rw (lt-ltb _ _ inside) refl

  same_place : (v a : ℕ) → a ≡ address_of text v → one_if (v == w) ≡ here_at a
  same_place v a e = grind arith

  -- what comes to the node of an address comes to the word where that is the word's
  leads_node : (a : ℕ) (o : Option ℕ) → word_at text a ≡ o
      → one_if (same_node (node_of b o) (node_of b (Some w))) ≡ here_at a
  leads_node a None e =
      rw (node_at w w_low, ne_eqb a (address_of text w) (λ same. absurd (cc (e, word_here, same)))) refl
  leads_node a (Some v) e =
      let found = word_at-some text a v e in
      rw (node_at w w_low, node_at v (omega (arith, found.within, c.words))) (same_place v a found.is)

  -- of a list that is one edge
  passing_edge : (p : Edge → Bool) (numbers : List ℕ) (edge : Edge) → IsEdge graph numbers edge
      → passing (λ e. p (edge_at graph e)) numbers ≡ one_if (p edge)
  passing_edge p numbers edge h =
      rw (h.only, get_or_from_slice_get (edges_in b []) h.number edge no_edge h.is) (omega arith)

  -- so much the edges count
  record AreCounting (numbers : List ℕ) (into slots : ℕ) : Type 0 where
    come : passing into_word numbers ≡ into
    ran : passing as_slot numbers ≡ slots

  -- ---- without a slot

  record IsQuiet (numbers : List ℕ) : Type 0 where
    edge : Edge
    found : IsEdge graph numbers edge
    nothing : edge.slot ≡ carried.Nothing

  module _ (node : Node) (before : Point) (word : ℕ) (instr : Instr) (h : Stands text b [] node before word instr) where
    abbrev k : ℕ
    k = holding_of b word

    last : word ≡ last_word b.firsts b.words k
    last =
        rw (itself word (low h)) (sym (last_is b c.firsts single word (omega (arith, low h, as_many b c.firsts single))))

    -- a way out whose slot isn't run
    quiet_way : (end : BlockEnd) → end_by text word instr ≡ end → (x : Way) → IsOne x (ways_of b.words word end)
        → runs_on end x.kind ≡ false → IsQuiet (edge_from graph node x.kind)
    quiet_way end e x one quiet =
        let is : end_at text word ≡ end = end_is text word instr h.decodes ∙ e in
        record {
          edge = edge_of b [] node k x;
          found = way_found text b [] c word (low h) (open_none b) node h.there (home h) x last (cases_none node) (rw is one);
          nothing = rw (end_here text b [] c word (low h) last, is, quiet) refl;
        }

    straight_quiet : is_transfer instr ≡ false → IsQuiet (left_by graph node word instr)
    straight_quiet f =
        rw (straight_left graph node word instr f, ends_home b [] node k word (home h), eq-eqb _ _ last)
        (quiet_way ends.Fall (straight_end text word instr f) (way kinds.Fall (within b.words (word + 1)))
        (fall_is_one b.words word) refl)

  left_quiet : (node : Node) (before : Point) (word : ℕ) (instr : Instr) → Stands text b [] node before word instr
      → IsPassed instr → IsQuiet (left_by graph node word instr)
  left_quiet node before word (i.Branch cond true disp22) h p =
      let target : Option WordNo = branch_target text word cond disp22 in
      let go = quiet_way node before word _ h (ends.Branch cond true target) refl in
      cond_both (cond == always) kinds.Taken kinds.Untaken (λ (kind : EdgeKind). IsQuiet (edge_from graph node kind))
      (λ all.
      go (way kinds.Taken (number_of target)) (taken_is_one b.words word cond true target (rw (eqb-true cond 8 all) refl))
      (ap not all))
      (λ some. go (way kinds.Untaken (within b.words (word + 2))) (untaken_is_one b.words word cond true target some) refl)
  left_quiet node before word (i.Branch cond false disp22) h p = absurd (false≢true p)
  left_quiet node before word (i.Call disp30) h p = absurd p
  left_quiet node before word (i.Jmpl rd rs1 op2) h p = absurd p
  left_quiet node before word instr h p = straight_quiet node before word instr h refl

  quiet_counts : (node : Node) (numbers : List ℕ) (a : ℕ) → IsQuiet numbers
      → IsNodeIn b [] (node_after graph node numbers)
      → home_of (node_after graph node numbers) ≡ node_of b (word_at text a) → AreCounting numbers (here_at a) 0
  quiet_counts node numbers a q there leads =
      let to : q.edge.to ≡ node_of b (word_at text a) =
      sym (leads_along graph node numbers q.edge q.found) ∙ sym (home_none b _ there) ∙ leads in
      record {
        come = passing_edge (leads_to b w) numbers q.edge q.found ∙ rw to (leads_node a _ refl);
        ran = passing_edge (runs_slot w) numbers q.edge q.found ∙ rw q.nothing refl;
      }

  -- ---- out of a slot

  slot_here : (slot : Carried) (a : ℕ) → IsCarried text slot a → one_if (is_slot w slot) ≡ here_at a
  slot_here carried.Nothing a h = absurd h
  slot_here (carried.Word v) a h = same_place v.0 a h
  slot_here carried.Off a h = rw (ne_eqb a (address_of text w) (λ same. omega (arith, same, h, inside))) refl

  none_to_x : one_if (same_node X (node_of b (Some w))) ≡ 0
  none_to_x = rw (node_at w w_low) refl

  landed_counts : (next : ℕ) (o : Option ℕ) → word_at text next ≡ o
      → AreCounting (landed text graph kinds.Out next) (here_at next) 0
  landed_counts next None e = rw e (record { come = sym none_to_x ∙ leads_node next None e; ran = refl })
  landed_counts next (Some v) e =
      let v_low : v < b.words = omega (arith, (word_at-some text next v e).within, c.words) in
      let to = lands_of b [] (Some v) in
      let found = landing_found b [] to (holding_of b v) (in_held b.words b.firsts c.firsts v v_low).within
      (lands_there b [] v v_low) in
      rw e (record {
        come =
            passing_edge (leads_to b w) (landing_at graph to) (landing to) found
            ∙ rw (lands_none b (Some v)) (leads_node next (Some v) e);
        ran = passing_edge (runs_slot w) (landing_at graph to) (landing to) found;
      })

  -- along the edge of a way, and to a landing behind it
  along_way : (node : Node) (point : Point) (kind : EdgeKind) (h : IsOnEdge text graph node point kind) (into first : ℕ)
      → AreCounting (landed text graph kind point.npc) into 0
      → one_if (same_node h.edge.to (node_of b (Some w))) ≡ first → first + into ≡ here_at point.npc
      → AreCounting (edge_from graph node kind ++ landed text graph kind point.npc) (here_at point.npc) (here_at point.pc)
  along_way node point kind h into first land one sum =
      let found : IsEdge graph (edge_from graph node kind) h.edge =
      record { number = h.number; only = h.only; is = h.is } in
      record {
        come =
            passing-append into_word (edge_from graph node kind) _
            ∙ omega (arith, passing_edge (leads_to b w) _ h.edge found, land.come, one, sum);
        ran =
            passing-append as_slot (edge_from graph node kind) _
            ∙ omega (arith, passing_edge (runs_slot w) _ h.edge found, slot_here h.edge.slot point.pc h.carries, land.ran);
      }

  on_counts : (node : Node) (point : Point) (kind : EdgeKind) → IsOnItsWay text graph node point kind
      → AreCounting (edge_from graph node kind ++ landed text graph kind point.npc) (here_at point.npc) (here_at point.pc)
  on_counts node point kinds.Out way =
      let h = on_edge text b node point kinds.Out way in
      let to = out_to b [] node h.edge (record { number = h.number; only = h.only; is = h.is }) in
      along_way node point kinds.Out h (here_at point.npc) 0 (landed_counts point.npc _ refl) (rw to none_to_x) (omega arith)
  on_counts node point kind way =
      let h = on_edge text b node point kind way in
      along_way node point kind h 0 (here_at point.npc) (record { come = refl; ran = refl })
      (ap (λ n. one_if (same_node n (node_of b (Some w)))) (h.leads refl).1 ∙ leads_node point.npc _ refl) (omega arith)

  -- ---- a step

  module _ (node : Node) (there : IsNodeIn b [] node) (s : State) (fetches : FetchesOnly text s)
      (m : Matches text graph node (point_of s)) (live : (step_of s).ending ≡ None)
      (leads : Matches text graph (node_after graph node (gone text graph node (point_of s) (goes_on_at (step_of s))))
      (point_of (step_of s)))
      (stays : IsNodeIn b [] (node_after graph node (gone text graph node (point_of s) (goes_on_at (step_of s))))) where
    abbrev t : State
    t = step_of s

    abbrev gone_here : List ℕ
    gone_here = gone text graph node (point_of s) (goes_on_at t)

    gone_is : (was now : Slot) → s.slot ≡ was → t.slot ≡ now
        → gone_here ≡ completed text graph node (point_of s) (point_of t) was now
    gone_is was now e f = rw (live, f, e) refl

    -- it carries a word out
    here : (word : ℕ) × IsWord text s.pc word
    here = comes_to text is s fetches 0 live

    abbrev instr : Instr
    instr = decode_of (slice_index text.words here.0)

    went : t ≡ act s instr
    went = carries_out text is s fetches 0 here.0 here.1.is live

    -- out of a slot it leads into none
    out_slot : s.slot ≢ NoSlot → t.slot ≡ NoSlot
    out_slot in_slot = elim (cases_Bool (is_transfer instr)) [
      | inr f ↦ rw went (goes_act s instr f (rw went at live)).2
      | inl f ↦ let ended = couples s.slot s instr in_slot refl f in absurd (cc (went, ended, live))
    ]

    -- a step without slots
    passed_on : s.slot ≡ NoSlot → t.slot ≡ NoSlot → AreCounting gone_here (here_at t.pc) 0
    passed_on e f =
        let held = subst (MatchesBy text graph node (point_of s)) e m in
        let on = subst (MatchesBy text graph (node_after graph node gone_here) (point_of t)) f leads in
        let are = open_none b in
        let word = here.1 in
        let h : Stands text b [] node (point_of s) here.0 instr = assumption (is, c, word, are, there, held.0, held.1) in
        quiet_counts node gone_here t.pc
        (rw (gone_is NoSlot NoSlot e f, at h)
        (left_quiet node (point_of s) here.0 instr h (passed s instr e (rw went at live) (rw went at f)))) stays on.0

    -- So a step adds to what is counted of the word, with the slot that was begun, 1 where it leads to the word.
    abbrev IsAdded : Slot → Slot → Type 0
    IsAdded was now =
        passing into_word gone_here + passing as_slot gone_here + begun_at t.pc now ≡ begun_at s.pc was + here_at t.pc

    -- out of a slot
    left_slot : (was : Slot) → was ≢ NoSlot → s.slot ≡ was
        → gone_here ≡ slot_left text graph node (way_of (instr_at text (s.pc - 4)) was) t.pc
        → IsOnItsWay text graph node (point_of s) (way_of (instr_at text (s.pc - 4)) was)
        → begun_at s.pc was ≡ here_at s.pc → IsAdded was NoSlot
    left_slot was not e are way begun =
        let kind : EdgeKind = way_of (instr_at text (s.pc - 4)) was in
        let next : t.pc ≡ s.npc = out_goes s live (λ none. not (sym e ∙ none)) in
        let q : AreCounting gone_here (here_at t.pc) (here_at s.pc) =
        rw (are, next, slot_none text b node kind s.npc) (on_counts node (point_of s) kind way) in
        omega (arith, q.come, q.ran, begun)

    added : (was now : Slot) → s.slot ≡ was → t.slot ≡ now → IsAdded was now
    added NoSlot NoSlot e f = let q = passed_on e f in omega (arith, q.come, q.ran)
    added NoSlot Taken e f = rw (gone_is NoSlot Taken e f) (omega arith)
    added NoSlot Untaken e f = rw (gone_is NoSlot Untaken e f) (omega arith)
    added was NoSlot e f =
        left_slot was (λ none. absurd (cc)) e (gone_is was NoSlot e f) (subst (MatchesBy text graph node (point_of s)) e m) refl
    added was now e f = let none = out_slot (λ x. absurd (cc)) in absurd (cc)

  -- ---- a slot is run from a block

  -- in a slot, at the node of a block, that is of the word before
  in_slot : (x : Slot) (point : Point) (node : Node) → IsNodeIn b [] node
      → IsOnItsWay text graph node point (way_of (instr_at text (point.pc - 4)) x) → point.pc ≡ address_of text w
      → one_if (is_begun text b point.pc (node_number graph node) w) ≡ here_at point.pc
  in_slot x point (Block k) l way same =
      let other : (k.0 == holding_of b w) ≡ false =
      ne_eqb k.0 (holding_of b w) (λ e. omega (arith, e, itself w w_low, way.pc, same, last_is b c.firsts single k.0 l)) in
      rw (lt-ltb _ _ l, other, eq-eqb point.pc (address_of text w) same) refl
  in_slot x point (Landed k) l way same = absurd (false≢true l.1)
  in_slot x point X l way same =
      let on = on_edge text b X point (way_of (instr_at text (point.pc - 4)) x) way in
      absurd (none_from_x b _ on.number (no_landing (instr_at text (point.pc - 4)) x) on.only)

  out_of_slot : (point : Point) (node : Node) → IsNodeIn b [] node → MatchesBy text graph node point NoSlot
      → point.pc ≡ address_of text w → one_if (is_begun text b point.pc (node_number graph node) w) ≡ 0
  out_of_slot point node there m same =
      let is_block : node ≡ block (holding_of b w) =
      sym (home_none b node there) ∙ m.0 ∙ ap (node_of b) (ap (word_at text) same ∙ word_here) ∙ node_is b w w_low in
      let own : (node_number graph node == holding_of b w) ≡ true =
      eq-eqb _ _ (ap (node_number graph) is_block) in
      grind (arith, own)

  begun_is : (node : Node) (point : Point) → IsNodeIn b [] node → (x : Slot) → MatchesBy text graph node point x
      → one_if (is_begun text b point.pc (node_number graph node) w) ≡ begun_at point.pc x
  begun_is node point there x m = elim (cases_eq point.pc (address_of text w)) [
    | inl same ↦ at_word x m same
    | inr apart ↦ let none = ne_eqb point.pc (address_of text w) apart in grind (arith, none)
  ]
    where
      at_word : (x : Slot) → MatchesBy text graph node point x → point.pc ≡ address_of text w
          → one_if (is_begun text b point.pc (node_number graph node) w) ≡ begun_at point.pc x
      at_word NoSlot m same = out_of_slot point node there m same
      at_word x m same = in_slot x point node there m same

  -- ---- along the run

  module _ (entry : ℕ) (s0 : State) (fetches : FetchesOnly text s0) (starts : BeginsAt text entry s0)
      (matching : (n : ℕ) → MatchesRun text graph entry s0 n) (paths : (n : ℕ) → IsPath text graph entry s0 n) where
    -- what is counted by the list of the walk
    abbrev counted : ℕ → ℕ
    counted n =
        passing into_word (walk text graph entry s0 n) + one_if (holding_of b entry == holding_of b w)
        + passing as_slot (walk text graph entry s0 n) + begun_at (run s0 n).pc (run s0 n).slot

    -- a step that is live visits its word
    visit : (s : State) → s.ending ≡ None → times (as_list (own_visit s)) (address_of text w) ≡ here_at s.pc
    visit s e = rw e (grind arith)

    visited : (n : ℕ) → (run s0 n).ending ≡ None → times (own_trail s0 (suc n)) (address_of text w) ≡ counted n
    unfolding walk end_of_walk
    visited zero live =
        let entered : one_if (holding_of b entry == holding_of b w) ≡ here_at s0.pc =
        rw (itself w w_low, itself entry (omega (arith, starts.within, c.words))) (same_place entry s0.pc starts.pc) in
        omega (arith, visit s0 live, ap (begun_at s0.pc) starts.slot, entered)
    visited (suc n) live =
        let before = live_before (run s0 n) live in
        let es = gone_in text graph entry s0 n in
        let m = matching n before in
        let on = matching (suc n) live in
        let more = times-append (own_trail s0 (suc n)) (as_list (own_visit (run s0 (suc n)))) (address_of text w) in
        let into = passing-append into_word (walk text graph entry s0 n) es in
        let slots = passing-append as_slot (walk text graph entry s0 n) es in
        let step = added (end_of_walk text graph entry s0 n) m.1 (run s0 n) (λ a. code_stays.1 s0 n a ∙ fetches a) m.0
        live on.0 on.1 _ _ refl refl in
        omega (arith, visited n before, more, visit (run s0 (suc n)) live, into, slots, step)

    told : (n : ℕ) → (run s0 n).ending ≡ None
        → times (own_trail s0 (suc n)) (address_of text w)
        ≡ visits_by text graph entry (executions text graph entry s0 n) (run s0 n).pc
        (last_node text graph entry s0 n) w
    told n live =
        let m = matching n live in
        let into = weighed (links_of graph) into_word _ _ _ (paths n) in
        let slots = weighed (links_of graph) as_slot _ _ _ (paths n) in
        let begun = begun_is (end_of_walk text graph entry s0 n) (point_of (run s0 n)) m.1 _ m.0 in
        omega (arith, visited n live, into, slots, begun)

-- ---- files

pub visits_are_counted : VisitsAreCounted
unfolding image_of entered_of
visits_are_counted file args input given n sound bytes each =
    let entry = entry_is file sound in
    let text = text_of file in
    let number = word_number text (e_entry file) in
    let s0 = start_of file args input in
    let b = blocks_of text given in
    let fetches = only_text_is_fetched file args input sound bytes in
    let starts = begins file args input entry in
    let jumps = jumps_none text b number s0 in
    rw (none_are_open text given (switches_of text (entered_of text given) number) entry.text_is each) (λ live w inside.
    told text entry.text_is b (cut text given entry.text_is.some) (words_are_blocks text given entry.text_is each) w
    inside number s0 fetches starts
    (λ n. walks_match text given [] number s0 n entry.text_is fetches starts (open_none b) jumps)
    (λ n. walks_are_paths text given [] number s0 n entry.text_is fetches starts (open_none b) jumps) n live)
