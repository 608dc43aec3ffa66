-- Trips over the edges of a graph that was made from a text.
use Rattle.live_walk.proofs.Common.{◌≡◌, ℕ, ◌+◌, ◌-◌, ◌<◌, inl, inr, Bool, true, false, List, [], ◌∷◌, ◌++◌, length, slice_index, Option, Some, None, refl, ap, sym, ◌∙◌, arith, or_right, get_or_from_slice_get, Words, word_at, Part, NoSlot, EdgeKind, Blocks, block_end, holding_of, last_word, Way, within, end_at, ways_of, IsNodeIn, Open, Graph, graph_of, runs_slot, Node, RunPoint, edge_along, way_to, edge_from, node_after, slot_left, instr_at, way_of, IsOnItsWay, word_at-some, IsCut, IsOne, within_some, edge_at, is_unknown, Point, At, Along, After, Goes, ◌&&◌, end_of, home_of, directed, has_cases, lands_of, node_of, edge_of, landing, WayOut, by_kind, landed, landing_at, is_to, Begins, same_kinds, is_in, node_is, way_found, Holds, IsLast, IsFirst, GoesOnAt, is_call_or_jump, suc, lt-ltb, Instr, MatchesBy, ◌≢◌, not, le-ltb, cases_lt, is_transfer, BlockEnd, way, is_jump, completed, left_at, left_by, end_here, ends_home, no_cases, end_is, straight_end, straight_left, transfer_ends, at, home, low, next_is, Stands, fall_is_one, cases_eq, eq-eqb, ne_eqb, is_landing, Slot}
use Rattle.cfg_normal.specs.declared.Edge.{Edge}
use Rattle.cfg_normal.specs.Nodes.{same_kind, same_node}
use Rattle.cfg_walk.proofs.Holding.{Leads, in_held, is_held, first_held}
use Rattle.cfg_walk.proofs.Slots.{LeadsIfThere, jump_lands, lands_not, way_leads}
use Rattle.std.proofs.lemmas.List.Quantifiers.{position-Some}
use Rattle.cfg_normal.specs.declared.Node.TheVariants.{X}
use Rattle.cfg_walk.proofs.Edges.{IsEdge, block, landing_found, leads_along, number_of_list, same_nodes}
use Rattle.cfg_walk.proofs.Nodes.{home_directed, home_lands, home_of_node, lands_there, lands_in, directed_in, node_in}
use Rattle.liveness.proofs.Reaching.{LandsAt}
use Rattle.cfg_blocks.specs.declared.EdgeKind.TheVariants as kinds
use Rattle.cfg_normal.specs.declared.Slot.TheVariants as carried
use Rattle.v8_decode.specs.declared.Instr.TheVariants as i
use Rattle.cfg_blocks.specs.declared.BlockEnd.TheVariants as ends
use Rattle.live_walk.proofs.Trips.{Trip, slot, left, inside, over, jumped}

-- at the word of an address, in the walk's node
abbrev IsAt : Words → ℕ → Node → Point → Type 0
IsAt text address node q = (w : ℕ) × (word_at text address ≡ Some w) × (q ≡ At node w)

-- where a run stands: at a word of the walk's node, or on the edge that carries the slot
abbrev pub IsPointBy : Words → Graph → Node → RunPoint → Slot → Point → Type 0
IsPointBy text graph node point NoSlot q = IsAt text point.pc node q
IsPointBy text graph node point in_slot q =
    (e : ℕ) × (edge_along graph node (way_to text graph node (way_of (instr_at text (point.pc - 4)) in_slot) point.npc)
    ≡ e ∷ []) × (q ≡ Along e)

-- a step from one point of a run to another, with the slots before and after
abbrev pub TripBy : Words → Graph → (ℕ → List Part) → Node → RunPoint → RunPoint → Slot → Slot → Point → Type 0
TripBy text graph named node before after was now q =
    Trip text graph named q
    (IsPointBy text graph (node_after graph node (completed text graph node before after was now)) after now)
    (completed text graph node before after was now)

abbrev no_edge : Edge
no_edge = record { from = X; to = X; kind = kinds.Land; slot = carried.Nothing }

-- the edge along a way leaves the node, and has the way's kind
along_is : (graph : Graph) (node : Node) (way : WayOut) (e : ℕ) → edge_along graph node way ≡ e ∷ []
    → (e < length graph.edges) × ((edge_at graph e).from ≡ node) × (same_kind (edge_at graph e).kind way.kind ≡ true)
along_is graph node way e h =
    let passes =
    position-Some (λ (x : Edge). is_to way.to x && (same_node x.from node && same_kind x.kind way.kind)) graph.edges
    e no_edge (number_of_list _ e h) in
    let test = passes.1 in (passes.0, same_nodes _ node (grind arith), grind arith)

number_is : (graph : Graph) (numbers : List ℕ) (edge : Edge) (h : IsEdge graph numbers edge) → edge_at graph h.number ≡ edge
number_is graph numbers edge h = get_or_from_slice_get graph.edges h.number edge _ h.is

module _ {text : Words} {b : Blocks} (opens : List Open) (c : IsCut text b) (named : ℕ → List Part) where
  abbrev graph : Graph
  graph = graph_of b opens

  -- the node's block holds the word
  held_at : (node : Node) (v : ℕ) → v < b.words → IsNodeIn b opens node → home_of node ≡ node_of b (Some v)
      → Holds graph node v
  held_at node v l there home =
      let i = in_held b.words b.firsts c.firsts v l in grind (arith, i.within, i.above, i.below, node_is b v l)

  first_at : (node : Node) (v : ℕ) → v < b.words → Leads b.firsts v → home_of node ≡ node_of b (Some v)
      → IsFirst graph node v
  first_at node v l leads home = grind (arith, first_held b.words b.firsts c.firsts v leads, node_is b v l)

  last_at : (node : Node) (k word : ℕ) → home_of node ≡ block k → word ≡ last_word b.firsts b.words k
      → IsLast graph node word
  last_at node k word home last = grind arith

  begun_at : (node : Node) (v : ℕ) → Begins graph node (Some v) → IsFirst graph node v
  begun_at node v h = grind arith

  -- an edge that is no landing goes on at the first word of its node
  starts : (from : Node) (kind : EdgeKind) (to : Option ℕ) (v : ℕ) → is_landing kind ≡ false → to ≡ Some v → v < b.words
      → (home_of (directed opens from kind (node_of b to)) ≡ node_of b (Some v)
      → IsFirst graph (directed opens from kind (node_of b to)) v)
      → GoesOnAt graph kind (directed opens from kind (node_of b to)) v
  starts from kind to v no_landing is low first =
      let home : home_of (directed opens from kind (node_of b to)) ≡ node_of b (Some v) =
      home_directed opens from kind (node_of b to) ∙ home_of_node b to ∙ ap (node_of b) is in (
        held_at _ v low (directed_in b opens from kind _ (node_in b opens c.firsts.some to)) home,
        rw no_landing (first home),
      )

  -- from behind an edge on to where it leads
  lands_on : (e address : ℕ) (edge : Edge) (node : Node) → edge_at graph e ≡ edge → node ≡ edge.to
      → ((v : ℕ) → word_at text address ≡ Some v → GoesOnAt graph edge.kind edge.to v)
      → (r : Point) → IsAt text address node r → Goes text graph named (After e) r
  lands_on e address edge node is to on r (v, at, there) = rw (there, is, to) (refl, on v at)

  -- ---- a step outside a slot

  module _ {node : Node} {before : RunPoint} {word : ℕ} {instr : Instr}
      (h : Stands text b opens node before word instr) where
    abbrev k : ℕ
    k = holding_of b word

    abbrev Goal : RunPoint → Slot → Type 0
    Goal after now = TripBy text graph named node before after NoSlot now (At node word)

    -- what a step without a slot completes
    left_is : left_at text graph node (word_at text before.pc) ≡ left_by graph node word instr
    left_is = cc (at h, h.decodes)

    -- by the edge of a way, which has no slot
    pub edge_trip : (after : RunPoint) (w : Way) → word ≡ last_word b.firsts b.words k
        → is_jump (end_at text word) ≡ false → is_landing w.kind ≡ false
        → IsOne w (ways_of b.words word (end_at text word)) → runs_slot (end_at text word) w.kind ≡ false
        → left_by graph node word instr ≡ edge_from graph node w.kind
        → word_at text after.pc ≡ w.to → LeadsIfThere b w.to → Goal after NoSlot
    edge_trip after w last no_jump no_landing one quiet by to leads =
        let fi = along_is graph node (by_kind w.kind) found.number found.only in
        let is_edge = number_is graph _ _ found in
        over found.number (left_is ∙ by ∙ found.only)
        (left node word refl (fi.0, fi.1, last_at node k word (home h) last) (cc (is_edge, end, quiet)))
        (λ r n. inr (lands_on found.number after.pc (edge_of b opens node k w) _ is_edge
        (ap (node_after graph node) (left_is ∙ by) ∙ leads_along graph node _ _ found) (λ v at.
        let there : w.to ≡ Some v = sym to ∙ at in
        let low = leads v there in starts node w.kind w.to v no_landing there low.0 (first_at _ v low.0 low.1)) r n))
      where
        end : end_of b k ≡ end_at text word
        end = end_here text b opens c word (low h) last

        found : IsEdge graph (edge_from graph node w.kind) (edge_of b opens node k w)
        found =
            way_found text b opens c word (low h) h.are node h.there (home h) w last
            (no_cases b opens h.are node k (home h) (ap is_jump end ∙ no_jump)) one

    -- within a block
    block_trip : (after : RunPoint) → (word ≡ last_word b.firsts b.words k → ⊥) → left_by graph node word instr ≡ []
        → word_at text after.pc ≡ within b.words (word + 1) → Goal after NoSlot
    block_trip after inner none to = inside (left_is ∙ none) (λ r n.
        let so = within_some b.words (word + 1) n.0 (sym to ∙ n.1) in
        let i = is_in text b opens c word (low h) in
        let held : holding_of b n.0 ≡ k = is_held b.words b.firsts c.firsts n.0 k
        (record { within = i.within; above = omega (arith, i.above, so.1); below = omega (arith, i.below, inner, so.1) }) in
        let low : n.0 < b.words = rw so.1 at so.0 in
        rw n.2 (
          ap (node_after graph node) (left_is ∙ none),
          omega (arith, so.1),
          held_at node n.0 low h.there (rw (home h, ← held) (sym (node_is b n.0 low))),
        ))

    -- after a block's last word the next block begins
    next_leads : word ≡ last_word b.firsts b.words k → LeadsIfThere b (within b.words (word + 1))
    next_leads last v f =
        let i = is_in text b opens c word (low h) in
        let there = within_some b.words (word + 1) v f in
        let leads : Leads b.firsts (word + 1) = elim (cases_lt (suc k) (length b.firsts)) [
          | inl next ↦
              let ends_at : block_end b.firsts b.words k ≡ slice_index b.firsts (suc k) = rw (lt-ltb _ _ next) in
              record { block = suc k; within = next; is = omega (arith, i.below) }
          | inr none ↦
              let ends_at : block_end b.firsts b.words k ≡ b.words = rw (le-ltb _ _ none) in
              absurd (omega (arith, there.0))
        ] in (rw there.1 at there.0, rw there.1 at leads)

    pub straight : (after : RunPoint) → is_transfer instr ≡ false → after.pc ≡ before.npc → Goal after NoSlot
    straight after t pc =
        let fall : end_at text word ≡ ends.Fall = end_is text word instr h.decodes ∙ straight_end text word instr t in
        elim (cases_eq word (last_word b.firsts b.words k)) [
          | inl last ↦
              let ends = eq-eqb word _ last in
              edge_trip after (way kinds.Fall (within b.words (word + 1))) last (ap is_jump fall) refl
              (rw fall (fall_is_one b.words word)) (ap (λ (x : BlockEnd). runs_slot x kinds.Fall) fall)
              (cc (straight_left graph node word instr t, ends_home b opens node k word (home h), ends))
              (next_is h after pc) (next_leads last)
          | inr inner ↦
              let ends = ne_eqb word _ inner in
              block_trip after inner (cc (straight_left graph node word instr t, ends_home b opens node k word (home h), ends))
              (next_is h after pc)
        ]

    -- into a slot
    enters : is_transfer instr ≡ true → (way : WayOut) (r : Point)
        → (e : ℕ) × (edge_along graph node way ≡ e ∷ []) × (r ≡ Along e) → Goes text graph named (At node word) r
    enters t way r (e, from, is) =
        let fi = along_is graph node way e from in
        let end = end_is text word instr h.decodes in
        let last = transfer_ends text b opens c word (low h) (rw end (grind arith)) in
        rw is (fi.0, fi.1, last_at node k word (home h) last)

    pub into : (after : RunPoint) (now : Slot) → now ≢ NoSlot → is_transfer instr ≡ true → Goal after now
    into after NoSlot not t = absurd (not refl)
    into after now not t =
        inside refl (λ r n. enters t (way_to text graph node (way_of (instr_at text (after.pc - 4)) now) after.npc) r n)

  -- ---- a step out of a slot

  module _ (node : Node) (there : IsNodeIn b opens node) (before : RunPoint) where
    low_at : (v : ℕ) → word_at text before.npc ≡ Some v → v < b.words
    low_at v e = let i = word_at-some text before.npc v e in omega (arith, i.within, c.words)

    -- where a jump lands
    lands_at : (v : ℕ) → word_at text before.npc ≡ Some v → LandsAt graph (lands_of b opens (Some v)) v
    lands_at v e = (
      held_at (lands_of b opens (Some v)) v (low_at v e) (lands_in b opens c.firsts.some (Some v))
          (home_lands b opens (Some v)),
      refl,
    )

    module _ (way : EdgeKind) (h : IsOnItsWay text graph node before way) where
      abbrev goes_by : WayOut
      goes_by = way_to text graph node way before.npc

      abbrev es : List ℕ
      es = slot_left text graph node way before.npc

      abbrev Left : Type 0
      Left = Trip text graph named (Along h.number) (IsAt text before.npc (node_after graph node es)) es

      edge_is : edge_at graph h.number ≡ h.edge
      edge_is = get_or_from_slice_get graph.edges h.number h.edge _ h.is

      completes : es ≡ h.number ∷ landed text graph goes_by.kind before.npc
      completes = ap (λ numbers. numbers ++ landed text graph goes_by.kind before.npc) h.only

      kind_is : h.edge.kind ≡ goes_by.kind
      kind_is =
          ap (λ (d : Edge). d.kind) (sym edge_is) ∙ same_kinds _ goes_by.kind (along_is graph node goes_by h.number h.only).2

      -- along an edge behind which no landing follows
      alone : landed text graph goes_by.kind before.npc ≡ [] → node_after graph node es ≡ h.edge.to
          → ((v : ℕ) → word_at text before.npc ≡ Some v → GoesOnAt graph goes_by.kind h.edge.to v) → Left
      alone none to on =
          over h.number (cc (completes, none)) (slot refl) (λ r n. inr (lands_on h.number before.npc h.edge _ edge_is to
          (λ v at. rw kind_is (on v at)) r n))

    along_trip : (way : EdgeKind) → same_kind way kinds.Out ≡ false → is_landing way ≡ false
        → way_to text graph node way before.npc ≡ by_kind way → (h : IsOnItsWay text graph node before way) → Left way h
    along_trip way no_jump no_landing plain h =
        let to = h.leads no_jump in
        alone way h (rw plain (lands_not text graph way before.npc no_jump))
        (way_leads text b opens c node before way h no_jump ∙ sym to.1)
        (λ v at. rw (to.1, plain) (starts node way (word_at text before.npc) v no_landing at (low_at v at)
        (λ _. begun_at _ v (rw (at, to.1) at to.0))))

    jump_trip : (h : IsOnItsWay text graph node before kinds.Out) (x : Bool) → has_cases opens node ≡ x
        → Left kinds.Out h
    -- by case
    jump_trip h true cased =
        let to : h.edge.to ≡ lands_of b opens (word_at text before.npc) = cc (h.lands_at refl, cased) in
        alone kinds.Out h (rw cased refl) (jump_lands text b opens c node before h ∙ sym to)
        (λ v at. rw (to, cased, at) (lands_at v at))
    -- else to X, and then to the landing where the text has the word
    jump_trip h false plain = by (word_at text before.npc) refl
      where
        unknown : is_unknown (edge_at graph h.number) ≡ true
        unknown = or_right (is_call_or_jump (edge_at graph h.number).kind) _ (rw (edge_is kinds.Out h, h.lands_at refl, plain) refl)

        completed_is : es kinds.Out h ≡ h.number ∷ landed text graph kinds.Out before.npc
        completed_is = completes kinds.Out h ∙ rw plain refl

        by : (o : Option ℕ) → word_at text before.npc ≡ o → Left kinds.Out h
        by None e =
            let none : landed text graph kinds.Out before.npc ≡ [] = rw e refl in
            over h.number (cc (completed_is, none)) (slot refl) (λ r n. inl unknown)
        by (Some v) e =
            let low : v < b.words = low_at v e in
            let to : Node = lands_of b opens (Some v) in
            let lands = landing_found b opens to (holding_of b v) (in_held b.words b.firsts c.firsts v low).within
            (lands_there b opens v low) in
            let some : landed text graph kinds.Out before.npc ≡ landing_at graph to = rw e refl in
            jumped h.number lands.number (cc (completed_is, some, lands.only)) (slot refl) unknown
            (λ r n. lands_on lands.number before.npc (landing to) _ (number_is graph _ _ lands)
            (jump_lands text b opens c node before h ∙ ap (lands_of b opens) e)
            (λ u at. let same : v ≡ u = cc (e, at) in rw (← same) (lands_at v e)) r n)

    left_by_way : (way : EdgeKind) → is_landing way ≡ false → (h : IsOnItsWay text graph node before way) → Left way h
    left_by_way kinds.Out l h = jump_trip h (has_cases opens node) refl
    left_by_way kinds.Land l h = absurd (cc)
    left_by_way kinds.Case l h = absurd (cc)
    left_by_way way l h = along_trip way refl refl refl h

    from_edge : (way : EdgeKind) → is_landing way ≡ false → IsOnItsWay text graph node before way → (q : Point)
        → (d : ℕ) × (edge_along graph node (way_to text graph node way before.npc) ≡ d ∷ []) × (q ≡ Along d)
        → (a : ℕ) → a ≡ before.npc
        → Trip text graph named q (IsAt text a (node_after graph node (slot_left text graph node way a)))
        (slot_left text graph node way a)
    from_edge way l h q (d, from, is) a pc =
        let same : h.number ≡ d = cc (h.only, from) in
        rw (pc, is, ← same) (left_by_way way l h)

    pub out_trip : (x : Slot) → x ≢ NoSlot → MatchesBy text graph node before x → (q : Point)
        → IsPointBy text graph node before x q → (after : RunPoint) → after.pc ≡ before.npc
        → TripBy text graph named node before after x NoSlot q
    out_trip NoSlot not m q p after pc = absurd (not refl)
    out_trip x not m q p after pc =
        from_edge (way_of (instr_at text (before.pc - 4)) x) (grind arith) m q p after.pc pc
