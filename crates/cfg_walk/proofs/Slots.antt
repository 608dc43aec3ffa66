-- A transfer goes into its slot, and out of it.
use Rattle.cfg_walk.proofs.Common.{◌≡◌, ℕ, ◌+◌, ◌<◌, inl, inr, not, ◌&&◌, List, Bool, true, false, nat_lt, [], ◌++◌, Option, Some, None, refl, ap, sym, ◌∙◌, subst, arith, append-nil, if◌then◌else◌, slice_index, list_any, cases_Bool, cond_both, false≢true, nat_tests, Words, address_of, word_at, decode_of, Taken, EdgeKind, Way, end_at, is_transfer, ways_of, Blocks, holding_of, last_word, Node, X, Block, Landed, home_of, IsNodeIn, Open, jumps_in, Graph, case_of, directed, graph_of, case_nodes, has_cases, is_compared, lands_of, node_of, edge_of, runs_slot, slot_behind, slot_on, landing, Point, WayOut, by_kind, edge_along, edge_from, landed, left_along, node_after, led_to, slot_left, way_to, same_kind, AreOpen, Begins, IsCarried, IsOnItsWay, IsTarget, last_in, target_along, word_at-some}
use Rattle.cfg_blocks.specs.declared.EdgeKind.TheVariants as kinds
use Rattle.cfg_normal.specs.declared.Slot.TheVariants as carried_slots
use Rattle.cfg_walk.proofs.Holding.{Leads, in_held, first_held}
use Rattle.cfg_walk.proofs.Cut.{IsCut}
use Rattle.cfg_walk.proofs.Ways.{IsOne}
use Rattle.cfg_walk.proofs.Edges.{block, case_found, is_it, landing_found, leads_along, node_at}
use Rattle.cfg_walk.proofs.Nodes.{case_any, home_directed, home_lands, home_of_node, lands_there}
use Rattle.cfg_walk.proofs.Leaving.{end_here, here, is_in, node_is, transfer_ends, way_found}

-- a word to which control goes begins its block
abbrev pub LeadsIfThere : Blocks → Option ℕ → Type 0
LeadsIfThere b to = (word : ℕ) → to ≡ Some word → (word < b.words) × Leads b.firsts word

-- only a jump has a landing behind its edge
pub lands_not : (text : Words) (graph : Graph) (kind : EdgeKind) (next : ℕ) → same_kind kind kinds.Out ≡ false
    → landed text graph kind next ≡ []
lands_not text graph kind next e = grind arith

module _ (text : Words) (b : Blocks) (opens : List Open) (c : IsCut text b) where
  abbrev graph : Graph
  graph = graph_of b opens

  -- ---- into the slot

  begins : (to : Option ℕ) → LeadsIfThere b to → Begins graph (node_of b to) to
  begins None h = tt
  begins (Some word) h =
      let leads = h word refl in
      subst (λ node. Begins graph node (Some word)) (sym (node_is b word leads.0))
      (first_held b.words b.firsts c.firsts word leads.1)

  -- the copy begins with the same word
  begins_directed : (from : Node) (kind : EdgeKind) (node : Node) (to : Option ℕ) → Begins graph node to
      → Begins graph (directed opens from kind node) to
  begins_directed from kind (Block k) None h = absurd h
  begins_directed from kind (Block k) (Some word) h =
      cond_both (jumps_in opens k.0 && not (is_compared opens from kind k.0)) (Landed k) (Block k)
      (λ n. Begins graph n (Some word)) (λ _. h) (λ _. h)
  begins_directed from kind (Landed k) to h = h
  begins_directed from kind X to h = h

  last_of : (word n : ℕ) → word < n → nat_lt (word + 1) n ≡ false → word + 1 ≡ n
  last_of word n l off = grind (l, off, arith, nat_tests)

  carried : (word address : ℕ) → word < b.words → address ≡ address_of text (word + 1)
      → IsCarried text (slot_behind b.words word) address
  carried word address l e =
      cond_both (nat_lt (word + 1) b.words) _ _ (λ slot. IsCarried text slot address) (λ _. e)
      (λ off. e ∙ ap (address_of text) (last_of word b.words l off ∙ c.words))

  last_home : (node : Node) (k : ℕ) → home_of node ≡ block k
      → last_in graph node ≡ last_word b.firsts b.words k
  last_home node k h = elim (node_at node k h) [ inl here ↦ rw here | inr there ↦ rw there ]

  module _ (word : ℕ) (l : word < b.words) (t : is_transfer (end_at text word) ≡ true) (are : AreOpen b opens)
      (node : Node) (there : IsNodeIn b opens node) (home : home_of node ≡ block (here text b opens c word l)) where
    abbrev k : ℕ
    k = holding_of b word

    last : word ≡ last_word b.firsts b.words k
    last = transfer_ends text b opens c word l t

    -- the edge of the kind carries the slot behind the word
    carries_on : (kind : EdgeKind) (address : ℕ) → runs_slot (end_at text word) kind ≡ true
        → address ≡ address_of text (word + 1) → IsCarried text (slot_on b k kind) address
    carries_on kind address runs pc =
        subst (λ (x : Bool). IsCarried text
        (if x then slot_behind b.words (last_word b.firsts b.words k) else carried_slots.Nothing)
        address)
        (sym (ap (λ e. runs_slot e kind) (end_here text b opens c word l last) ∙ runs))
        (subst (λ (n : ℕ). IsCarried text (slot_behind b.words n) address) last
        (carried word address l pc))

    last_node : word ≡ last_in graph node
    last_node = last ∙ sym (last_home node k home)

    pub on_its_way : (point : Point) (w : Way) → point.pc ≡ address_of text (word + 1)
        → way_to text graph node w.kind point.npc ≡ by_kind w.kind → has_cases opens node ≡ false
        → IsOne w (ways_of b.words word (end_at text word)) → runs_slot (end_at text word) w.kind ≡ true
        → (same_kind w.kind kinds.Out ≡ false → (word_at text point.npc ≡ w.to) × LeadsIfThere b w.to)
        → (same_kind w.kind kinds.Out ≡ false
        → point.npc ≡ target_along text word w.kind (decode_of (slice_index text.words word)))
        → (same_kind w.kind kinds.Out ≡ true → (point.slot ≡ Taken) × (w.to ≡ None))
        → IsOnItsWay text graph node point w.kind
    on_its_way point w pc plain quiet one runs leads goes jumps =
        let found = way_found text b opens c word l are node there home w last quiet one in
        record {
          number = found.number;
          edge = edge_of b opens node k w;
          only = ap (edge_along graph node) plain ∙ found.only;
          is = found.is;
          pc = pc ∙ ap (λ n. address_of text (n + 1)) last_node;
          goes = λ no_jump.
              goes no_jump ∙ ap (λ n. target_along text n w.kind (decode_of (slice_index text.words n))) last_node;
          jumps = λ jump. (jumps jump).0;
          carries = carries_on w.kind point.pc runs pc;
          leads = λ no_jump.
              let to = leads no_jump in (
                subst (λ (o : Option ℕ). Begins graph (directed opens node w.kind (node_of b w.to)) o) (sym to.0)
                    (begins_directed node w.kind (node_of b w.to) w.to (begins w.to to.1)),
                ap (λ o. directed opens node w.kind (node_of b o)) (sym to.0),
              );
          lands_at = λ jump.
              ap (λ o. directed opens node w.kind (node_of b o)) (jumps jump).1
              ∙ sym (ap (λ (x : Bool). if x then lands_of b opens (word_at text point.npc) else X) quiet);
          cases = λ jump cased. absurd (false≢true (sym quiet ∙ cased));
        }

    -- a jump by case
    pub on_its_case : (point : Point) → point.pc ≡ address_of text (word + 1) → has_cases opens node ≡ true
        → IsTarget text opens node point.npc → runs_slot (end_at text word) kinds.Case ≡ true → point.slot ≡ Taken
        → IsOnItsWay text graph node point kinds.Out
    on_its_case point pc cased to runs slot = elim (node_at node k home) [
      | inl is ↦ case_of_block is
      | inr is ↦ absurd (subst (λ (n : Node). has_cases opens n ≡ true → ⊥) (sym is) (λ e. absurd (cc)) cased)
    ]
      where
        case_of_block : node ≡ block k → IsOnItsWay text graph node point kinds.Out
        case_of_block is =
            let target : IsTarget text opens (block k) point.npc =
            subst (λ (n : Node). IsTarget text opens n point.npc) is to in
            let to_node : Node = lands_of b opens (word_at text point.npc) in
            let any : list_any (is_it to_node) (case_nodes b opens k) ≡ true =
            ap (λ o. list_any (is_it (lands_of b opens o)) (case_nodes b opens k)) target.1
            ∙ case_any b opens k target.0 target.2 in
            let found = case_found b opens k to_node (is_in text b opens c word l).within
            (ap (has_cases opens) (sym is) ∙ cased) any in
            record {
              number = found.number;
              edge = case_of b k to_node;
              only =
                  ap (λ (x : Bool). edge_along graph node
                  (if x then record { kind = kinds.Case; to = Some to_node } else by_kind kinds.Out)) cased
                  ∙ ap (λ n. edge_along graph n (record { kind = kinds.Case; to = Some to_node })) is
                  ∙ found.only;
              is = found.is;
              pc = pc ∙ ap (λ n. address_of text (n + 1)) last_node;
              goes = λ no_jump. absurd (cc);
              jumps = λ _. slot;
              carries = carries_on kinds.Case point.pc runs pc;
              leads = λ no_jump. absurd (cc);
              lands_at = λ _. sym (ap (λ (x : Bool). if x then to_node else X) cased);
              cases = λ _ _. to;
            }

  -- ---- out of the slot

  landed_out : (address : ℕ) (o : Option ℕ) → word_at text address ≡ o
      → node_after graph X (landed text graph kinds.Out address) ≡ lands_of b opens o
  landed_out address None e = rw e refl
  landed_out address (Some word) e =
      let is = word_at-some text address word e in
      let low : word < b.words = omega (arith, is.within, c.words) in
      rw e (leads_along graph X _ (landing (lands_of b opens (Some word)))
      (landing_found b opens (lands_of b opens (Some word)) (holding_of b word)
      (in_held b.words b.firsts c.firsts word low).within (lands_there b opens word low)))

  abbrev GoesOut : Node → EdgeKind → ℕ → Type 0
  GoesOut node way address =
      home_of (node_after graph node (slot_left text graph node way address))
      ≡ node_of b (word_at text address)

  along_to : (node : Node) (point : Point) (way : EdgeKind) → IsOnItsWay text graph node point way
      → same_kind way kinds.Out ≡ false → way_to text graph node way point.npc ≡ by_kind way
      → node_after graph node (edge_from graph node way ++ [])
      ≡ directed opens node way (node_of b (word_at text point.npc))
  along_to node point way h e plain =
      ap (node_after graph node) (append-nil (edge_from graph node way))
      ∙ leads_along graph node _ h.edge
      (record { number = h.number; only = ap (edge_along graph node) (sym plain) ∙ h.only; is = h.is })
      ∙ (h.leads e).1

  along : (node : Node) (point : Point) (way : EdgeKind) → IsOnItsWay text graph node point way
      → same_kind way kinds.Out ≡ false → way_to text graph node way point.npc ≡ by_kind way
      → home_of (node_after graph node (edge_from graph node way ++ []))
      ≡ node_of b (word_at text point.npc)
  along node point way h e plain =
      ap home_of (along_to node point way h e plain)
      ∙ home_directed opens node way (node_of b (word_at text point.npc))
      ∙ home_of_node b (word_at text point.npc)

  -- where another way leads
  pub way_leads : (node : Node) (point : Point) (way : EdgeKind) → IsOnItsWay text graph node point way
      → same_kind way kinds.Out ≡ false
      → node_after graph node (slot_left text graph node way point.npc)
      ≡ directed opens node way (node_of b (word_at text point.npc))
  way_leads node point kinds.Out h e = absurd (cc)
  way_leads node point way h e = along_to node point way h e refl

  -- where a jump lands, by case or not
  pub jump_lands : (node : Node) (point : Point) → IsOnItsWay text graph node point kinds.Out
      → node_after graph node (slot_left text graph node kinds.Out point.npc) ≡ lands_of b opens (word_at text point.npc)
  jump_lands node point h = elim (cases_Bool (has_cases opens node)) [
    | inl e ↦
        let way : WayOut = record { kind = kinds.Case; to = Some (lands_of b opens (word_at text point.npc)) } in
        let is : way_to text graph node kinds.Out point.npc ≡ way =
        ap (λ (x : Bool). if x then way else by_kind kinds.Out) e in
        ap (λ (w : WayOut). node_after graph node (left_along text graph node w point.npc)) is
        ∙ rw append-nil (leads_along graph node _ h.edge
        (record { number = h.number; only = rw is at h.only; is = h.is }) ∙ rw e at (h.lands_at refl))
    | inr e ↦
        let is : way_to text graph node kinds.Out point.npc ≡ by_kind kinds.Out =
        ap (λ (x : Bool). if x then record { kind = kinds.Case; to = Some (lands_of b opens (word_at text point.npc)) } else by_kind kinds.Out) e in
        let landings = landed text graph kinds.Out point.npc in
        ap (λ (w : WayOut). node_after graph node (left_along text graph node w point.npc)) is
        ∙ ap (λ numbers. node_after graph node (numbers ++ landings)) (ap (edge_along graph node) (sym is) ∙ h.only)
        ∙ ap (λ o. node_after graph (led_to node o) landings) h.is
        ∙ ap (λ to. node_after graph to landings)
        (h.lands_at refl ∙ ap (λ (x : Bool). if x then lands_of b opens (word_at text point.npc) else X) e)
        ∙ landed_out point.npc (word_at text point.npc) refl
  ]

  pub out_of_slot : (node : Node) (point : Point) (way : EdgeKind)
      → IsOnItsWay text graph node point way → GoesOut node way point.npc
  out_of_slot node point kinds.Out h =
      ap home_of (jump_lands node point h) ∙ home_lands b opens (word_at text point.npc)
  out_of_slot node point way h = along node point way h refl refl
