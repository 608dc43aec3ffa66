-- The image of a word that is no transfer goes on to the next word's image, or at the text's end out of the text.
use Rattle.image_code.proofs.Common.{◌≡◌, ◌≢◌, ℕ, suc, ◌+◌, ◌-◌, ◌<◌, ◌≤◌, inl, inr, true, false, None, List, [], length, refl, ap, sym, ◌∙◌, subst, arith, nat_lt, slice_get, slice_index, and_parts, cases_Bool, cases_lt, le-ltb, lt-ltb, ltb-true, Words, address_of, word_at, Instr, decode_of, NoSlot, State, is_transfer, Blocks, blocks_of, holding_of, last_word, end_at, ends_block_after, within, word_at-some, Node, same_node, left_by, node_after, point_of, next_word, end_is, is_in, same_itself, Exit, end_by, does_at, graph_in, enter_number, image_number, node_in_order, ◌∷◌, ◌==◌, ◌&&◌, eq-eqb, eqb-true, false_from_ne_true, false≢true, ne_eqb, EdgeKind, end_of, is_jump, Block, home_of, Open, edge_from, same_kind, block, IsIn, ends_within, straight_left, cases_eq, block_end, way, is_compared, is_held, way_found, and-true, end_here, ends_home, falls_to, no_cases, node_within, straight_end, fall_is_one, EditSetup, block_of}
use Rattle.cfg_blocks.specs.declared.BlockEnd.TheVariants as ends
use Rattle.cfg_blocks.specs.declared.EdgeKind.TheVariants as kinds
use Rattle.image_code.specs.declared.shape.Exit.TheVariants as exits
use Rattle.image_code.specs.declared.shape.Head.TheVariants as heads
use Rattle.cfg_walk.proofs.Holding.{Leads, is_last}
use Rattle.image_code.proofs.Points.{entered_at}
use Rattle.image_code.proofs.PointShapes.{IsJumpTarget, IsPlain, Reaches}
use Rattle.image_code.proofs.Branches.{image_straight}
use Rattle.image_code.proofs.CaseTables.{IsKnown, facts}
use Rattle.image_code.proofs.ImageNumbers.{HasImage, at_compare, at_jump, compare_follows, enter_at, in_order, jump_follows, ordered_enters}
use Rattle.image_code.proofs.Listed.{block_apart, copy_apart, jump_of, number_is, ordered_stands}
use Rattle.image_code.proofs.OpenNumbers.{ordered_number}
use Rattle.image_code.proofs.Positions.{placed}
use Rattle.image_code.proofs.Routes.{shape_within}
use Rattle.image_code.proofs.Visited.{AtWord, at_image, goes_straight, site, entered_none, entered_word, image_shape, left_gone, shapes, word_is}
use Rattle.image_code.specs.Made.{is_slots, next_at, next_to}

-- a transfer ends its block, whatever it is
transfer_end : (text : Words) (word : ℕ) (instr : Instr) → is_transfer instr ≡ true
    → ends_block_after (end_by text word instr) ≡ true
transfer_end text word instr e = grind arith

-- from a block that ends in no branch
not_compared : (g : EditSetup) → IsKnown g → (node : Node) (k : ℕ) → home_of node ≡ block k
    → ends_block_after (end_of (blocks_of g.text g.given) k) ≡ false → (kind : EdgeKind) (to : ℕ)
    → is_compared g.switches node kind to ≡ false
not_compared g is (Block from) k home plain kind to = false_from_ne_true _ (λ e.
    let found = placed (λ (o : Open). (o.block == to) && (o.switch.compare.0 == from.0) && same_kind kind o.way)
    g.switches e in
    let parts = and_parts _ (same_kind kind found.item.way) found.passes in
    let compares : found.item.switch.compare.0 ≡ from.0 = eqb-true _ _ (and_parts _ _ parts.0).1 in
    false≢true (sym plain ∙ rw (← ap block_of home, ← compares) (is.cased.branches found.number found.item found.is).0))
not_compared g is _ k home plain kind to = refl

module _ (visit : AtWord)
    (straight : is_transfer (decode_of (slice_index visit.edit.g.text.words visit.word)) ≡ false) where
  open visit use {edit, node, x, word, at, none, there, npc, inside, cut, low, home, has, edit.{g, is, p, f}}

  abbrev b : Blocks
  b = blocks_of g.text g.given

  abbrev its_block : ℕ
  its_block = holding_of b word

  abbrev its_last : ℕ
  its_last = last_word b.firsts b.words its_block

  abbrev instr : Instr
  instr = decode_of (slice_index g.text.words word)

  -- the edge to the next word, at the end of a block, and its snippet
  abbrev edges : List ℕ
  edges = left_by (graph_in g) node word instr

  held : IsIn b.words b.firsts word its_block
  held = is_in g.text b g.switches cut word low

  falls : end_at g.text word ≡ ends.Fall
  falls = end_is g.text word instr refl ∙ straight_end g.text word instr straight

  ended : word ≡ its_last → end_of b its_block ≡ ends.Fall
  ended last = end_here g.text b g.switches cut word low last ∙ falls

  last_edges : word ≡ its_last → edges ≡ edge_from (graph_in g) node kinds.Fall
  last_edges last =
      rw (straight_left _ node word instr straight, ends_home b g.switches node its_block word home, eq-eqb _ _ last) refl

  inner_edges : (word ≡ its_last → ⊥) → edges ≡ []
  inner_edges inner =
      rw (straight_left _ node word instr straight, ends_home b g.switches node its_block word home, ne_eqb _ _ inner) refl

  more_words : (word ≡ its_last → ⊥) → word + 1 < block_end b.firsts b.words its_block
  more_words inner = omega (arith, held.below, inner)

  held_next : (word ≡ its_last → ⊥) → holding_of b (word + 1) ≡ its_block
  held_next inner =
      is_held b.words b.firsts cut.firsts (word + 1) its_block
      (record { within = held.within; above = omega (arith, held.above); below = more_words inner })

  -- the piece of the word's image
  abbrev number : ℕ
  number = image_number g.text (graph_in g) node word

  abbrev exit : Exit
  exit = next_at g.text (graph_in g) node word

  -- where the step leads
  module _ (t v : State) (does : does_at g x t ≡ v) (live : v.ending ≡ None) where
    went : (v.pc ≡ x.npc) × (v.slot ≡ NoSlot)
    went =
        rw (← does) (goes_straight g x t (slice_index g.text.words word) (word_is g x word at) straight (rw does live))

    reaches : word_at g.text v.pc ≡ within (length g.text.words) (word + 1)
    reaches = ap (word_at g.text) (went.0 ∙ npc) ∙ next_word g.text x.pc word is.text (word_at-some g.text x.pc word at)

    -- so the piece's exit leads there, and without an edge only behind the piece
    abbrev LeadsOut : Exit → Type 0
    LeadsOut exit =
        Reaches (site edit) number exit (word_at g.text v.pc)
        (entered_at (site edit) (node_after (graph_in g) node edges) (point_of v))
        × (word_at g.text v.pc ≢ None → edges ≡ [] → exit ≡ exits.Behind)

    -- on to what stands behind the piece
    behind : (next : Node) → word + 1 < length g.text.words → node_after (graph_in g) node edges ≡ next
        → enter_number g.text (graph_in g) next (word + 1) ≡ suc number
        → HasImage g.text (graph_in g) (facts g is) next (word + 1) → LeadsOut exits.Behind
    behind next more after follows next_has =
        let low = shape_within (site edit) (suc number) _ (ap (slice_get (shapes edit)) (sym follows)
        ∙ enter_at g.text (graph_in g) (facts g is) f.table.base f.cases.base next (word + 1) more next_has) in
        let on_word = rw (lt-ltb _ _ more) at reaches in
        let to : slice_index p.at (suc number)
        ≡ entered_at (site edit) (node_after (graph_in g) node edges) (point_of v) =
        rw (← follows, after) (sym (entered_word edit next (point_of v) (word + 1) on_word went.1)) in
        ((low, to), λ _ _. refl)

    -- in the order of the text
    module _ (same : node ≡ node_in_order (graph_in g) word) where
      abbrev next_node : Node
      next_node = node_in_order (graph_in g) (word + 1)

      next_in_order : word + 1 < b.words → node_after (graph_in g) node edges ≡ next_node
      next_in_order more = elim (cases_eq word its_last) [
        | inl last ↦
            let to = falls_to g.text b g.switches cut word low is.cased.jumps node there home falls last in
            let none = not_compared g is node its_block home (ap ends_block_after (ended last)) kinds.Fall
            (holding_of b (word + 1)) in
            rw (last_edges last, to, node_within b (word + 1) more, none, and-true) refl
        | inr inner ↦ rw (inner_edges inner, held_next inner) same
      ]

      -- a slot's word ends its block, from which an edge leads to the next one
      slot_ends : is_slots g.text word ≡ true → edges ≢ []
      slot_ends slots none =
          let before = decode_of (slice_index g.text.words (word - 1)) in
          let two = and_parts (nat_lt 0 word) (is_transfer before) slots in
          let some : 0 < word = ltb-true 0 word two.0 in
          let next : word - 1 + 2 ≡ suc word = omega (arith, some) in
          let last = is_last b.words b.firsts cut.firsts word its_block held (λ more.
          subst (λ (n : ℕ). Leads b.firsts n) next (cut.second (word - 1)
          (ap ends_block_after (end_is g.text (word - 1) before refl) ∙ transfer_end g.text (word - 1) before two.1)
          (omega (arith, cut.words)))) in
          let quiet = no_cases b g.switches is.cased.jumps node its_block home (ap is_jump (ended last)) in
          let found = way_found g.text b g.switches cut word low is.cased.jumps node there home
          (way kinds.Fall (within b.words (word + 1))) last quiet (rw falls (fall_is_one b.words word)) in
          let one : found.number ∷ [] ≡ [] = sym found.only ∙ sym (last_edges last) ∙ none in
          absurd (cc)

      order_goes : LeadsOut (next_to g.text (graph_in g) word)
      order_goes = elim (cases_lt (word + 1) (length g.text.words)) [
        | inl more ↦
            let next = next_in_order (omega (arith, more, cut.words)) in
            rw (lt-ltb _ _ more) (elim (cases_Bool (is_slots g.text word)) [
              | inl slots ↦
                  let on_word = rw (lt-ltb _ _ more) at reaches in
                  let enters = sym (entered_word edit next_node (point_of v) (word + 1) on_word went.1) in
                  rw (slots, next) (enters, λ _ none. absurd (slot_ends slots none))
              | inr alone ↦
                  let here = number_is g.text (graph_in g) (facts g is) _ _
                  (ordered_stands g.text (graph_in g) (facts g is) word inside) in
                  let follows : enter_number g.text (graph_in g) next_node (word + 1) ≡ suc number =
                  rw same (omega (arith, ordered_number g.text (graph_in g) (facts g is) (word + 1) more, here)) in
                  rw alone (behind next_node more next follows
                  (in_order refl (ordered_enters g.text (graph_in g) (facts g is) (word + 1))))
            ])
        | inr past ↦
            let none_there = rw (le-ltb _ _ past) at reaches in
            let w = word_at-some g.text x.pc word at in
            let pc : v.pc ≡ address_of g.text (length g.text.words) =
            omega (arith, went.0, npc, w.is, inside, is.text.below) in
            let far : IsJumpTarget v.pc = rw pc (omega (arith, is.text.aligned), omega (arith, is.text.below)) in
            rw (le-ltb _ _ past, entered_none edit (node_after (graph_in g) node edges) (point_of v) none_there went.1)
            ((none_there, far, sym pc), λ there. absurd (there none_there))
      ]

    -- apart from it: within its block a word goes on to the next
    apart_goes : (k : ℕ) → its_block ≡ k → (word ≡ its_last → ⊥)
        → same_node node (node_in_order (graph_in g) word) ≡ false
        → (slice_index b.firsts k ≤ word → word + 1 < block_end b.firsts b.words k
        → enter_number g.text (graph_in g) node (word + 1) ≡ suc number)
        → (holding_of b (word + 1) ≡ k → HasImage g.text (graph_in g) (facts g is) node (word + 1)) → LeadsOut exit
    apart_goes k block_is inner apart follows next_has =
        let more : word + 1 < length g.text.words =
        omega (arith, more_words inner, ends_within b.words b.firsts cut.firsts its_block held.within, cut.words) in
        rw apart (behind node more (ap (node_after (graph_in g) node) (inner_edges inner))
        (follows (rw block_is at held.above) (rw block_is at (more_words inner))) (next_has (held_next inner ∙ block_is)))

    by_image : HasImage g.text (graph_in g) (facts g is) node word → LeadsOut exit
    by_image (in_order same enters) =
        rw (← same, same_itself node) (order_goes same)
    by_image (at_jump k o e here block_is) =
        apart_goes o.block block_is
        (λ last. false≢true (rw (ended last) at (is.cased.jumps its_block (rw block_is (jump_of g.switches k o e)))))
        (rw here (block_apart g.text (graph_in g) (facts g is) k o e word))
        (rw here (jump_follows g.text (graph_in g) (facts g is) k o e word)) (at_jump k o e here)
    by_image (at_compare k o e here block_is) =
        apart_goes o.switch.compare.0 block_is
        (λ last. false≢true (rw (← block_is, ended last) at (is.cased.branches k o e).0))
        (rw here (copy_apart g.text (graph_in g) (facts g is) k o e word))
        (rw here (compare_follows g.text (graph_in g) (facts g is) k o e word)) (at_compare k o e here)

  pub plain_is : (t : State) → IsPlain (site edit) node x t
  plain_is t =
      let mark = at_image visit (λ _ word. heads.Word word) edges exit (image_shape visit instr refl
      ∙ rw (image_straight g.text (graph_in g) _ _ _ node word instr straight) refl) in
      record {
        edges = edges;
        exit = exit;
        mark = record { mark = mark; straight = straight };
        leads = λ live.
            let gone = left_gone g node x (does_at g x t) none (went t _ refl live).1 live word at instr refl in
            (gone, rw gone (by_image t (does_at g x t) refl live has));
      }
