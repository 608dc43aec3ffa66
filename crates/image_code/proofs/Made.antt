-- The pieces that are made are images.
use Rattle.image_code.proofs.Common.{◌≡◌, false≢true, ℕ, Bool, true, false, Option, Some, None, refl, ap, sym, ◌∙◌, slice_index, word_at, Op2, Instr, decode_of, Slot, NoSlot, State, is_transfer, blocks_of, Node, Block, jumps_in, has_cases, Point, MatchesBy, block, Chooses, MatchesIn, does_at, graph_in, PiecesMakeImages, IsOffPages, ne_eqb, eq-eqb, suc, List, [], subst, inl, inr, slice_get, Open, save_load_address, words_of, Item, items_in, cases_eq, cases_Bool, bare, case_table, first_operand, load_of, second_operand, save_by, CaseTable, IsAtWord, block_of}
use Rattle.v8_decode.specs.declared.Instr.TheVariants as i
use Rattle.cfg_blocks.specs.Values.{instr_at}
use Rattle.image_code.specs.Labels.{Image, Save, enter_number, image_number, number_of}
use Rattle.image_code.specs.declared.shape.Exit.TheVariants as exits
use Rattle.image_code.proofs.Points.{AtVisitIn}
use Rattle.image_code.proofs.PointShapes.{IsCase, IsEntered, at_once, call, choice, foreign, jump, off, plain, saving}
use Rattle.image_code.proofs.Visited.{AtWord, PlacedEdit, at_word, entered_word, enters_itself, shapes, site, slotted, visited_word}
use Rattle.image_code.proofs.CaseTables.{IsKnown, are_tables, known_at, table_of, facts}
use Rattle.image_code.proofs.Heads.{foreign_is, off_is, visits}
use Rattle.image_code.proofs.Imaged.{simulate}
use Rattle.image_code.proofs.ImageNumbers.{comes, jump_numbered, saved_follows, unsaved}
use Rattle.image_code.proofs.Listed.{jump_of, load_stands, save_stands, shape_at}
use Rattle.image_code.proofs.Opened.{cased, load_is}
use Rattle.image_code.proofs.PlainWords.{plain_is}
use Rattle.image_code.proofs.Routes.{falls as goes_behind, items_at, shape_within}
use Rattle.image_code.proofs.SlotCopies.{copy_case}
use Rattle.image_code.proofs.Transfers.{branch_case, call_is, choice_case, jump_is}

-- where control enters: before the load of an open switch a piece that keeps its address, elsewhere the visit itself
module _ (edit : PlacedEdit) (node : Node) (x : Point) where
  open edit use {g, is, p, place, f}

  comes_itself : ((word : ℕ) → word_at g.text x.pc ≡ Some word → x.slot ≡ NoSlot
      → enter_number g.text (graph_in g) node word ≡ image_number g.text (graph_in g) node word)
      → ((j : ℕ) (o : Open) → slice_get g.switches j ≡ Some o
      → IsAtWord g (case_table g.text o) node x (load_of g.text o) → ⊥) → IsEntered (site edit) node x
  comes_itself same none = at_once (enters_itself edit node x same) (λ j table e a.
      let t = table_of g is.known j table e in
      none j t.o t.is (subst (λ (c : CaseTable). IsAtWord g c node x c.load) (sym t.same) a))

  -- in the block of an open switch's jump
  module _ (k : ℕ) (o : Open) (among : slice_get g.switches k ≡ Some o) (itself : node ≡ block o.block) where
    abbrev load : ℕ
    load = load_of g.text o

    -- at a word that isn't the load
    other_word : ((word : ℕ) → word_at g.text x.pc ≡ Some word → x.slot ≡ NoSlot → word ≡ load → ⊥)
        → IsEntered (site edit) node x
    other_word not =
        comes_itself (λ word at none.
        let enters = comes g.text (graph_in g) (facts g is) k o among word false (ne_eqb word load (not word at none)) in
        rw (itself, enters)) (λ j q e a. not (load_of g.text q) a.stands a.outside
        (ap (load_of g.text) (is.cased.one j k q o e among (ap block_of (sym a.itself ∙ itself)))))

    abbrev piece : ℕ
    piece = number_of g.text (graph_in g) (Save o.block load)

    abbrev saving_words : List ℕ
    saving_words =
        words_of (save_load_address (first_operand (instr_at g.text load)) (second_operand (instr_at g.text load)))

    shape : slice_get (shapes edit) piece ≡ Some (bare [] (exits.Saved saving_words))
    shape =
        shape_at g.text (graph_in g) (facts g is) f.table.base f.cases.base (Save o.block load) _
        (save_stands g.text (graph_in g) (facts g is) k o among)
        ∙ ap (λ i. Some (save_by i)) (load_is g.text (blocks_of g.text g.given) o (is.cased.each k o among)).is

    falls : place piece 3 ≡ slice_index p.at (image_number g.text (graph_in g) (block o.block) load)
    falls =
        let next = saved_follows g.text (graph_in g) (facts g is) k o among in
        ap (place piece) (sym (ap (λ (v : Option (List Item)). items_in v) (items_at (site edit) piece _ shape)))
        ∙ goes_behind (site edit) piece _ saving_words shape refl
        (shape_within (site edit) (suc piece) _ (ap (slice_get (shapes edit)) next
        ∙ shape_at g.text (graph_in g) (facts g is) f.table.base f.cases.base (Image (block o.block) load) _
        (load_stands g.text (graph_in g) (facts g is) k o among))) ∙ ap (slice_index p.at) next

    in_switch : (w : Option ℕ) → word_at g.text x.pc ≡ w → (s : Slot) → x.slot ≡ s → IsEntered (site edit) node x
    in_switch (Some word) at NoSlot none = elim (cases_eq word load) [
      | inl e ↦
          let stands : word_at g.text x.pc ≡ Some load = rw (at, e) in
          saving k (case_table g.text o) (known_at g is.known k o among)
          (record { itself = itself; outside = none; stands = stands }) (record {
            piece = piece;
            here = entered_word edit node x load stands none
                ∙ rw (itself, comes g.text (graph_in g) (facts g is) k o among load true (eq-eqb load load refl)) refl;
            shape = shape;
            behind = falls ∙ sym (visited_word edit node x load stands none ∙ rw itself refl);
          })
      | inr n ↦ other_word (λ other there _ q. let one : word ≡ other = cc in n (one ∙ q))
    ]
    in_switch w at s some = other_word (λ other there outside _. absurd (cc))

  pub entered_so : IsEntered (site edit) node x
  entered_so = by node refl
    where
      by : (n : Node) → node ≡ n → IsEntered (site edit) node x
      by (Block k) here = elim (cases_Bool (jumps_in g.switches k.0)) [
        | inl e ↦
            let found = jump_numbered g.text (blocks_of g.text g.given) g.switches k.0 e in
            in_switch found.0 found.1 found.3 (here ∙ ap block (sym found.4)) (word_at g.text x.pc) refl x.slot refl
        | inr quiet ↦
            comes_itself (λ word _ _. rw (here, unsaved g.text (graph_in g) (facts g is) k.0 word quiet)) (λ j o e a.
            let same : o.block ≡ k.0 = ap block_of (sym a.itself ∙ here) in
            false≢true (sym quiet ∙ rw same at (jump_of g.switches j o e)))
      ]
      by n here =
          comes_itself (λ word _ _. rw here) (λ j o e a. let s : n ≡ block o.block = sym here ∙ a.itself in absurd (cc))

-- at a word, outside a slot
module _ (visit : AtWord) (t : State) (live : t.ending ≡ None)
    (chooses : Chooses visit.edit.g visit.node visit.x t (does_at visit.edit.g visit.x t)) where
  open visit use {edit, node, x, edit.{g}}

  -- a JMPL chooses a Case edge, or its target is looked up
  jump_case : (rd rs1 : ℕ) (op2 : Op2) → decode_of (slice_index g.text.words visit.word) ≡ i.Jmpl rd rs1 op2
      → (n : Node) → node ≡ n → (c : Bool) → has_cases g.switches n ≡ c → IsCase (site edit) node x t
  jump_case rd rs1 op2 says n same false e =
      jump (jump_is visit t rd rs1 op2 says (ap (has_cases g.switches) same ∙ e))
  jump_case rd rs1 op2 says (Block k) same true e =
      let found = jump_numbered g.text (blocks_of g.text g.given) g.switches k.0 e in
      choice (choice_case visit t rd rs1 op2 says chooses found.0 found.1 found.3 found.2
      (ap (jumps_in g.switches) found.4 ∙ e) (same ∙ ap block (sym found.4)))
  jump_case rd rs1 op2 says _ same true e = absurd (false≢true e)

  by_instr : (instr : Instr) → decode_of (slice_index g.text.words visit.word) ≡ instr → IsCase (site edit) node x t
  by_instr (i.Branch cond annul disp) says = branch_case visit cond annul disp says t live
  by_instr (i.Call disp) says = call (call_is visit t live disp says)
  by_instr (i.Jmpl rd rs1 op2) says = jump_case rd rs1 op2 says node refl (has_cases g.switches node) refl
  by_instr instr says = plain (plain_is visit (ap is_transfer says) t)

module _ (edit : PlacedEdit) where
  open edit use {g}

  case : (node : Node) (x : Point) (t : State) → MatchesIn g node x → IsOffPages g x
      → AtVisitIn (site edit) node x t → Chooses g node x t (does_at g x t) → IsCase (site edit) node x t
  case node x t m open_there here chooses = by x.slot refl m.0 (word_at g.text x.pc) refl
    where
      by : (s : Slot) → x.slot ≡ s → MatchesBy g.text (graph_in g) node x s → (o : Option ℕ) → word_at g.text x.pc ≡ o
          → IsCase (site edit) node x t
      by NoSlot none m0 None e = foreign (foreign_is edit node x none e m0.0 open_there)
      by NoSlot none m0 (Some word) e =
          by_instr (at_word edit node x word e none m0.0 m.1 m0.1) t here.live chooses _ refl
      by s some m0 None e = off (off_is (slotted edit node x s some (λ q. absurd (cc)) m0) e)
      by s some m0 (Some slot) e =
          copy_case (record { in_slot = slotted edit node x s some (λ q. absurd (cc)) m0; slot = slot; at = e }) t here

pub pieces_make_images : PiecesMakeImages
pieces_make_images g codes base p place f text graph known placed tables cases below noted =
    let is : IsKnown g = record { text = text; graph = graph; cased = cased g text graph; known = known } in
    let edit : PlacedEdit = search in
    let opens = are_tables g known text is.cased in
    simulate (site edit) (record { visits = visits edit; cases = case edit; opens = opens; enters = entered_so edit })
