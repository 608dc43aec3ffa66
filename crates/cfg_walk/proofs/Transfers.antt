-- What the walk does at each transfer outside a slot.
use Rattle.cfg_walk.proofs.Common.{◌≡◌, ℕ, ◌+◌, ◌*◌, ◌%◌, ◌^◌, Bool, true, false, not, ◌==◌, ◌||◌, List, Option, Some, None, refl, ap, sym, ◌∙◌, subst, inl, inr, if◌then◌else◌, ℤ, w32, cast_unsigned, cases_Bool, false≢true, Words, numbered, target_of, word_at, WordNo, Op2, NoSlot, Taken, Untaken, Codes, holds_of, BlockEnd, Way, way, within, end_at, is_transfer, ways_of, branch_target, number_of, target_in, always, Blocks, Node, Open, directed, graph_of, has_cases, lands_of, node_of, runs_slot, Point, by_kind, left_at, node_after, EdgeKind, IsTarget, is_jump}
use Rattle.v8_decode.specs.declared.Instr.TheVariants as i
use Rattle.cfg_blocks.specs.declared.BlockEnd.TheVariants as ends
use Rattle.cfg_blocks.specs.declared.EdgeKind.TheVariants as kinds
use Rattle.cfg_walk.proofs.Slots.{LeadsIfThere}
use Rattle.cfg_walk.proofs.Ways.{IsOne, taken_is_one, untaken_is_one, call_is_one, jump_is_one, not_never, not_always}
use Rattle.cfg_walk.proofs.Leaving.{end_is}
use Rattle.cfg_walk.proofs.Points.{Stands, StepsTo, annulled, annulled_to, leads_second, into_case, into_slot, quiet, jumps_along, jumps_to, passes, passes_along, skips}

module _ {text : Words} {b : Blocks} {opens : List Open} {node : Node} {before : Point} {word : ℕ} where
  -- ---- branches

  module _ (cond : ℕ) (annul : Bool) (disp22 : ℤ) (codes : Codes)
      (h : Stands text b opens node before word (i.Branch cond annul disp22)) where
    target : Option WordNo
    target = branch_target text word cond disp22

    end : end_at text word ≡ ends.Branch cond annul target
    unfolding target
    end = end_is text word (i.Branch cond annul disp22) h.decodes

    transfer : is_transfer (end_at text word) ≡ true
    transfer = ap is_transfer end

    plain : is_jump (end_at text word) ≡ false
    plain = ap is_jump end

    none : has_cases opens node ≡ false
    none = quiet h transfer plain

    taken : Way
    taken = way kinds.Taken (number_of target)

    untaken : Way
    untaken = way kinds.Untaken (within b.words (word + 2))

    one_taken : holds_of cond codes ≡ true → IsOne taken (ways_of b.words word (end_at text word))
    unfolding taken
    one_taken holds = rw end (taken_is_one b.words word cond annul target (not_never cond codes holds))

    one_untaken : holds_of cond codes ≡ false → IsOne untaken (ways_of b.words word (end_at text word))
    unfolding untaken
    one_untaken holds = rw end (untaken_is_one b.words word cond annul target (not_always cond codes holds))

    is_target : holds_of cond codes ≡ true → target ≡ numbered (target_of text word disp22)
    unfolding target
    is_target holds =
        rw (not_never cond codes holds) refl

    module _ (after : Point) where
      -- `ba,a`
      pub always_annulled : holds_of cond codes ≡ true → (cond == always) ≡ true
          → after.pc ≡ (before.pc + 4 * cast_unsigned w32 disp22) % 2 ^ 32
          → after.npc ≡ (after.pc + 4) % 2 ^ 32
          → StepsTo text (graph_of b opens) node before after NoSlot NoSlot
      unfolding taken
      always_annulled holds all pc npc =
          annulled h after transfer taken (one_taken holds) plain
          (λ n. rw all refl)
          (jumps_to h after transfer target disp22 after.pc (ap target_in end) (is_target holds) pc).0 npc

      pub untaken_annulled : holds_of cond codes ≡ false
          → after.pc ≡ (before.pc + 8) % 2 ^ 32 → after.npc ≡ (after.pc + 4) % 2 ^ 32
          → StepsTo text (graph_of b opens) node before after NoSlot NoSlot
      unfolding untaken
      untaken_annulled holds pc npc =
          annulled h after transfer untaken (one_untaken holds) plain
          (λ n. rw (not_always cond codes holds) refl)
          (skips h after transfer pc) npc

      pub taken_delayed : holds_of cond codes ≡ true → (not annul || not (cond == always)) ≡ true
          → after.pc ≡ before.npc → after.npc ≡ (before.pc + 4 * cast_unsigned w32 disp22) % 2 ^ 32
          → StepsTo text (graph_of b opens) node before after NoSlot Taken
      unfolding taken
      taken_delayed holds runs pc npc =
          into_slot h after transfer Taken taken (one_taken holds) refl refl none
          (ap (λ (e : BlockEnd). runs_slot e kinds.Taken) end ∙ runs) pc
          (λ _. jumps_to h after transfer target disp22 after.npc (ap target_in end) (is_target holds) npc)
          (λ _. jumps_along h after transfer disp22 after.npc npc) (λ jump. absurd (false≢true jump))

      pub untaken_delayed : holds_of cond codes ≡ false → annul ≡ false
          → after.pc ≡ before.npc → after.npc ≡ (before.npc + 4) % 2 ^ 32
          → StepsTo text (graph_of b opens) node before after NoSlot Untaken
      unfolding untaken
      untaken_delayed holds kept pc npc =
          into_slot h after transfer Untaken untaken (one_untaken holds) refl refl none
          (ap (λ (e : BlockEnd). runs_slot e kinds.Untaken) end ∙ ap (λ (x : Bool). not x || false) kept) pc
          (λ _. passes h after transfer npc) (λ _. passes_along h after transfer npc)
          (λ jump. absurd (false≢true jump))

    -- where it is annulled, by the edge and to the first word of a block
    abbrev pub GoesToHead : Point → EdgeKind → Type 0
    GoesToHead after kind =
        (node_after (graph_of b opens) node (left_at text (graph_of b opens) node (word_at text before.pc))
        ≡ directed opens node kind (node_of b (word_at text after.pc))) × LeadsIfThere b (word_at text after.pc)

    pub always_goes : (after : Point) → holds_of cond codes ≡ true → (cond == always) ≡ true
        → after.pc ≡ (before.pc + 4 * cast_unsigned w32 disp22) % 2 ^ 32 → GoesToHead after kinds.Taken
    unfolding taken
    always_goes after holds all pc =
        let to = jumps_to h after transfer target disp22 after.pc (ap target_in end) (is_target holds) pc in (
          annulled_to h after transfer taken (one_taken holds) plain
              (λ n. rw all refl)
              ∙ ap (λ o. directed opens node kinds.Taken (node_of b o)) (sym to.0),
          subst (LeadsIfThere b) (sym to.0) to.1,
        )

    pub untaken_goes : (after : Point) → holds_of cond codes ≡ false
        → after.pc ≡ (before.pc + 8) % 2 ^ 32 → GoesToHead after kinds.Untaken
    unfolding untaken
    untaken_goes after holds pc =
        let to = skips h after transfer pc in (
          annulled_to h after transfer untaken (one_untaken holds) plain
              (λ n. rw (not_always cond codes holds) refl)
              ∙ ap (λ o. directed opens node kinds.Untaken (node_of b o)) (sym to),
          subst (LeadsIfThere b) (sym to) (leads_second h after transfer),
        )

  -- ---- CALL and JMPL

  pub call_delayed : (disp30 : ℤ) (after : Point) → Stands text b opens node before word (i.Call disp30)
      → after.pc ≡ before.npc → after.npc ≡ (before.pc + 4 * cast_unsigned w32 disp30) % 2 ^ 32
      → StepsTo text (graph_of b opens) node before after NoSlot Taken
  call_delayed disp30 after h pc npc =
      let target : Option WordNo = numbered (target_of text word disp30) in
      let end : end_at text word ≡ ends.Call target = end_is text word (i.Call disp30) h.decodes in
      let transfer : is_transfer (end_at text word) ≡ true = ap is_transfer end in
      into_slot h after transfer Taken (way kinds.Call (number_of target))
      (rw end (call_is_one b.words word target))
      refl refl (quiet h transfer (ap is_jump end)) (ap (λ (e : BlockEnd). runs_slot e kinds.Call) end) pc
      (λ _. jumps_to h after transfer target disp30 after.npc (ap target_in end) refl npc)
      (λ _. jumps_along h after transfer disp30 after.npc npc) (λ jump. absurd (false≢true jump))

  pub jump_delayed : (rd rs1 : ℕ) (op2 : Op2) (after : Point)
      → Stands text b opens node before word (i.Jmpl rd rs1 op2) → after.pc ≡ before.npc → after.slot ≡ Taken
      → (has_cases opens node ≡ true → IsTarget text opens node after.npc)
      → StepsTo text (graph_of b opens) node before after NoSlot Taken
  jump_delayed rd rs1 op2 after h pc slot by_case = elim (cases_Bool (has_cases opens node)) [
    | inl e ↦
        into_case h after (ap is_transfer end) Taken refl e (by_case e)
        (ap (λ (x : BlockEnd). runs_slot x kinds.Case) end) pc slot
    | inr e ↦
        into_slot h after (ap is_transfer end) Taken (way kinds.Out None) (rw end (jump_is_one b.words word)) refl
        (ap (λ (x : Bool). if x then record { kind = kinds.Case; to = Some (lands_of b opens (word_at text after.npc)) } else by_kind kinds.Out) e)
        e (ap (λ (e : BlockEnd). runs_slot e kinds.Out) end) pc (λ jump. absurd (false≢true (sym jump)))
        (λ jump. absurd (false≢true (sym jump))) (λ _. (slot, refl))
  ]
    where
      end : end_at text word ≡ ends.Jump
      end = end_is text word (i.Jmpl rd rs1 op2) h.decodes
