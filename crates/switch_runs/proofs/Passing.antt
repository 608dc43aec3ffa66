-- What is known in a slot, and where the walk comes out of one.
use Rattle.switch_runs.proofs.Common.{◌≡◌, ◌≢◌, ℕ, suc, ◌+◌, ◌-◌, ◌<◌, Bool, true, false, ◌&&◌, ◌||◌, nat_lt, List, Some, refl, ap, sym, ◌∙◌, subst, arith, slice_index, inl, inr, if◌then◌else◌, ◌==◌, and_from, cases_Bool, eq-eqb, false≢true, lt-ltb, or_left, or_right, Words, word_at, holds_of, Slot, NoSlot, State, act, run, transfers, EdgeKind, holding_of, is_taken, runs_slot, instr_at as word_instr, word_at-some, Node, home_of, Open, is_behind, jumps_in, lands_of, node_of, slot_left, node_after, point_of, way_of, same_kind, Begins, IsOnItsWay, block, node_at, node_is, home_directed, home_of_node, same_kinds, to_branch, option_map}
use Rattle.v8_decode.specs.declared.Instr.TheVariants as i
use Rattle.cfg_blocks.specs.declared.EdgeKind.TheVariants as kinds
use Rattle.cfg_walk.specs.Walk.{instr_at}
use Rattle.cfg_walk.proofs.Slots.{jump_lands, way_leads}
use Rattle.switch_runs.proofs.Outside.{enters}
use Rattle.switch_runs.proofs.About.{About, about}
use Rattle.switch_runs.proofs.Branching.{branch_tells}
use Rattle.switch_runs.proofs.Known.{Carries, HasCompared, IsRun, Knows, Outside, Passing, any_of, b, ends_block, graph, heads_along, jumps_of, moved, parts, sets_transfer}

module _ {text : Words} {given : List ℕ} {entry : ℕ} {opens : List Open} {s0 : State}
    (r : IsRun text given entry opens s0) where
  -- into a slot: a branch behind the comparison has passed
  pub passes : (n : ℕ) (node : Node) → Outside r n node → (y : Slot) → (run s0 (suc n)).slot ≡ y → y ≢ NoSlot
      → Passing r (suc n) node (way_of (instr_at text ((run s0 (suc n)).pc - 4)) y)
  passes n node out y now sets o among is there way = (
    record {
      moment = before.moment;
      ago = omega (arith, before.ago, at_last, a.below);
      compares = before.compares;
      goes = cc (back, told.0, kind);
    },
    sym (ap (runs_slot is.annul) kind) ∙ told.1,
  )
    where
      c : Carries r n
      c = out.on

      a : About text (b r) entry o is.cond is.annul
      a = about text given entry r.is_text o is

      t : transfers (word_instr text c.word) ≡ true
      t = sets_transfer r n c (λ e. sets (sym now ∙ e))

      at_last : c.word ≡ o.approach.last
      at_last = ends_block r n node out t o.switch.compare.0 there ∙ sym a.last

      before : HasCompared text o s0 n (c.word - o.approach.compare.word)
      before = out.known.0 o among is there c.word c.at (let low = a.below in omega (arith, low, at_last))

      back : before.moment + to_branch o.approach ≡ n
      back = omega (arith, before.ago, at_last, a.below)

      instr : word_instr text c.word ≡ i.Branch is.cond is.annul a.disp
      instr = ap (word_instr text) at_last ∙ a.branch

      acts : run s0 (suc n) ≡ act (run s0 n) (i.Branch is.cond is.annul a.disp)
      acts = c.acts ∙ ap (act (run s0 n)) instr

      -- the word before the slot
      previous : instr_at text ((run s0 (suc n)).pc - 4) ≡ Some (i.Branch is.cond is.annul a.disp)
      previous = ap (instr_at text) pc_back ∙ ap (option_map (word_instr text)) c.at ∙ ap (λ x. Some x) instr
        where
          pc_next : (run s0 (suc n)).pc ≡ (run s0 n).npc
          pc_next =
              ap (λ (u : State). u.pc) c.acts ∙ enters (run s0 n) (word_instr text c.word) out.slot t c.acted
              (λ e. sets (sym now ∙ ap (λ (u : State). u.slot) c.acts ∙ e))

          pc_back : (run s0 (suc n)).pc - 4 ≡ (run s0 n).pc
          pc_back = omega (arith, pc_next, out.matched.1, c.is.is, c.is.within, r.is_text.below)

      told : (holds_of is.cond (run s0 n).codes ≡ is_taken (way_of (Some (i.Branch is.cond is.annul a.disp)) y))
          × (runs_slot is.annul (way_of (Some (i.Branch is.cond is.annul a.disp)) y) ≡ true)
      told = branch_tells (run s0 n) is.cond is.annul a.disp y out.slot sets
          (ap (λ (u : State). u.slot) (sym acts) ∙ now)

      kind : way_of (Some (i.Branch is.cond is.annul a.disp)) y ≡ o.way
      kind = ap (λ x. way_of x y) (sym previous) ∙ way

  -- where control lands at a block itself, it stands before the comparison, and not at a jump
  landing_knows : (n : ℕ) (node : Node) → node ≡ lands_of (b r) opens (word_at text (run s0 n).pc) → Knows r n node
  landing_knows n node is = (
    λ o among f there w here behind.
        absurd (false≢true (sym (lands_plain o.switch.compare.0 w there here) ∙ or_right _ _ (any_of opens o
        (λ (x : Open). (x.switch.compare.0 == o.switch.compare.0) && nat_lt x.approach.compare.word w) among
        (and_from _ _ (eq-eqb o.switch.compare.0 o.switch.compare.0 refl) (lt-ltb _ _ behind))))),
    λ o among f there w here.
        absurd (false≢true (sym (lands_plain o.block w there here) ∙ or_left _ _ (jumps_of r o among))),
  )
    where
      lands_plain : (k w : ℕ) → node ≡ block k → word_at text (run s0 n).pc ≡ Some w
          → (jumps_in opens k || is_behind opens k w) ≡ false
      lands_plain k w there here =
          plain k w (ap (lands_of (b r) opens) (sym here) ∙ sym is ∙ there)
        where
          plain : (k w : ℕ) → lands_of (b r) opens (Some w) ≡ block k
              → (jumps_in opens k || is_behind opens k w) ≡ false
          plain k w e = grind arith

  begun_head : (node : Node) (k v : ℕ) → home_of node ≡ block k → Begins (graph r) node (Some v)
      → slice_index (b r).firsts k ≡ v
  begun_head node k v home h = elim (node_at node k home) [ inl here ↦ rw here at h | inr there ↦ rw there at h ]

  pub leaves_slot : (n : ℕ) (node : Node) (way : EdgeKind) → IsOnItsWay text (graph r) node (point_of (run s0 n)) way
      → Passing r n node way → (run s0 (suc n)).pc ≡ (run s0 n).npc
      → let next = node_after (graph r) node (slot_left text (graph r) node way (run s0 (suc n)).pc) in
      Knows r (suc n) next
  leaves_slot n node way h passing pc = elim (cases_Bool (same_kind way kinds.Out)) [
    | inl e ↦
        let out : way ≡ kinds.Out = same_kinds way kinds.Out e in
        landing_knows (suc n) next
        (ap (λ k. node_after (graph r) node (slot_left text (graph r) node k (run s0 (suc n)).pc)) out
        ∙ ap (λ a. node_after (graph r) node (slot_left text (graph r) node kinds.Out a)) pc
        ∙ jump_lands text (b r) opens (parts r) node (point_of (run s0 n))
        (subst (λ (k : EdgeKind). IsOnItsWay text (graph r) node (point_of (run s0 n)) k) out h)
        ∙ ap (λ a. lands_of (b r) opens (word_at text a)) (sym pc))
    | inr e ↦
        let leads = h.leads e in
        heads_along r (suc n) next node way
        (cc (pc, way_leads text (b r) opens (parts r) node (point_of (run s0 n)) way h e))
        (λ w here.
        let there : word_at text (run s0 n).npc ≡ Some w = ap (word_at text) (sym pc) ∙ here in
        let low : w < (b r).words = omega (arith, (word_at-some text (run s0 n).npc w there).within, (parts r).words) in (
          low,
          begun_head h.edge.to (holding_of (b r) w) w
              (ap home_of leads.1 ∙ home_directed opens node way (node_of (b r) (word_at text (run s0 n).npc))
              ∙ home_of_node (b r) (word_at text (run s0 n).npc) ∙ ap (node_of (b r)) there ∙ node_is (b r) w low)
              (rw there at leads.0),
        )) (λ o among is from kind.
        let p = passing o among is from kind in
        let a = about text given entry r.is_text o is in
        moved p.0 (suc n) (to_branch o.approach + 1 + o.approach.slot)
        (omega (arith, a.slot ∙ ap (λ (x : Bool). if x then 1 else 0) p.1)))
  ]
    where
      next : Node
      next = node_after (graph r) node (slot_left text (graph r) node way (run s0 (suc n)).pc)
