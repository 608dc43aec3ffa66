-- What is known after a step that neither sets a slot nor leaves one.
use Rattle.switch_runs.proofs.Common.{◌≡◌, ℕ, suc, ◌+◌, ◌<◌, Bool, true, false, List, [], length, Some, refl, ap, sym, ◌∙◌, subst, arith, slice_index, inl, inr, if◌then◌else◌, ◌==◌, ℤ, cases_Bool, cases_lt, eqb-true, false≢true, Words, address_of, word_at, NoSlot, State, run, transfers, EdgeKind, holding_of, last_word, bounds, instr_at as word_instr, Node, Open, directed, node_of, edge_from, left_at, node_after, point_of, same_kind, block, Leads, ends_at_next, ends_at_words, first_held, in_held, some_words, within, next_word, end_is, ends_home, falls_to, straight_end, straight_left, Stands, within_some, goes_act, IsOpenSwitch, to_branch, steps_to}
use Rattle.v8_decode.specs.declared.Instr.TheVariants as i
use Rattle.cfg_blocks.specs.declared.EdgeKind.TheVariants as kinds
use Rattle.cfg_walk.proofs.Slots.{LeadsIfThere}
use Rattle.cfg_walk.proofs.Transfers.{always_goes, untaken_goes}
use Rattle.switch_runs.proofs.Blocks.{is_conditional, not_bounded}
use Rattle.switch_runs.proofs.About.{about}
use Rattle.switch_runs.proofs.Branching.{Annulled, annul_of, annulled_is, cond_of}
use Rattle.switch_runs.proofs.Known.{AtHead, Carries, IsRun, Knows, Outside, b, ends_block, graph, heads_along, holds_word, list, moved, opened, parts}

-- a way of an open switch is that of a conditional branch
bounded_fall : (cond : ℕ) (way : EdgeKind) → same_kind kinds.Fall way ≡ true → bounds cond way ≡ true → ⊥
bounded_fall cond kinds.Fall e h = not_bounded cond h
bounded_fall cond _ e h = absurd (false≢true e)

module _ {text : Words} {given : List ℕ} {entry : ℕ} {opens : List Open} {s0 : State}
    (r : IsRun text given entry opens s0) where
  abbrev pub Left : ℕ → Node → Node
  Left n node = node_after (graph r) node (left_at text (graph r) node (word_at text (run s0 n).pc))

  next_leads : (k w : ℕ) → w < (b r).words → w ≡ last_word (b r).firsts (b r).words k → k < length (b r).firsts → w + 1 < (b r).words
      → Leads (b r).firsts (w + 1)
  next_leads k w low last within more = elim (cases_lt (suc k) (length (b r).firsts)) [
    | inl l ↦ record {
      block = suc k;
      within = l;
      is = let some = some_words (b r).words (b r).firsts (parts r).firsts k within in
          omega (arith, last, some, ends_at_next (b r).words (b r).firsts (parts r).firsts k l);
    }
    | inr m ↦
        let end = ends_at_words (b r).words (b r).firsts (parts r).firsts k m in
        absurd (omega (arith, last, some_words (b r).words (b r).firsts (parts r).firsts k within, end, more))
  ]

  module _ (n : ℕ) (node : Node) (out : Outside r n node) where
    abbrev c : Carries r n
    c = out.on

    abbrev k : ℕ
    k = holding_of (b r) c.word

    abbrev knows : Type 0
    knows = Knows r (suc n) (Left n node)

    -- ---- a word that is no transfer

    module _ (straight : transfers (word_instr text c.word) ≡ false) where
      left_is : Left n node
          ≡ node_after (graph r) node (if c.word == last_word (b r).firsts (b r).words k then edge_from (graph r) node kinds.Fall else [])
      left_is =
          ap (λ o. node_after (graph r) node (left_at text (graph r) node o)) c.at
          ∙ ap (node_after (graph r) node) (straight_left (graph r) node c.word (word_instr text c.word) straight)
          ∙ ap (λ (x : Bool). node_after (graph r) node (if x then edge_from (graph r) node kinds.Fall else []))
          (ends_home (b r) opens node k c.word out.home)

      -- before the last of a block the walk stays
      pub stays : (c.word == last_word (b r).firsts (b r).words k) ≡ false → Left n node ≡ node
      stays e = cc (left_is, e)

      next : word_at text (run s0 (suc n)).pc ≡ within (b r).words (c.word + 1)
      next =
          ap (word_at text)
          (ap (λ (u : State). u.pc) c.acts ∙ (goes_act (run s0 n) (word_instr text c.word) straight c.acted).0
          ∙ out.matched.1)
          ∙ next_word text (run s0 n).pc c.word r.is_text c.is
          ∙ ap (λ count. within count (c.word + 1)) (sym (parts r).words)

      follows : (w : ℕ) → word_at text (run s0 (suc n)).pc ≡ Some w → (c.word + 1 < (b r).words) × (c.word + 1 ≡ w)
      follows w at = within_some (b r).words (c.word + 1) w (sym next ∙ at)

      known_next : Knows r (suc n) node
      known_next = (
        λ o among is there w at behind. elim (cases_lt o.approach.compare.word c.word) [
          | inl less ↦
              let p = out.known.0 o among is there c.word c.at less in
              record { moment = p.moment; ago = omega (arith, p.ago, (follows w at).1); compares = p.compares }
          | inr more ↦
              let f = (follows w at).1 in
              let same : c.word ≡ o.approach.compare.word = omega arith in
              record { moment = n; ago = omega (arith, f, same); compares = c.is.is ∙ ap (address_of text) same }
        ],
        λ o among is there w at.
            let held : k ≡ o.block = holds_word r n node out o.block there in
            let first = (about text given entry r.is_text o is).first ∙ ap (slice_index (b r).firsts) (sym held) in
            let above = (in_held (b r).words (b r).firsts (parts r).firsts c.word c.low).above in
            moved (out.known.1 o among is there c.word c.at) (suc n) (steps_to o w)
            (omega (arith, first, (follows w at).1)),
      )

      straight_knows : knows
      straight_knows = elim (cases_Bool (c.word == last_word (b r).firsts (b r).words k)) [
        | inr e ↦ rw (stays e) known_next
        | inl e ↦
            let last : c.word ≡ last_word (b r).firsts (b r).words k = eqb-true _ _ e in
            heads_along r (suc n) (Left n node) node kinds.Fall
            (left_is
            ∙ ap (λ (x : Bool). node_after (graph r) node (if x then edge_from (graph r) node kinds.Fall else [])) e
            ∙ falls_to text (b r) opens (parts r) c.word c.low (opened r) node out.inside out.home
            (end_is text c.word (word_instr text c.word) refl
            ∙ straight_end text c.word (word_instr text c.word) straight) last
            ∙ ap (λ o. directed opens node kinds.Fall (node_of (b r) o)) (sym next)) (λ w at.
            let at = follows w at in (
              rw at.1 at at.0,
              first_held (b r).words (b r).firsts (parts r).firsts w (rw at.1 at (next_leads k c.word c.low last
                  (in_held (b r).words (b r).firsts (parts r).firsts c.word c.low).within at.0)),
            )) (λ o among is from kind.
            absurd (bounded_fall is.cond o.way (ap (same_kind kinds.Fall) (sym kind))
            (about text given entry r.is_text o is).bounded))
      ]

    -- ---- an annulled branch

    module _ (cond : ℕ) (disp : ℤ) (instr : word_instr text c.word ≡ i.Branch cond true disp) where
      stands : Stands text (b r) opens node (point_of (run s0 n)) c.word (i.Branch cond true disp)
      stands = record {
        text_is = r.is_text;
        cut = parts r;
        is = c.is;
        npc = out.matched.1;
        decodes = instr;
        are = opened r;
        there = out.inside;
        held = out.matched.0;
      }

      at_last : (o : Open) → IsOpenSwitch text (list r) entry o → node ≡ block o.switch.compare.0 → c.word ≡ o.approach.last
      at_last o is from =
          ends_block r n node out (ap transfers instr) o.switch.compare.0 from
          ∙ sym (about text given entry r.is_text o is).last

      conds : (o : Open) (is : IsOpenSwitch text (list r) entry o) → node ≡ block o.switch.compare.0
          → i.Branch is.cond is.annul (about text given entry r.is_text o is).disp ≡ i.Branch cond true disp
      conds o is from = cc ((about text given entry r.is_text o is).branch, at_last o is from, instr)

      first : LeadsIfThere (b r) (word_at text (run s0 (suc n)).pc) → AtHead r (suc n)
      first leads w at = let l = leads w at in (l.0, first_held (b r).words (b r).firsts (parts r).firsts w l.1)

      annulled_knows : Annulled (run s0 n) (run s0 (suc n)) cond disp → knows
      annulled_knows went = elim went [
        | inl (holds, always, pc) ↦
            let to = always_goes cond true disp (run s0 n).codes stands (point_of (run s0 (suc n))) holds always pc in
            heads_along r (suc n) (Left n node) node kinds.Taken to.0 (first to.1) (λ o among is from kind.
            let not_always = (is_conditional is.cond o.way (about text given entry r.is_text o is).bounded).0 in
            absurd (false≢true (cc (not_always, cond_of (conds o is from), always))))
        | inr (holds, pc) ↦
            let to = untaken_goes cond true disp (run s0 n).codes stands (point_of (run s0 (suc n))) holds pc in
            heads_along r (suc n) (Left n node) node kinds.Untaken to.0 (first to.1) (λ o among is from kind.
            let a = about text given entry r.is_text o is in
            let last = at_last o is from in
            let p = out.known.0 o among is from c.word c.at (omega (arith, a.below, last)) in
            let none : o.approach.slot ≡ 0 = cc (a.slot, annul_of (conds o is from), kind) in
            let back : p.moment + to_branch o.approach ≡ n = let e = p.ago in omega arith in
            record {
              moment = p.moment;
              ago = let e = p.ago in omega arith;
              compares = p.compares;
              goes = cc (back, cond_of (conds o is from), holds, kind);
            })
      ]

    pub quiet_knows : (run s0 (suc n)).slot ≡ NoSlot → knows
    quiet_knows now = elim (cases_Bool (transfers (word_instr text c.word))) [
      | inr e ↦ straight_knows e
      | inl e ↦
          let q = annulled_is (run s0 n) (word_instr text c.word) out.slot e c.acted
          (ap (λ (u : State). u.slot) (sym c.acts) ∙ now) in
          annulled_knows q.0 q.1 q.2 (subst (λ (u : State). Annulled (run s0 n) u q.0 q.1) (sym c.acts) q.3)
    ]
