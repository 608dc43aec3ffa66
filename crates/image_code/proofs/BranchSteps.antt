-- The image of a branch is one step, whatever its annul bit; so are a nop and then the way, and the image of a transfer in
-- the slot of another one.
use Rattle.image_code.proofs.Common.{count_stores, ◌≡◌, ◌≢◌, ℕ, ◌+◌, ◌*◌, ◌^◌, ◌≤◌, inl, inr, Bool, true, false, Option, Some, None, List, [], ◌∷◌, ap, sym, ◌∙◌, refl, arith, if◌then◌else◌, slice_index, pos, holds_of, always_holds, wrapped, Instr, decode_of, code_of, fetch_from, Says, Slot, NoSlot, Taken, State, act, puts_by, on_word, step_of, step_is, target_of, unless_couple, ended, Couple, is_transfer, live_puts, quiet_transfer, no_stores, none_then, hopped, leads_one, leads_then, leads_weaker, silent_then, stores_none, IsSilent, IsFirstWord, IsPageWord, Item, item_at, item_in, nop, Goes, branches_hop, taken_acts, at_point, does_at, gone_at, couple_word, nop_word, in_first_word, is_spill}
use Rattle.v8_decode.specs.declared.Instr.TheVariants as i
use Rattle.layout.specs.declared.items.Item.TheVariants as it
use Rattle.image_code.proofs.Points.{ReachesNext, Forms, StepsFrom, Visit}
use Rattle.image_code.proofs.PointShapes.{LeadsTo, next_entry, word_ahead, IsConditionalBranch, IsCouple, IsUnconditionalBranch}
use Rattle.image_code.proofs.Cells.{fetch_is, IsFit, stores_weaker, cells_above, first_above, fits}
use Rattle.image_code.proofs.Marked.{AtWords, at_first, at_words, closes, lies, on_mark}
use Rattle.image_code.proofs.Routes.{FollowsRoute, arrive, items_at, jump_then, weaker_route}
use Rattle.image_code.proofs.Branches.{couple_says, nop_says}
use Rattle.image_code.proofs.Dead.{gone_last}
use Rattle.image_code.proofs.EntersBy.{OnWay, ends_by, followed_same, moves_by, moves_past}
use Rattle.image_code.proofs.Sparing.{spill_first}

-- ---- a conditional branch

module _ (visit : Visit) (c : IsConditionalBranch visit.site visit.node visit.x visit.t) where
  open visit use {site, node, x, t, here, site.{g, l, base, p, place, placed}}

  item : item_at l.list c.piece 1 ≡ Some (it.Branch c.cond c.taken)
  item = ap (λ (v : Option (List Item)). item_in v 1) (items_at site c.piece _ c.shape)

  abbrev branch_at : t.pc ≡ place c.piece 1
  branch_at = at_first visit _ _ _ c.mark

  -- a short branch takes two words
  b_short : Forms site → place c.piece 2 ≤ t.pc + 4 * 2
  b_short short = omega (arith, short c.piece 1 (it.Branch c.cond c.taken) item, branch_at)

  abbrev edges : List ℕ
  edges = gone_at g node x (does_at g x t)

  -- wherever they lead
  turned : (mid : ℕ) (j : Goes t mid (place c.piece 2) 1 6 2) → mid ≤ 2 ^ 31 → (IsFit site (hopped t mid j.memory)
      → FollowsRoute site (word_ahead g x t) edges (hopped t mid j.memory) (next_entry site node x t) 8)
      → ReachesNext site edges node x t (does_at g x t)
  turned mid j low onward =
      let small : wrapped (mid + 4) ≡ mid + 4 = omega arith in
      moves_by visit edges (does_at g x t) (hopped t mid j.memory) j.count (gone_last site node x (does_at g x t)) (record {
        moves = record {
          transfer = (c.word, c.is_word, c.goes.transfer);
          path = leads_weaker _ (OnWay visit) t _ j.count (λ u q.
              on_mark visit _ _ _ c.mark u q.past (omega (arith, q.before, j.inside))
              (cells_above site IsFirstWord first_above t.memory u.memory here.memory.ours q.stores)) j.hops.path;
          some = omega (arith, j.some);
          few = omega (arith, j.few);
          silent = j.hops.silent;
          stores = stores_weaker IsFirstWord IsPageWord t.memory j.memory (λ z e. inl e) j.hops.stores;
          spares = λ _. record {
            spills = j.stored (is_spill g.notes) (inl (spill_first g.notes));
            first = λ forms. j.stored in_first_word (inr (b_short forms));
            brief = λ forms. omega (arith, b_short forms, j.inside);
          };
        };
        same = ap (λ (z : State). hopped z 0 j.memory) c.goes.moves;
        memory = ap (λ (z : State). z.memory) c.goes.moves;
        live = here.live;
        npc = small;
        slot = refl;
        target_in_page = λ a b _. absurd (c.goes.never a b);
      }) onward

  -- whichever way that is
  steps : (taken : Bool)
      → Goes t (if taken then slice_index p.at c.taken.0 else place c.piece 2) (place c.piece 2) 1 6 2
      → LeadsTo site (if taken then c.taken else c.untaken) edges (word_ahead g x t) (next_entry site node x t)
      → ReachesNext site edges node x t (does_at g x t)
  steps true j leads =
      turned (slice_index p.at c.taken.0) j (placed.laid.aligned c.taken.0).1 (λ fit.
      weaker_route site edges _ (next_entry site node x t) 4 8 (omega arith)
      (arrive site c.taken edges _ (word_ahead g x t) (next_entry site node x t) fit refl leads))
  steps false j leads =
      turned (place c.piece 2) j (omega (arith, (lies visit _ _ _ c.mark 2 (omega arith)).ends, placed.laid.low)) (λ fit.
      jump_then site c.piece _ _ c.untaken c.shape edges _ (word_ahead g x t) (next_entry site node x t) fit
      (sym (closes visit _ _ _ c.mark)) leads)

  pub conditional_step : StepsFrom site node x t
  conditional_step =
      steps (holds_of c.cond t.codes)
      (branches_hop l.list base p place placed.laid c.piece 1 c.cond c.taken item c.small t
      (grind (arith, lies, fits)) branch_at) c.leads

-- ---- one that goes one way

nop_runs : (s : State) → (act s nop ≡ record s { pc = s.npc; npc = wrapped (s.npc + 4); slot = NoSlot })
    × ((descriptor : ℕ) → puts_by s nop descriptor ≡ [])
unfolding act puts_by
nop_runs s = (refl, λ _. refl)

module _ (visit : Visit) (c : IsUnconditionalBranch visit.site visit.node visit.x visit.t) where
  open visit use {site, node, x, t, here, site.{g}}

  pub unconditional_step : StepsFrom site node x t
  unconditional_step =
      let there : AtWords site node x t c.piece 1 (nop_word ∷ []) = at_words visit _ _ _ c.mark (nop_word ∷ []) refl in
      let mid : State = record t { pc = t.npc; npc = wrapped (t.npc + 4); slot = NoSlot } in
      let edges = gone_at g node x (does_at g x t) in
      let says : Says (code_of t.memory) t.pc nop =
      record { word = nop_word; fetched = there.words.0; decodes = nop_says } in
      let npc = there.next (omega arith) in
      let on : wrapped (t.npc + 4) ≡ t.npc + 4 = omega (arith, there.low) in
      moves_by visit edges (does_at g x t) mid 1 (gone_last site node x (does_at g x t)) (record {
        moves = record {
          transfer = (c.word, c.is_word, c.goes.transfer);
          path = leads_one (OnWay visit) t mid
              (step_is t nop_word here.live there.words.0 ∙ ap (act t) nop_says ∙ (nop_runs t).0);
          some = omega arith;
          few = omega arith;
          silent = λ descriptor. live_puts t nop_word descriptor here.live (fetch_is t.memory t.pc ∙ there.words.0)
              ∙ ap (λ (q : Instr). puts_by t q descriptor) nop_says ∙ (nop_runs t).1 descriptor;
          stores = stores_none IsPageWord t.memory;
          spares = λ _. record {
            spills = no_stores _ t nop here.live says refl;
            first = λ _. no_stores _ t nop here.live says refl;
            brief = λ _. omega arith;
          };
        };
        same = ap (λ (z : State). hopped z 0 t.memory) c.goes.moves;
        memory = ap (λ (z : State). z.memory) c.goes.moves;
        live = here.live;
        npc = on;
        slot = refl;
        target_in_page = λ a b _. absurd (c.goes.never a b);
      })
      (λ fit. jump_then site c.piece _ _ c.way c.shape edges mid (word_ahead g x t) (next_entry site node x t) fit
      (omega (arith, there.behind)) c.leads)

-- ---- a transfer in the slot of another one

in_slot : (z : Slot) (s after : State) → z ≢ NoSlot → unless_couple z s after ≡ ended s Couple
in_slot z s after k = grind arith

couple_acts : (s : State) (x : Instr) → is_transfer x ≡ true → s.slot ≢ NoSlot → act s x ≡ ended s Couple
unfolding act
couple_acts s (i.Branch cond annul disp) e ne = in_slot s.slot s _ ne
couple_acts s (i.Call disp) e ne = in_slot s.slot s _ ne
couple_acts s (i.Jmpl rd rs1 op2) e ne = in_slot s.slot s _ ne
couple_acts s _ e ne = absurd (cc)

-- its word, `ba`, puts out nothing and stores nothing
couple_quiet : (s : State) → s.ending ≡ None → fetch_from (code_of s.memory) s.pc ≡ Some couple_word
    → IsSilent s 1 × ((counted : ℕ → Bool) → count_stores counted s 1 ≡ 0)
couple_quiet s live found = (
  λ descriptor. live_puts s couple_word descriptor live (fetch_is s.memory s.pc ∙ found)
      ∙ quiet_transfer s (decode_of couple_word) descriptor (ap is_transfer couple_says),
  λ counted. no_stores counted s (i.Branch 8 false (pos 2)) live
      (record { word = couple_word; fetched = found; decodes = couple_says }) refl,
)

module _ (visit : Visit) (c : IsCouple visit.site visit.node visit.x) where
  open visit use {site, node, x, t, here, site.{g}}

  there : AtWords site node x t c.piece 2 (couple_word ∷ couple_word ∷ [])
  there = at_words visit _ _ _ c.mark (couple_word ∷ couple_word ∷ []) refl

  -- in the slot of the first word
  abbrev mid : State
  mid = record t { pc = t.npc; npc = target_of t (pos 2); slot = Taken }

  fetched : fetch_from (code_of t.memory) t.npc ≡ Some couple_word
  fetched = rw (there.next (omega arith)) there.words.1.0

  one : step_of t ≡ mid
  one = step_is t couple_word here.live there.words.0 ∙ ap (act t) couple_says
      ∙ taken_acts t 8 (pos 2) true here.slot (always_holds 8 t.codes refl) refl

  two : step_of mid ≡ ended mid Couple
  two = step_is mid couple_word here.live fetched ∙ ap (act mid) couple_says
      ∙ couple_acts mid (i.Branch 8 false (pos 2)) refl (λ e. cc)

  pub couples_step : StepsFrom site node x t
  couples_step =
      let v : State = ended (at_point x t) Couple in
      let after : State = ended mid Couple in
      let is : does_at g x t ≡ v =
      ap (on_word (at_point x t)) c.is_word ∙ couple_acts (at_point x t) (decode_of c.word) c.transfer c.slot in
      let npc = there.next (omega arith) in
      let first = couple_quiet t here.live there.words.0 in
      let second = couple_quiet mid here.live fetched in
      rw is (ends_by visit v after 1 (record {
        past = moves_past visit [] v after 2 (record {
          transfer = (c.word, c.is_word, c.transfer);
          path = leads_then (OnWay visit) t mid after 1 1 (leads_one _ t mid one) (leads_one _ mid after two) (λ _ _.
              there.on mid (record { past = omega arith; before = omega arith; stores = stores_none IsPageWord t.memory }));
          some = omega arith;
          few = omega arith;
          silent = silent_then t mid 1 1 one first.0 second.0;
          stores = stores_none IsPageWord t.memory;
          spares = λ _. record {
            spills = none_then _ t mid 1 1 one (first.1 _) (second.1 _);
            first = λ _. none_then _ t mid 1 1 one (first.1 _) (second.1 _);
            brief = λ _. omega arith;
          };
        });
        before = ap (λ (z : State). z.ending) one ∙ here.live;
        ending = Couple;
        over = refl;
        followed = followed_same visit v after refl refl;
        there = there.there after (omega arith) (omega arith);
      }))
