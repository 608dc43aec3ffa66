-- From the cases to the promise as a whole. From where control comes to a point, on to its visit, nothing is run, but
-- before the load of an open switch its address is kept.
use Rattle.image_code.proofs.Common.{IsSameAt, nat_lt, SavesLoadAddress, StateItem, IsKept, IsItem, nat_tests, leads_then, leads_weaker, IsFirstWord, IsPageWord, length, ◌≡◌, ℕ, ◌+◌, ◌^◌, ◌<◌, ◌≤◌, inl, true, false, Some, None, List, [], refl, ap, sym, ◌∙◌, subst, arith, slice_get, slice_index, and_parts, lt-ltb, ltb-true, ne_eqb, word_at, Instr, Op2, op2_in_range, decode_of, code_of, State, sum_of, is_transfer, IsValid, pages_of, run-valid, word_at-some, Node, Block, Point, ends_block, instr_at, left_by, node_after, point_of, next_word, count_add, past, saved_address, word_items, words_mean, save_load_address, words_of, second_register, Matches, outside_trans, kept_memory, CaseTable, IsAtWord, IsNoLoad, IsOnWay, EditSetup, Steps, StepsOn, does_at, gone_at, graph_in, limit_by, is_spill, is_transfer_at, AreCaseTables, Option, ◌∷◌, AllApart, Item, item_at, item_in, ◌++◌, exit_items, IsOffPages}
use Rattle.jump_code.proofs.Keeping.{addresses_are_saved}
use Rattle.image_code.proofs.Points.{ReachesNext, Forms, AtVisitIn, Site, StepsFrom, entered_at, visited_at, Visit}
use Rattle.image_code.proofs.PointShapes.{IsEntered, IsSaving, at_once, saving, visits_it, IsCase, IsImaged, plain, couple, conditional, unconditional, call, jump, landing, choice, foreign, off, IsVisited, head, outside, beyond}
use Rattle.image_code.proofs.Visited.{goes_straight, left_gone, word_is}
use Rattle.image_code.proofs.Routes.{PieceFrom, bare_on, from_shape, stood, items_at, words_on}
use Rattle.image_code.proofs.Cells.{quiet_of, same_at, stores_weaker, cells_above, first_above, own_stored, page_there, images_stored, same_stored}
use Rattle.image_code.proofs.Dead.{same_then}
use Rattle.image_code.proofs.EntersBy.{puts_then}
use Rattle.image_code.proofs.Sparing.{instr_is, spill_first}
use Rattle.image_code.proofs.Marked.{at_first, visits_first}
use Rattle.image_code.proofs.Shapes.{first_of}
use Rattle.image_code.proofs.Cases.{plains_step}
use Rattle.image_code.proofs.Jumps.{calls_step, choices_step, jumps_step}
use Rattle.image_code.proofs.Landings.{jump_slots_step}
use Rattle.image_code.proofs.BranchSteps.{conditional_step, couples_step, unconditional_step}
use Rattle.image_code.proofs.Ended.{foreign_step, offs_step}
use Rattle.layout.specs.declared.items.Item.TheVariants as it
use Rattle.two_runs.specs.Needed.{judged_in}
use Rattle.image_code.specs.Simulates.{Simulates, at_point, word_of}
use Rattle.code_runs.specs.PointsAlike.{instr_of}

-- ---- within a switch's block

abbrev block_in : Node → ℕ
block_in (Block block) = block.0
block_in _ = 0

-- a word before the jump goes on to the next one, and completes no edge
module _ (g : EditSetup) (are : AreCaseTables g) where
  inner : (node : Node) (x : Point) (t : State) → Matches g.text (graph_in g) node x → (k : ℕ) (o : CaseTable)
      → slice_get g.opens k ≡ Some o → (word : ℕ) → IsAtWord g o node x word → o.load ≤ word → word < o.jump
      → (does_at g x t).ending ≡ None → (gone_at g node x (does_at g x t) ≡ [])
      × (is_transfer_at (instr_at g.text x.pc) ≡ false) × (word_at g.text (does_at g x t).pc ≡ Some (word + 1))
  inner node x t matches k o is word at from below live =
      let c = are.each k o is in
      let straight = c.straight word from below in
      let here = word_is g x word at.stands in
      let went = goes_straight g x t (slice_index g.text.words word) here straight live in
      let match = rw at.outside at matches in
      let more = next_word g.text x.pc word are.text (word_at-some g.text x.pc word at.stands) in (
        left_gone g node x (does_at g x t) at.outside went.1 live word at.stands _ refl
            ∙ left_none (decode_of (slice_index g.text.words word)) straight
            (rw (at.itself, c.last) (ne_eqb word o.jump (λ e. absurd (omega arith)))),
        ap is_transfer_at (instr_is g.text x.pc (slice_index g.text.words word) here) ∙ straight,
        rw (went.0, match.1, more, lt-ltb (word + 1) (length g.text.words) (omega (arith, below, c.within))),
      )
    where
      left_none : (instr : Instr) → is_transfer instr ≡ false → ends_block (graph_in g) node word ≡ false
          → left_by (graph_in g) node word instr ≡ []
      left_none instr e f = grind arith

second_below : (op2 : Op2) → op2_in_range op2 ≡ true → second_register op2 < 32
second_below op2 e = grind (arith, nat_tests)

module _ (site : Site) (are : AreCaseTables site.g) where
  open site use {g, l, place, f, placed}

  -- ---- where nothing is run between

  stays_on : (node : Node) (x : Point) (t v : State) (edges : List ℕ) → (e : ReachesNext site edges node x t v)
      → (v.ending ≡ None → entered_at site (node_after (graph_in g) node edges) (point_of v)
      ≡ visited_at site (node_after (graph_in g) node edges) (point_of v))
      → StepsOn g (AtVisitIn site) (Forms site × IsNoLoad g v) 64 edges node x t v
  stays_on node x t v edges e same =
      let s = e.on in
      let few : s.count ≤ limit_by 64 g.snips edges = omega (arith, s.path.few) in
      record {
        count = s.count;
        after = s.after;
        path = assumption (few, s.path);
        puts = s.puts;
        followed = s.followed;
        cells = s.cells;
        here = λ live. let k = s.here live in assumption (k.at ∙ same live, k);
        place = s.place;
        sparing = λ w.
            let q = s.sparing w in
            record { spills = q.spills; first = λ b. q.first b.0; alone = λ b. q.alone b.0; few = λ b. q.few b.0 };
      }

  -- ---- where an address is kept

  keeps_on : (node : Node) (x : Point) (t v : State) (edges : List ℕ) (e : ReachesNext site edges node x t v)
      (live : v.ending ≡ None) (k : ℕ) (o : CaseTable) (is : slice_get g.opens k ≡ Some o)
      (at : IsAtWord g o (node_after (graph_in g) node edges) (point_of v) o.load)
      (c : IsSaving site (node_after (graph_in g) node edges) (point_of v) o)
      → (s : StepsOn g (AtVisitIn site) (Forms site × IsNoLoad g v) 64 edges node x t v)
      × (saved_address s.after ≡ sum_of s.after o.rs1 o.op2)
  keeps_on node x t v edges e live k o is at c =
      let s = e.on in
      let here = s.here live in
      let q = are.each k o is in
      let parts = and_parts (nat_lt o.rs1 32) (op2_in_range o.op2) q.in_range in
      let words = save_load_address o.rs1 o.op2 in
      let whole : PieceFrom l c.piece 0 (word_items words) = from_shape site c.piece _ c.shape in
      let stands = stood site s.after.memory here.memory.code c.piece 0 (words_of words) [] whole in
      let begin : s.after.pc ≡ place c.piece 0 = here.at ∙ c.here ∙ placed.laid.starts c.piece whole.within in
      let end : place c.piece 3 ≡ place c.piece 0 + 12 = stands.end in
      let low : place c.piece 3 ≤ 2 ^ 31 = stands.low in
      let keeps : SavesLoadAddress o.rs1 o.op2 s.after (length words) = addresses_are_saved o.rs1 o.op2 s.after (record {
        valid = here.valid;
        ready = record { live = here.live; npc = omega (arith, here.npc, begin, end, low) };
        low = omega (arith, begin, end, low);
        words = rw begin (words_mean (code_of s.after.memory) (place c.piece 0) words
            (refl, refl, (q.in_range, q.fits, (refl, refl, tt))) stands.words);
        rs1_below = ltb-true o.rs1 32 parts.0;
        op2_below = second_below o.op2 parts.1;
        page = λ n less. page_there site s.after.memory here.memory.ours n (omega (arith, less));
      }) in
      let m = kept_memory s.after o.rs1 o.op2 in
      let after : State = past s.after 3 m s.after in
      let stored = own_stored site s.after.memory m (stores_weaker _ IsPageWord s.after.memory m (λ z e. inl e) keeps.stores) in
      let OnWay : State → Type 0 = λ u. u.ending ≡ None → IsOnWay g t u in
      let bare : (u : State) → s.after.pc ≤ u.pc → u.pc < s.after.pc + 12 → OnWay u =
      λ u from to live. bare_on site t u live (stands.bare u (omega (arith, begin)) (omega (arith, begin))) in
      let way = leads_then OnWay t s.after after s.count 3
      (record { steps = s.path.steps; during = λ j some less _. s.path.quiet j some less })
      (leads_weaker _ OnWay s.after after 3 (λ u z. bare u (omega (arith, z.past)) z.before) keeps.path)
      (λ _ _. bare s.after (omega arith) (omega arith)) in
      let quiet = quiet_of site t after (s.count + 3) OnWay way here.live (λ u live on. on live) in
      let outside = outside_trans (pages_of g.notes) v.memory s.after.memory m s.followed.memory
      (same_stored site s.after.memory m here.memory stored) in
      let items : v.ending ≡ None → (item : StateItem) → IsItem item → IsKept g edges v.window item → IsSameAt item v after =
      λ running item good kept. same_then item v s.after after (s.followed.items running item good kept)
      (same_at item s.after after refl refl refl) in (
        record {
          count = s.count + 3;
          after = after;
          path = search (arith, way.steps, s.path.few, quiet);
          puts = λ descriptor. puts_then t s.after s.count 3 s.path.steps keeps.silent descriptor ∙ s.puts descriptor;
          followed = search (outside, items);
          cells = cells_above site IsFirstWord first_above s.after.memory m here.memory.ours keeps.stores ∙ s.cells;
          here = λ _. record {
            valid = subst IsValid keeps.path.steps (run-valid s.after 3 here.valid);
            live = here.live;
            at = (let q : s.after.pc + 12 ≡ place c.piece 3 = omega (arith, begin, end) in q) ∙ c.behind;
            npc = omega (arith, begin, end, low);
            slot = refl;
            memory = images_stored site s.after after 3 keeps.path.steps stored here.memory;
            target_in_page = λ taken _. let none = at.outside in absurd (cc);
          };
          place = λ over. absurd (over live);
          sparing = λ watched.
              let all = count_add (is_spill g.notes) t s.after s.count s.path.steps 3 in
              record {
                spills =
                    omega (arith, (s.sparing watched).spills, keeps.elsewhere (is_spill g.notes) (spill_first g.notes), all);
                first = λ forms. absurd (forms.1 k o is at.stands);
                alone = λ forms. absurd (forms.1 k o is at.stands);
                few = λ forms. absurd (forms.1 k o is at.stands);
              };
        },
        keeps.kept ∙ (let same : sum_of s.after o.rs1 o.op2 ≡ sum_of after o.rs1 o.op2 = grind arith in same),
      )

  -- ---- whatever the next point is

  module _ (enters : (node : Node) (x : Point) → IsEntered site node x) (node : Node) (x : Point) (t : State)
      (matches : Matches g.text (graph_in g) node x) (e : StepsFrom site node x t) where
    abbrev v : State
    v = does_at g x t

    abbrev gone : List ℕ
    gone = gone_at g node x (does_at g x t)

    by_next : IsEntered site (node_after (graph_in g) node gone) (point_of v) → v.ending ≡ None
        → Steps g (AtVisitIn site) (Forms site) gone node x t v
    unfolding stays_on
    by_next (at_once same none) live = record {
      on = stays_on node x t v gone e (λ _. same);
      keeps = record {
        loaded = λ _ k o is at. absurd (none k o is at);
        carried = λ running k o is word at from below.
            let i = inner g are node x t matches k o is word at from below running in
            e.first running i.0 i.1 (λ none. let some = i.2 in cc);
      };
    }
    by_next (saving k o is at c) live =
        let kept = keeps_on node x t v gone e live k o is at c in
        record {
          on = kept.0;
          keeps = record {
            loaded = λ _ j q iq there.
                rw (← are.apart k j o q is iq (ap block_in (sym at.itself ∙ there.itself))) kept.1;
            -- the next word isn't a load's there, whose address is to be kept
            carried = λ running j q iq word here from below.
                let i = inner g are node x t matches j q iq word here from below running in
                let its = sym here.itself ∙ ap (node_after (graph_in g) node) (sym i.0) ∙ at.itself in
                let same = ap (λ (z : CaseTable). z.load) (are.apart j k q o iq is (ap block_in its)) in
                let load : o.load ≡ word + 1 = let e = sym at.stands ∙ i.2 in cc in
                absurd (omega (arith, from, same));
          };
        }

    pub next_steps : Steps g (AtVisitIn site) (Forms site) gone node x t v
    next_steps =
        (elim v.ending as (λ d. v.ending ≡ d → Steps g (AtVisitIn site) (Forms site) gone node x t v) [
          | None ↦ λ live. by_next (enters _ _) live
          | Some d ↦ λ over. record {
            on = stays_on node x t v gone e (λ live. absurd (cc));
            keeps = record { loaded = λ live k o is at. absurd (cc); carried = λ live k o is w at from below. absurd (cc) };
          }
        ]) refl

-- ---- the promise as a whole

module _ (visit : Visit) where
  open visit use {site, node, x, t, here, site.{g, l, base, p, place, placed}}

  there : IsVisited site node x → visits_it g node x t
  there (head c) =
      let f = first_of base p c.address c.head c.some in
      let item : item_at l.list c.piece 1 ≡ Some f.item =
      ap (λ (v : Option (List Item)). item_in v 1) (items_at site c.piece _ c.shape)
      ∙ ap (λ (items : List Item). slice_get (items ++ it.EndMark ∷ (words_on l c.edges ++ exit_items c.exit)) 0) f.is in
      let room = f.room (place c.piece 1) (place c.piece 2) (placed.laid.items c.piece 1 f.item item) in
      visits_first visit _ _ _ c.mark 1 (omega (arith, c.some)) (omega (arith, at_first visit _ _ _ c.mark, room))
  there (outside k) = (foreign_step visit k).0
  there (beyond k) = (offs_step visit k).0

  abbrev IsApart : Option ℕ → Type 0
  IsApart o = AllApart (pages_of g.notes) (judged_in (at_point x t) (instr_of o))

  by : IsApart (word_of g.text x.pc) → IsCase site node x t → StepsFrom site node x t
  by apart (plain k) = plains_step visit k (subst IsApart k.is_word apart)
  by apart (couple k) = couples_step visit k
  by apart (conditional k) = conditional_step visit k
  by apart (unconditional k) = unconditional_step visit k
  by apart (call k) = calls_step visit k
  by apart (jump k) = jumps_step visit k
  by apart (landing k) = jump_slots_step visit k (subst IsApart k.is_word apart)
  by apart (choice k) = choices_step visit k
  by apart (foreign k) = (foreign_step visit k).1
  by apart (off k) = (offs_step visit k).1

pub simulate : (site : Site) → IsImaged site → Simulates site.g (IsOffPages site.g) (AtVisitIn site) (Forms site)
simulate site c = record {
  visits = λ node x t matches clear here.
      let at = there (record { site = site; node = node; x = x; t = t; here = here }) (c.visits node x matches clear) in
      (here.live, at.0, at.1);
  steps = λ node x t matches clear here apart chooses.
      next_steps site c.opens c.enters node x t matches.0
      (by (record { site = site; node = node; x = x; t = t; here = here }) apart
      (c.cases node x t matches clear here chooses));
}
