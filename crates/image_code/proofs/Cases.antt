-- A word in its Mark at the head of a piece, and the images of plain words: they are one step each.
use Rattle.image_code.proofs.Common.{◌≡◌, ◌≢◌, ℕ, ◌+◌, Bool, Option, Some, None, List, [], ◌∷◌, refl, ap, sym, subst, ◌∙◌, arith, range_at, Instr, decode_of, code_of, AllApart, Ending, State, act, step_of, on_word, puts_on_word, run_puts, judged_by, in_pages, pages_of, live_puts, goes_act, Point, point_of, node_after, count_stores, moved, hopped, step_is, no_stores, leads_one, page_word, Notes, outside_refl, Exit, Says, count_one, ends_stores, IsWatched, in_first_word, is_spill}
use Rattle.two_runs.proofs.Stays.{stays_act}
use Rattle.two_runs.proofs.Twins.{judged_alike}
use Rattle.code_runs.proofs.Points.{acts_anywhere}
use Rattle.image_code.specs.Simulates.{at_point, does_at, gone_at, graph_in, word_of, edit_in}
use Rattle.image_code.proofs.Points.{ReachesNext, StepsFrom, entered_at, Visit}
use Rattle.image_code.proofs.PointShapes.{next_entry, IsMarkedWord, IsPlain, word_ahead}
use Rattle.image_code.proofs.Sparing.{uncounted}
use Rattle.image_code.proofs.Cells.{fetch_is, images_stay, same_stored, IsFit, cells_stay, own_stays}
use Rattle.image_code.proofs.Routes.{Tail, tail}
use Rattle.image_code.proofs.Dead.{gone_last}
use Rattle.image_code.proofs.Marked.{AtWords, at_words}
use Rattle.image_code.proofs.EntersBy.{Past, ends_by, enters_by, followed_same}

-- an instruction judges the same bytes wherever it stands
pub judged_moved : (notes : Notes) (x : Point) (t : State) (instr : Instr)
    → AllApart (pages_of notes) (judged_by (at_point x t) instr) → AllApart (pages_of notes) (judged_by t instr)
judged_moved notes x t instr apart =
    judged_alike (pages_of notes) (at_point x t) t (assumption (outside_refl (pages_of notes) t.memory)) instr apart

-- ---- words that are no transfers

module _ (visit : Visit) (edges : List ℕ) (exit : Exit) (c : IsMarkedWord visit.site visit.node visit.x edges exit) where
  open visit use {site, node, x, t, here, site.{g, place, placed}}

  there : AtWords site node x t c.piece 1 (c.word ∷ [])
  there = at_words visit _ _ _ c.mark (c.word ∷ []) refl

  -- the state after the word, of the machine and of the original
  abbrev a : State
  a = act t (decode_of c.word)

  abbrev v : State
  v = act (at_point x t) (decode_of c.word)

  one : step_of t ≡ a
  one = step_is t c.word here.live there.words.0

  same : moved x.pc x.npc x.slot a ≡ moved x.pc x.npc x.slot v
  same = (acts_anywhere x.pc x.npc x.slot t (decode_of c.word) c.straight).0

  puts_one : (descriptor : ℕ) → run_puts t 1 descriptor ≡ puts_on_word (at_point x t) (word_of g.text x.pc) descriptor
  puts_one descriptor = live_puts t c.word descriptor here.live (fetch_is t.memory t.pc ∙ there.words.0)
      ∙ (acts_anywhere x.pc x.npc x.slot t (decode_of c.word) c.straight).1 descriptor
      ∙ sym (ap (λ (o : Option ℕ). puts_on_word (at_point x t) o descriptor) c.is_word)

  -- the word is one step
  past : (edges : List ℕ) → AllApart (pages_of g.notes) (judged_by t (decode_of c.word))
      → (count_stores (is_spill g.notes) t 1 ≡ 0) × (count_stores in_first_word t 1 ≡ 0) → Past visit edges v a 1
  past edges apart stores = record {
    path = leads_one _ t a one;
    some = omega arith;
    few = omega arith;
    puts = puts_one;
    cells = cells_stay site t (decode_of c.word) apart here.memory.ours;
    spares = λ _. record { spills = stores.0; first = λ _. stores.1; brief = λ _. omega arith };
    alone = λ _. refl;
  }

  -- The word ends the run as the original's does, or control goes on from item 3 of its piece.
  steps : (next : Option ℕ) → AllApart (pages_of g.notes) (judged_by t (decode_of c.word)) → (e : Option Ending)
      → v.ending ≡ e → (v.ending ≡ None → IsFit site a → a.pc ≡ place c.piece 3 → Tail site next (gone_at g node x v) a
      (entered_at site (node_after (graph_in g) node (gone_at g node x v)) (point_of v)) 8)
      → (v.ending ≡ None → IsWatched (edit_in g) (gone_at g node x v) x v → next ≢ None)
      → ReachesNext site (gone_at g node x v) node x t v
  steps next apart (Some d) over onward watched =
      let stopped : a.ending ≡ Some d = ap (λ (z : State). z.ending) same ∙ over in
      let stays = stays_act t here.live (decode_of c.word) (λ none. absurd (cc (stopped, none))) in
      let none : (counted : ℕ → Bool) → count_stores counted t 1 ≡ 0 =
      λ counted. count_one counted t ∙ ends_stores counted t d (ap (λ (z : State). z.ending) one ∙ stopped) in
      ends_by visit v a 0 (record {
        past = past [] apart (none _, none _);
        before = here.live;
        ending = d;
        over = over;
        followed = followed_same visit v a
            (sym (ap (λ (z : State). hopped z 0 a.memory) same)) (sym (ap (λ (z : State). z.memory) same));
        there = record { range = ap (range_at g.notes) stays; page = ap (in_pages g.notes) stays };
      })
  steps next apart None live onward watched =
      let alive : a.ending ≡ None = ap (λ (z : State). z.ending) same ∙ live in
      let went = goes_act t (decode_of c.word) c.straight alive in
      let npc = there.next (omega arith) in
      let onpc : a.npc ≡ a.pc + 4 = omega (arith, there.low) in
      let has = images_stay site t (decode_of c.word) one apart here.memory in
      let stored = placed.frame.stored in
      let out = uncounted g.notes (stored.within (page_word 0) stored.first) t (decode_of c.word) apart alive in
      let says : Says (code_of t.memory) t.pc (decode_of c.word) =
      record { word = c.word; fetched = there.words.0; decodes = refl } in
      enters_by visit next (gone_at g node x v) v a 1 (gone_last site node x v) (record {
        past = past (gone_at g node x v) apart (no_stores _ t _ here.live says out.0, no_stores _ t _ here.live says out.1);
        same = sym (ap (λ (z : State). hopped z 0 a.memory) same);
        outside = λ n stores. rw (ap (λ (z : State). z.memory) same) at (same_stored site a.memory n has stores);
        has = has;
        live = alive;
        npc = onpc;
        slot = went.2;
        target_in_page = λ taken.
            let none = (goes_act (at_point x t) (decode_of c.word) c.straight live).2 in absurd (cc);
        watched = watched live;
        kept = λ _. own_stays site t (decode_of c.word) apart here.memory.ours (page_word 0) stored.first;
      }) (λ fit. let tail = onward live fit (omega (arith, there.behind)) in (tail.0, λ _. tail.1))

  pub marked_step : (next : Option ℕ) → AllApart (pages_of g.notes) (judged_by (at_point x t) (decode_of c.word))
      → ((does_at g x t).ending ≡ None → IsFit site a → a.pc ≡ place c.piece 3
      → Tail site next (gone_at g node x (does_at g x t)) a (next_entry site node x t) 8)
      → ((does_at g x t).ending ≡ None → IsWatched (edit_in g) (gone_at g node x (does_at g x t)) x (does_at g x t) → next ≢ None)
      → StepsFrom site node x t
  marked_step next apart onward watched =
      let is : does_at g x t ≡ v = ap (on_word (at_point x t)) c.is_word in
      rw is (steps next (judged_moved g.notes x t (decode_of c.word) apart) _ refl (rw is at onward) (rw is at watched))

module _ (visit : Visit) (c : IsPlain visit.site visit.node visit.x visit.t) where
  open visit use {site, node, x, t, site.{g}}

  pub plains_step : AllApart (pages_of g.notes) (judged_by (at_point x t) (decode_of c.word)) → StepsFrom site node x t
  plains_step apart =
      marked_step visit c.edges c.exit c.mark (word_ahead g x t) apart
      (λ live fit pc.
      let leads = c.leads live in
      subst (λ gone. Tail site (word_ahead g x t) gone (act t (decode_of c.word)) (next_entry site node x t) 8) (sym leads.0)
      (tail site c.piece _ c.shape _ (word_ahead g x t) (next_entry site node x t) fit pc leads.1.0 leads.1.1))
      (λ live w. w.inside)
