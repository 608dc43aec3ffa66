-- The way along the edge of a JMPL: behind its slot's word the snippet, and the jump to a landing or the foreign piece.
use Rattle.image_code.proofs.Common.{◌≡◌, ◌≢◌, ℕ, ◌+◌, ◌%◌, ◌<◌, inl, inr, Some, None, List, [], ◌∷◌, ◌++◌, length, refl, ap, sym, ◌∙◌, subst, arith, slice_get, slice_index, flat_map, word_at, decode_of, AllApart, State, register_of, act, judged_by, pages_of, hopped, page_word, jump_translated, word_items, Item, foreign, false≢true, bare, found_there, waiting, resume_hops, at_point, graph_in, NoneIsOut, memory_word}
use Rattle.image_code.specs.declared.shape.Exit.TheVariants as exits
use Rattle.jump_code.proofs.Leaving.{foreign_leaves}
use Rattle.image_code.proofs.Points.{Site, StepsFrom, Visit}
use Rattle.image_code.proofs.PointShapes.{next_entry, IsJumpsSlot, Lands}
use Rattle.image_code.proofs.Routes.{words_hop, FollowsRoute, PieceFrom, arrive, arrived, bare_here, eased, from_shape, length_words, on_then, rest_behind, snippets_run, unwatched, stood, weaker_route, words_on}
use Rattle.image_code.proofs.Cases.{judged_moved, marked_step}
use Rattle.image_code.proofs.Cells.{IsFit, own_stays, page_there}
use Rattle.image_code.proofs.Visited.{goes_straight}

-- the jump to what was found
abbrev going_on : List Item
going_on = word_items (jump_translated 1)

module _ (site : Site) where
  open site use {g, l, shapes, p, place, f, placed}

  goes_found : (k n : ℕ) → PieceFrom l k n going_on → (a : State) → IsFit site a → a.pc ≡ place k n → (to : ℕ)
      → found_there a ≡ to → to % 4 ≡ 0 → FollowsRoute site None [] a to 3
  goes_found k n rest a fit at to found aligned =
      let right : found_there a % 4 ≡ 0 = ap (λ z. z % 4) found ∙ aligned in
      subst (λ z. FollowsRoute site None [] a z 3) found
      (words_hop site k n (found_there a) (jump_translated 1) (refl, refl, (refl, refl, (refl, refl, tt))) rest a fit at
      (omega arith) (λ z e. e) 7 (register_of a 1) (inl (omega arith)) (λ stand low.
      resume_hops 1 a (search (arith, page_there site a.memory fit.has.ours))))

  -- the foreign piece
  pub leaves : (k : ℕ) → slice_get shapes k ≡ Some (bare [] exits.Foreign) → (a : State) → IsFit site a
      → a.pc ≡ place k 0 → (target : ℕ) → waiting a ≡ target → target % 4 ≡ 0 → FollowsRoute site None [] a target 4
  leaves k is a fit at target target_in_page aligned =
      let right : waiting a % 4 ≡ 0 = ap (λ z. z % 4) target_in_page ∙ aligned in
      subst (λ z. FollowsRoute site None [] a z 4) target_in_page
      (words_hop site k 0 (waiting a) foreign (refl, refl, (refl, refl, (refl, refl, (refl, refl, tt))))
      (from_shape site k (bare [] exits.Foreign) is) a fit at (omega arith) (λ z e. e) 2 (register_of a 1)
      (inl (omega arith)) (λ stand low. foreign_leaves a (search (arith, page_there site a.memory fit.has.ours))))

-- the whole way
module _ (visit : Visit) (c : IsJumpsSlot visit.site visit.node visit.x visit.t)
    (apart : AllApart (pages_of visit.site.g.notes) (judged_by (at_point visit.x visit.t) (decode_of c.word))) where
  open visit use {site, node, x, t, here, site.{g, l, p, place, f, placed}}

  -- the machine after the slot's word
  abbrev a : State
  a = act t (decode_of c.word)

  -- while that is run the target waits, and so does what was found
  waits : (n : ℕ) → n < 8 → memory_word a.memory (page_word n) ≡ memory_word t.memory (page_word n)
  waits n few =
      own_stays site t (decode_of c.word) (judged_moved g.notes x t (decode_of c.word) apart) here.memory.ours
      (page_word n) (placed.frame.page n few)

  rest : PieceFrom l c.piece 3 (words_on l (c.edge ∷ []) ++ going_on)
  rest = from_shape site c.piece _ c.shape

  -- through the snippet and the jump to the piece that was found, and on from there
  lands : (to : ℕ) → IsFit site a → a.pc ≡ place c.piece 3 → Lands site c.landing x.npc to
      → (word_at g.text x.npc ≡ None → to ≡ x.npc) → FollowsRoute site None (c.edge ∷ c.landing) a to 8
  unfolding eased
  lands to fit at (piece, within, found, how) out =
      let page = here.target_in_page c.slot c.out c.caseless in
      let aligned = placed.laid.aligned piece.0 in
      let behind : (b : State) → IsFit site b → b.pc ≡ slice_index p.at piece.0 → waiting b ≡ x.npc
      → FollowsRoute site None c.landing b to 4 =
      λ b fit2 there waits. elim how [
        | inl leads ↦
            unwatched site (word_at g.text x.npc) c.landing b to 4
            (arrive site piece c.landing b (word_at g.text x.npc) to fit2 there leads)
        | inr other ↦ elim other [
          | inl (none, e) ↦ bare_here site c.landing b to 4 none fit2 (there ∙ e) (omega (arith, there, aligned.1))
          | inr (no_landing, is, none) ↦
              rw (no_landing, out none) (leaves site piece.0 is b fit2 (there ∙ placed.laid.starts piece.0 within) x.npc
              waits page.1)
        ]
      ] in
      let mid = place c.piece (3 + length (flat_map l.codes (c.edge ∷ []))) in
      let way = snippets_run site (Some 0) (c.edge ∷ []) c.piece 3 going_on rest a fit at in
      let one = unwatched site (Some 0) (c.edge ∷ []) a mid 0 way in
      let low = (stood site a.memory fit.has.code c.piece 3 (flat_map l.codes (c.edge ∷ [])) going_on rest).low in
      let b : State = hopped way.other mid way.memory in
      let fit2 = arrived site (c.edge ∷ []) a mid 0 fit low way in
      let r2 : PieceFrom l c.piece (3 + length (flat_map l.codes (c.edge ∷ []))) going_on =
      rw (length_words (flat_map l.codes (c.edge ∷ []))) at
      (rest_behind l c.piece 3 (words_on l (c.edge ∷ [])) going_on rest) in
      let there = slice_index p.at piece.0 in
      let in_text : word_at g.text x.pc ≢ None = λ none. let e = rw none at c.is_word in cc in
      let two = goes_found site c.piece _ r2 b fit2 (refl {a = mid}) there
      ((way.told (λ e. cc)).found ∙ waits 7 (omega arith) ∙ page.2 in_text ∙ found) aligned.0 in
      let fit3 = arrived site [] b there 3 fit2 aligned.1 two in
      let three = behind (hopped two.other there two.memory) fit3 (refl {a = there})
      (two.target_in_page ∙ way.target_in_page ∙ waits 1 (omega arith) ∙ page.0) in
      let both = on_then site c.landing [] c.landing refl b there to 3 4 two three in
      weaker_route site (c.edge ∷ c.landing) a to (0 + (3 + 4)) 8 (omega arith)
      (on_then site (c.edge ∷ c.landing) (c.edge ∷ []) c.landing refl a mid to 0 (3 + 4) one both)

  -- Outside the text the next visit is at the target itself. Along the edge of a jump it isn't told what is stored.
  pub jump_slots_step : StepsFrom site node x t
  jump_slots_step =
      marked_step visit _ _ c.mark None apart (λ live fit at.
      let went = goes_straight g x t c.word c.is_word c.straight live in
      let route = lands (next_entry site node x t) fit at (c.lands live) (λ none. rw (went.0, none, went.1) refl) in (
        subst (λ z. FollowsRoute site None z a (next_entry site node x t) 8) (sym (c.completes live)) route,
        λ there none. absurd (there refl),
      ))
      (λ live w.
      let other = (subst (NoneIsOut (graph_in g)) (c.completes live) w.out).0 in
      absurd (false≢true (sym other ∙ c.outward)))
