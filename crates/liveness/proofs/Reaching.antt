-- What is live at places, by links, is so at points, by paths, and back.
use Rattle.liveness.proofs.Common.{◌≡◌, ◌↔◌, ℕ, suc, ◌+◌, ◌<◌, ◌⊎◌, Bool, true, false, ◌||◌, List, [], ◌∷◌, ◌++◌, length, refl, sym, ◌∙◌, subst, arith, inl, inr, Contains, cases_lt, cond_both, false≢true, or_cases, or_from, or_left, or_parts, or_right, and_parts, and_from, not-true, not_from_false, get_or_default, All-get_or, Contains-get_or, Part, every_part, has, members, set_of, Link, Sets, link_at, AreLinks, IsLiveIn, Passes, Reaches, AreFirsts, Graph, lands, IsEdgeIn, IsGraph, node_number, Node, Block, Landed, X, edge_at, Holds, HoldsIn, IsFirst, IsLast, GoesOnAt, is_landing, is_outside, slot_writes, beyond, Point, At, Along, Behind, After, reads_at, writes_at, Goes, IsLive, IsLiveOn, AreLinksOf, AreLivePlaces, AreMarks, AreRead, In, IsInside, IsOf, IsOnward, LinksAlongAny, LinksInAny, LinksNext, LinksOnto, LinksOntoAny, LivesInCopy, LivesOnto, ReadsIn, ReadsOfAny, ReadsOnAny, edge_link, first_in, is_ahead, is_marked, landing_link, last_in, next_link, node_place, nodes_from, place_of, target_of, Some}
use Rattle.std.proofs.Math.ListN.{get_or-eq_default}
use Rattle.eel_base.specs.CodeText.{Words}
use Rattle.v8_decode.specs.declared.Instr.{Instr}
use Rattle.v8_decode.specs.Effects.{read_set, write_set, writes_of}
use Rattle.v8_decode.proofs.Marks.{has-union, set_of-members}
use Rattle.cfg_blocks.specs.declared.EdgeKind.TheVariants as kinds
use Rattle.cfg_blocks.specs.Values.{instr_at}
use Rattle.cfg_normal.specs.declared.Slot.{Slot}
use Rattle.cfg_normal.specs.declared.Slot.TheVariants.{Nothing, Word, Off}
use Rattle.liveness.specs.Paths.{ReadsFirst}
use Rattle.liveness.specs.Code.{IsLiveAt}
use Rattle.liveness.proofs.Held.{some_block}
use Rattle.liveness.proofs.Spots.{first_held, held_inside, held_of, inside_of, is_inside, last_held, number_once, of_held, place_once, place_within}

-- control lands at the word in the node
abbrev pub LandsAt : Graph → Node → ℕ → Type 0
LandsAt graph node word = Holds graph node word × (lands graph (Some word) ≡ node)

-- ---- the first and the last word of a node

first_is : (graph : Graph) (node : Node) (w : ℕ) → IsFirst graph node w → w ≡ first_in graph node
first_is graph X w h = absurd h
first_is graph _ w h = h

is_first : (graph : Graph) (node : Node) → IsInside graph node → IsFirst graph node (first_in graph node)
is_first graph X h = absurd h
is_first graph _ h = refl

last_is : (graph : Graph) (node : Node) (w : ℕ) → IsLast graph node w → w ≡ last_in graph node
last_is graph X w h = absurd h
last_is graph _ w h = h

is_last : (graph : Graph) (node : Node) → IsInside graph node → IsLast graph node (last_in graph node)
is_last graph X h = absurd h
is_last graph _ h = refl

-- ---- what is killed

-- what a word or the slot behind it writes
slot_set : (text : Words) (slot : Slot) → set_of (slot_writes text slot) ≡ slot_writes text slot
unfolding every_part members
slot_set text Nothing = refl
slot_set text (Word word) = set_of-members (has (writes_of (instr_at text word.0)))
slot_set text Off = refl

has_both : (text : Words) (instr : Instr) (slot : Slot) (x : Part)
    → has (set_of (write_set instr ++ slot_writes text slot)) x
    ≡ (has (write_set instr) x || has (slot_writes text slot) x)
has_both text instr slot x =
    has-union (write_set instr) (slot_writes text slot) _ x (set_of-members (has (writes_of instr)))
    (slot_set text slot) refl

-- ---- links

abbrev block : ℕ → Node
block b = Block (record { 0 = b })

abbrev copy : ℕ → Node
copy b = Landed (record { 0 = b })

pub marked_below : (marks : List Bool) (n : ℕ) → is_marked marks n ≡ true → n < length marks
marked_below marks n h = elim (cases_lt n (length marks)) [
  | inl less ↦ less
  | inr more ↦ absurd (false≢true (sym (get_or-eq_default marks false more) ∙ h))
]

module _ (text : Words) (graph : Graph) (g : IsGraph graph) (marks : List Bool)
    (m : AreMarks graph (length graph.edges) marks) where
  edge_in : (e : ℕ) → e < length graph.edges → IsEdgeIn graph.blocks graph.opens (edge_at graph e)
  edge_in e l =
      All-get_or (IsEdgeIn graph.blocks graph.opens) graph.edges e
      (record { from = X; to = X; kind = kinds.Land; slot = Nothing }) l g.edges

  from_inside : (e : ℕ) → e < length graph.edges → is_outside (edge_at graph e).from ≡ false
      → IsInside graph (edge_at graph e).from
  from_inside e l o = inside_of graph g.firsts (edge_at graph e).from (edge_in e l).from o

  to_inside : (e : ℕ) → e < length graph.edges → is_outside (edge_at graph e).to ≡ false
      → IsInside graph (edge_at graph e).to
  to_inside e l o = inside_of graph g.firsts (edge_at graph e).to (edge_in e l).to o

  -- a link by what it is between
  pub data IsStep (link : Link) : Type 0 where
    next : (node : Node) (w : ℕ) → Holds graph node w → Holds graph node (w + 1)
        → next_link text graph node w ≡ link → IsStep link
    along : (e : ℕ) → e < length graph.edges → IsInside graph (edge_at graph e).from
        → IsInside graph (edge_at graph e).to → edge_link text graph (edge_at graph e) ≡ link → IsStep link
    onto : (node : Node) (w : ℕ) → LandsAt graph node w → is_marked marks (node_number graph node) ≡ true
        → landing_link graph node w ≡ link → IsStep link

  next_step : (link : Link) (node : Node) → IsInside graph node → LinksNext text graph node link → IsStep link
  next_step link node inside (w, first, below, is) =
      next node w (held_of graph g.firsts node w (record { inside = inside; first = first; last = omega arith }))
      (held_of graph g.firsts node (w + 1) (record { inside = inside; first = omega arith; last = omega arith })) is

  onto_step : (link : Link) (node : Node) → IsInside graph node → LinksOnto graph marks node link → IsStep link
  onto_step link node inside (mark, (w, first, below, (landing, is))) =
      onto node w
      (held_of graph g.firsts node w (record { inside = inside; first = first; last = omega arith }), landing) mark is

  step_of : (link : Link)
      → LinksInAny text graph link ⊎ (LinksAlongAny text graph link ⊎ LinksOntoAny graph marks link) → IsStep link
  step_of link (inl (b, low, below, inl k)) = next_step link (block b) below k
  step_of link (inl (b, low, below, inr (copied, k))) = next_step link (copy b) (below, copied) k
  step_of link (inr (inl (e, low, below, (from, to, is)))) =
      along e below (from_inside e below from) (to_inside e below to) is
  step_of link (inr (inr (b, low, below, inl k))) = onto_step link (block b) below k
  step_of link (inr (inr (b, low, below, inr (copied, k)))) = onto_step link (copy b) (below, copied) k

  next_between : (node : Node) (w : ℕ) (link : Link) → Holds graph node w → Holds graph node (w + 1)
      → next_link text graph node w ≡ link → LinksNext text graph node link
  next_between node w link h k is =
      (w, (of_held graph g.firsts node w h).first, omega (arith, (of_held graph g.firsts node (w + 1) k).last), is)

  onto_between : (node : Node) (w : ℕ) (link : Link) → LandsAt graph node w
      → is_marked marks (node_number graph node) ≡ true → landing_link graph node w ≡ link
      → LinksOnto graph marks node link
  onto_between node w link h mark is =
      let here = of_held graph g.firsts node w h.0 in
      (mark, (w, here.first, omega (arith, here.last), (h.1, is)))

  of_step : (link : Link) → IsStep link
      → LinksInAny text graph link ⊎ (LinksAlongAny text graph link ⊎ LinksOntoAny graph marks link)
  of_step link (next (Block b) w h k is) = inl (b.0, omega arith, h.0, inl (next_between (Block b) w link h k is))
  of_step link (next (Landed b) w h k is) =
      inl (b.0, omega arith, h.1.0, inr (h.0, next_between (Landed b) w link h k is))
  of_step link (next X w h k is) = absurd h
  of_step link (along e l from to is) =
      inr (inl (e, omega arith, l, (is_inside graph g.firsts _ from, is_inside graph g.firsts _ to, is)))
  of_step link (onto (Block b) w h mark is) =
      inr (inr (b.0, omega arith, h.0.0, inl (onto_between (Block b) w link h mark is)))
  of_step link (onto (Landed b) w h mark is) =
      inr (inr (b.0, omega arith, h.0.1.0, inr (h.0.0, onto_between (Landed b) w link h mark is)))
  of_step link (onto X w h mark is) = absurd h.0

  -- ---- links are between places

  marked_to : (e : ℕ) → e < length graph.edges → IsInside graph (edge_at graph e).from
      → is_landing (edge_at graph e).kind ≡ true → is_marked marks (node_number graph (edge_at graph e).to) ≡ true
  marked_to e l from landing = m.marked e l (is_inside graph g.firsts _ from) landing

  abbrev IsPlace : ℕ → Type 0
  IsPlace p = p < nodes_from graph + length marks

  word_placed : (node : Node) (w : ℕ) → Holds graph node w → IsPlace (place_of graph node w)
  word_placed node w h = omega (arith, place_within graph g.firsts node w h)

  node_placed : (node : Node) → is_marked marks (node_number graph node) ≡ true → IsPlace (node_place graph node)
  node_placed node mark = omega (arith, marked_below marks _ mark)

  abbrev IsWithin : Link → Type 0
  IsWithin link = IsPlace link.from × IsPlace link.to

  step_within : (link : Link) → IsStep link → IsWithin link
  step_within link (next node w h k is) = subst IsWithin is (word_placed node w h, word_placed node (w + 1) k)
  step_within link (along e l from to is) =
      let edge = edge_at graph e in
      subst IsWithin is (
        word_placed edge.from _ (last_held graph g.firsts edge.from from),
        cond_both (is_landing edge.kind) _ _ IsPlace (λ landing. node_placed edge.to (marked_to e l from landing))
            (λ _. word_placed edge.to _ (first_held graph g.firsts edge.to to)),
      )
  step_within link (onto node w h mark is) = subst IsWithin is (node_placed node mark, word_placed node w h.0)

  module _ {links : List Link} (all : AreLinksOf text graph marks links) where
    contained : (k : ℕ) → k < length links → Contains links (link_at links k)
    contained k l = Contains-get_or links k (record { from = 0; to = 0; kills = [] }) l

    steps : (k : ℕ) → k < length links → IsStep (link_at links k)
    steps k l = step_of (link_at links k) ((all.contained (link_at links k)).0 (contained k l))

    pub are_links : (places : ℕ) → places ≡ nodes_from graph + length marks → AreLinks places links
    are_links places e k l =
        let b = step_within (link_at links k) (steps k l) in
        (omega (arith, b.0), omega (arith, b.1))

    passes : (x : Part) (link : Link) → IsStep link → has link.kills x ≡ false → Passes links x link.from link.to
    passes x link s u =
        let c = (all.contained link).1 (of_step link s) in
        let is : link_at links c.0 ≡ link =
        get_or_default links c.0 (record { from = 0; to = 0; kills = [] }) link c.1 ∙ c.2 in
        subst (λ (k : Link). has k.kills x ≡ false → Passes links x k.from k.to) is (λ v. (c.0, c.1, refl, refl, v)) u

    -- ---- what is live

    module _ {named : ℕ → List Part} {reads : Sets} (r : AreRead text graph named reads) (x : Part) where
      abbrev Plain : ℕ → Type 0
      Plain p = IsLiveIn reads links p x

      abbrev Lives : Point → Type 0
      Lives p = IsLive text graph named p x

      -- what the last word before an edge writes isn't live before it
      abbrev Unwritten : Node → Type 0
      Unwritten node = has (write_set (instr_at text (last_in graph node))) x ≡ false

      read : (p : Point) → has (reads_at text graph named p) x ≡ true → Lives p
      read p h = ([], h)

      step : (p q : Point) → has (writes_at text graph named p) x ≡ false → Goes text graph named p q → Lives q
          → Lives p
      step p q w f l = (q ∷ l.0, (w, f, l.1))

      plain_step : (link : Link) → IsStep link → has link.kills x ≡ false → Plain link.to → Plain link.from
      plain_step link s u l = (link.to ∷ l.0, (passes x link s u, l.1))

      words_between : (node : Node) (w : ℕ) → Holds graph node w → has (read_set (instr_at text w)) x ≡ true
          → ReadsIn text graph (place_of graph node w) node x
      words_between node w h k =
          let here = of_held graph g.firsts node w h in
          (w, here.first, omega (arith, here.last), (refl, k))

      plain_word : (node : Node) (w : ℕ) → Holds graph node w → has (read_set (instr_at text w)) x ≡ true
          → Plain (place_of graph node w)
      plain_word (Block b) w h k =
          let i = words_between (Block b) w h k in
          ([], (r.read (place_of graph (Block b) w) x).1 (inl (b.0, omega arith, h.0, inl i)))
      plain_word (Landed b) w h k =
          let i = words_between (Landed b) w h k in
          ([], (r.read (place_of graph (Landed b) w) x).1 (inl (b.0, omega arith, h.1.0, inr (h.0, i))))
      plain_word X w h k = absurd h

      abbrev Leaving : ℕ → Type 0
      Leaving e =
          e < length graph.edges → IsInside graph (edge_at graph e).from → Unwritten (edge_at graph e).from
          → Plain (place_of graph (edge_at graph e).from (last_in graph (edge_at graph e).from))

      -- live behind the snippet of an edge
      abbrev Onward : ℕ → Type 0
      Onward e = (has (beyond (edge_at graph e)) x ≡ true)
          ⊎ ((w : ℕ) × GoesOnAt graph (edge_at graph e).kind (edge_at graph e).to w
          × Plain (place_of graph (edge_at graph e).to w))

      -- from paths of points to paths of places
      abbrev Numbered : Point → Type 0
      Numbered (At node w) = Holds graph node w → Plain (place_of graph node w)
      Numbered (Along e) = Leaving e
      Numbered (Behind e) = has (slot_writes text (edge_at graph e).slot) x ≡ false → Leaving e
      Numbered (After e) = Onward e

      begun : (e : ℕ) → is_ahead text (edge_at graph e) (named e) x ≡ true → Leaving e
      begun e h l from u = (
        [],
        (r.read (place_of graph (edge_at graph e).from (last_in graph (edge_at graph e).from)) x).1
            (inr (e, omega arith, l, (is_inside graph g.firsts (edge_at graph e).from from, refl, u, h))),
      )

      ahead : (e : ℕ) → (has (named e) x || has (beyond (edge_at graph e)) x) ≡ true
          → has (slot_writes text (edge_at graph e).slot) x ≡ false → Leaving e
      ahead e h s = begun e (or_right _ _ (and_from _ _ h (not_from_false _ s)))

      -- at the place at which the edge goes on, what is live at a word there is
      plain_target : (e w : ℕ) → e < length graph.edges → IsInside graph (edge_at graph e).from
          → GoesOnAt graph (edge_at graph e).kind (edge_at graph e).to w
          → Plain (place_of graph (edge_at graph e).to w) → Plain (target_of graph (edge_at graph e))
      plain_target e w l from goes k =
          let edge = edge_at graph e in
          cond_both (is_landing edge.kind) _ _ Plain (λ landing.
          plain_step (landing_link graph edge.to w)
          (onto edge.to w (rw landing at goes) (marked_to e l from landing) refl) refl k)
          (λ other. rw (first_is graph edge.to w (rw other at goes).1) at k)

      onward : (e : ℕ) → Onward e → has (slot_writes text (edge_at graph e).slot) x ≡ false → Leaving e
      onward e (inl h) s = ahead e (or_right _ _ h) s
      onward e (inr h) s = λ l from u.
          plain_step (edge_link text graph (edge_at graph e)) (along e l from
          (held_inside graph g.firsts (edge_at graph e).to h.0
          h.1.0) refl) (has_both text (instr_at text (last_in graph (edge_at graph e).from)) (edge_at graph e).slot x
          ∙ or_from _ _ u s) (plain_target e h.0 l from h.1 h.2)

      numbered_read : (p : Point) → has (reads_at text graph named p) x ≡ true → Numbered p
      numbered_read (At node w) h = λ k. plain_word node w k h
      numbered_read (Along e) h = begun e (or_left _ _ h)
      numbered_read (Behind e) h = ahead e (or_left _ _ h)
      numbered_read (After e) h = inl h

      onto_next : (node : Node) (w v : ℕ) → has (write_set (instr_at text w)) x ≡ false → v ≡ suc w
          → Holds graph node w → Holds graph node v → Plain (place_of graph node v) → Plain (place_of graph node w)
      onto_next node w v u e h k l =
          let one : v ≡ w + 1 = omega arith in
          plain_step (next_link text graph node w) (next node w h (rw one at k) refl) u (rw one at l)

      onto_edge : (node : Node) (w e : ℕ) → has (write_set (instr_at text w)) x ≡ false → e < length graph.edges
          → (edge_at graph e).from ≡ node → IsLast graph node w → Holds graph node w → Leaving e
          → Plain (place_of graph node w)
      onto_edge node w e u l from last h leaving =
          let is : last_in graph node ≡ w = sym (last_is graph node w last) in
          let here : IsInside graph node → Unwritten node → Plain (place_of graph node (last_in graph node)) =
          rw from at (leaving l) in
          rw is at (here (held_inside graph g.firsts node w h)) u

      numbered_step : (p q : Point) → has (writes_at text graph named p) x ≡ false → Goes text graph named p q
          → Numbered q → Numbered p
      numbered_step (At node w) (At other v) u f h = λ k.
          onto_next node w v u f.1 k f.2 (rw f.0 at h f.2)
      numbered_step (At node w) (Along e) u f h = λ k. onto_edge node w e u f.0 f.1 f.2 k h
      numbered_step (Along e) (Behind d) u f h = rw f at (h (rw f u))
      numbered_step (Behind e) (After d) u f h = onward e (rw f at h)
      numbered_step (After e) (At node w) u f h =
          inr (w, rw f.0 f.1, rw f.0 (h f.1.0))
      numbered_step _ _ u f h = absurd f

      numbered : (path : List Point) (p : Point)
          → ReadsFirst (reads_at text graph named) (writes_at text graph named) (Goes text graph named) x p path
          → Numbered p
      numbered [] p h = numbered_read p h
      numbered (q ∷ path) p h = numbered_step p q h.0 h.1 (numbered path q h.2)

      -- and back
      pub record Pointed (p : ℕ) : Type 0 where
        pub word : (node : Node) (w : ℕ) → Holds graph node w → p ≡ place_of graph node w → Lives (At node w)
        pub landing : (node : Node) → IsInside graph node → p ≡ node_place graph node
            → (w : ℕ) × LandsAt graph node w × Lives (At node w)

      pointed_word : (node : Node) (w : ℕ) → Holds graph node w → Lives (At node w) → Pointed (place_of graph node w)
      pointed_word node w h l = record {
        word = λ other v k e.
            let same = place_once graph g.firsts node other w v h k e in
            rw same.0 at (rw same.1 at l);
        landing = λ other k e. absurd (omega (arith, place_within graph g.firsts node w h, e));
      }

      pointed_node : (node : Node) (w : ℕ) → LandsAt graph node w → Lives (At node w)
          → Pointed (node_place graph node)
      pointed_node node w h l = record {
        word = λ other v k e. absurd (omega (arith, place_within graph g.firsts other v k, e));
        landing = λ other k e.
            let same : node ≡ other =
            number_once graph g.firsts node other (held_inside graph g.firsts node w h.0) k (omega (arith, e)) in
            rw (← same) (w, h, l);
      }

      behind : (e : ℕ) → (has (named e) x || has (beyond (edge_at graph e)) x) ≡ true → Lives (Behind e)
      behind e h = elim (or_cases _ _ h) [
        | inl k ↦ read (Behind e) k
        | inr k ↦ step (Behind e) (After e) refl refl (read (After e) k)
      ]

      along_read : (e : ℕ) → is_ahead text (edge_at graph e) (named e) x ≡ true → Lives (Along e)
      along_read e h = elim (or_cases _ _ h) [
        | inl k ↦ read (Along e) k
        | inr k ↦
            let parts = and_parts _ _ k in
            step (Along e) (Behind e) (not-true _ parts.1) refl (behind e parts.0)
      ]

      after : (e : ℕ) → IsInside graph (edge_at graph e).to → Pointed (target_of graph (edge_at graph e))
          → Lives (After e)
      after e to h =
          let edge = edge_at graph e in
          cond_both (is_landing edge.kind) _ _ (λ p. Pointed p → Lives (After e)) (λ landing t.
          let there = t.landing edge.to to refl in
          step (After e) (At edge.to there.0) refl (refl, rw landing there.1) there.2) (λ other t.
          let held = first_held graph g.firsts edge.to to in
          step (After e) (At edge.to (first_in graph edge.to)) refl (refl, rw other (held, is_first graph edge.to to))
          (t.word edge.to (first_in graph edge.to) held refl))
          h

      -- at the last word before an edge
      leaving : (e : ℕ) → e < length graph.edges → IsInside graph (edge_at graph e).from
          → Unwritten (edge_at graph e).from → Lives (Along e)
          → Pointed (place_of graph (edge_at graph e).from (last_in graph (edge_at graph e).from))
      leaving e l from u k =
          let node = (edge_at graph e).from in
          pointed_word node (last_in graph node) (last_held graph g.firsts node from)
          (step (At node (last_in graph node)) (Along e) u (l, refl, is_last graph node from) k)

      pointed_step : (link : Link) → IsStep link → has link.kills x ≡ false → Pointed link.to → Pointed link.from
      pointed_step link (next node w h k is) =
          rw (← is) (λ u t.
          let one : w + 1 ≡ suc w = omega arith in
          pointed_word node w h (step (At node w) (At node (w + 1)) u (refl, one, k) (t.word node (w + 1) k refl)))
      pointed_step link (along e l from to is) =
          rw (← is) (λ u t.
          let edge = edge_at graph e in
          let none = or_parts _ _ (sym (has_both text (instr_at text (last_in graph edge.from)) edge.slot x) ∙ u) in
          leaving e l from none.0
          (step (Along e) (Behind e) none.1 refl (step (Behind e) (After e) refl refl (after e to t))))
      pointed_step link (onto node w h mark is) = rw (← is) (λ u t. pointed_node node w h (t.word node w h.0 refl))

      word_read : (p : ℕ) (node : Node) → IsInside graph node → ReadsIn text graph p node x → Pointed p
      word_read p node inside (w, first, below, (is, k)) =
          let held = held_of graph g.firsts node w (record { inside = inside; first = first; last = omega arith }) in
          rw is (pointed_word node w held (read (At node w) k))

      pointed_read : (p : ℕ) → ReadsOfAny text graph p x ⊎ ReadsOnAny text graph named p x → Pointed p
      pointed_read p (inl (b, low, below, inl k)) = word_read p (block b) below k
      pointed_read p (inl (b, low, below, inr (copied, k))) = word_read p (copy b) (below, copied) k
      pointed_read p (inr (e, low, l, (from, is, u, k))) =
          rw is (leaving e l (from_inside e l from) u (along_read e k))

      pointed : (path : List ℕ) (p : ℕ) → Reaches reads links x p path → Pointed p
      pointed [] p h = pointed_read p ((r.read p x).0 h)
      pointed (q ∷ path) p h =
          let k = h.0 in
          rw k.2 at (pointed_step (link_at links k.0) (steps k.0 k.1) k.4 (rw k.3 (pointed path q h.1)))

      -- ---- both

      pub word_is : (node : Node) (w : ℕ) → Holds graph node w
          → Plain (place_of graph node w) ↔ IsLive text graph named (At node w) x
      word_is node w h = (λ k. (pointed k.0 _ k.1).word node w h refl, λ k. numbered k.0 (At node w) k.1 h)

      pub node_is : (node : Node) → IsInside graph node → is_marked marks (node_number graph node) ≡ true
          → Plain (node_place graph node)
          ↔ ((w : ℕ) × LandsAt graph node w × Plain (place_of graph node w))
      node_is node inside mark = (
        λ k.
            let there = (pointed k.0 _ k.1).landing node inside refl in
            (there.0, there.1, (word_is node there.0 there.1.0).1 there.2),
        λ k. plain_step (landing_link graph node k.0) (onto node k.0 k.1 mark refl) refl k.2,
      )

-- the words where control lands in a node
pub lands_between : (graph : Graph) (f : AreFirsts graph.blocks.words graph.blocks.firsts) (node : Node)
    → IsInside graph node → (sets : Sets) (x : Part)
    → LivesOnto graph node sets x ↔ ((w : ℕ) × LandsAt graph node w × In sets (place_of graph node w) x)
lands_between graph f node inside sets x = (
  λ k.
      let last = k.2 in
      let of : IsOf graph node k.0 = record { inside = inside; first = k.1; last = omega arith } in
      (k.0, (held_of graph f node k.0 of, k.3.0), k.3.1),
  λ k.
      let of = of_held graph f node k.0 k.1.0 in
      (k.0, of.first, omega (arith, of.last), (k.1.1, k.2)),
)

-- ---- what is live at places says what is so behind snippets, and at words

module _ (text : Words) (graph : Graph) (named : ℕ → List Part) (sets : Sets)
    (live : AreLivePlaces text graph named sets) where
  after_read : (e : ℕ) (x : Part) → IsOnward graph (edge_at graph e) sets x → IsLiveOn text graph named e x
  after_read e x (inl h) = ([], h)
  after_read e x (inr (w, goes, k)) =
      let edge = edge_at graph e in
      let there = (live.live edge.to w goes.0 x).0 k in
      (At edge.to w ∷ there.0, (refl, (refl, goes), there.1))

  after_goes : (e : ℕ) (x : Part) (path : List Point)
      → ReadsFirst (reads_at text graph named) (writes_at text graph named) (Goes text graph named) x (After e) path
      → IsOnward graph (edge_at graph e) sets x
  after_goes e x [] h = inl h
  after_goes e x (At node w ∷ path) h =
      let is : node ≡ (edge_at graph e).to = sym h.1.0 in
      inr (w, rw is at h.1.1, rw is at ((live.live node w h.1.1.0 x).1 (path, h.2)))
  after_goes e x (_ ∷ path) h = absurd h.1

  pub onward_is : (e : ℕ) (x : Part) → IsOnward graph (edge_at graph e) sets x ↔ IsLiveOn text graph named e x
  onward_is e x = (after_read e x, λ h. after_goes e x h.0 h.1)

  word_there : (w : ℕ) (x : Part) → (b : ℕ) × HoldsIn graph b w → In sets w x ⊎ LivesInCopy graph sets w x
      → IsLiveAt text graph named w x
  word_there w x (b, held) (inl k) = (block b, held, (live.live (block b) w held x).0 k)
  word_there w x here (inr (b, copied, held, k)) =
      (copy b, (copied, held), (live.live (copy b) w (copied, held) x).0 k)

  word_lives : (w : ℕ) (x : Part) (node : Node) → Holds graph node w → IsLive text graph named (At node w) x
      → In sets w x ⊎ LivesInCopy graph sets w x
  word_lives w x (Block b) h l = inl ((live.live (Block b) w h x).1 l)
  word_lives w x (Landed b) h l = inr (b.0, h.0, h.1, (live.live (Landed b) w h x).1 l)
  word_lives w x X h l = absurd h

  pub joined_is : IsGraph graph → (w : ℕ) (x : Part) → w < graph.blocks.words
      → (In sets w x ⊎ LivesInCopy graph sets w x) ↔ IsLiveAt text graph named w x
  joined_is g w x l = (
    λ k.
        let found = some_block graph.blocks.words graph.blocks.firsts g.firsts w l in
        word_there w x (found.0, (found.1.within, found.1.above, found.1.below)) k,
    λ k. word_lives w x k.0 k.1 k.2,
  )
