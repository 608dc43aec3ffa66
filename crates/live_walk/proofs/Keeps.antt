-- What a run still needs, or a later snippet names, is live where it stands, and is kept from step to step.
use Rattle.live_walk.proofs.Common.{nat_tests, zero, ◌+◌, ◌-◌, ◌<◌, false, ◌++◌, slice_index, get_or_from_slice_get, word_at, reads_all, reads_of, read_set, write_set, decode_of, NoSlot, IsNodeIn, EdgeKind, Node, point_of, gone, edge_along, node_after, way_to, Matches, MatchesBy, IsOnItsWay, word_at-some, Point, At, Along, edge_at, writes_at, slot_writes, IsLive, ◌≡◌, ℕ, suc, ◌≤◌, ◌⊎◌, inl, inr, true, List, [], ◌∷◌, Option, Some, None, refl, ap, ◌∙◌, arith, Contains, Words, IsText, Instr, Part, has, is_member, fetch_of, State, StateItem, IsAmong, item_of, blocks_of, Graph, graph_of, gone_in, AreOpen, FetchesOnly, BeginsAt, JumpsGoByCase, Open, cases_Bool, cases_eq, IsCarried, cut, reads_at, slot_reads, IsLiveOn, Slot, Contains-push}
use Rattle.v8_step.proofs.Live.{live_step}
use Rattle.cfg_normal.specs.declared.Slot.{Slot as Carried}
use Rattle.v8_step.specs.Run.{run}
use Rattle.two_runs.specs.Needed.{Writes, decoded, Reads, WritesIn}
use Rattle.v8_step.proofs.Executable.{code_stays}
use Rattle.cfg_walk.proofs.Walks.{live_before, lived_to, walks_match}
use Rattle.cfg_walk.specs.Walk.{end_of_walk}
use Rattle.v8_step.proofs.WindowStays.{window_stays}
use Rattle.cfg_normal.specs.declared.Slot.TheVariants as carried
use Rattle.live_walk.specs.Keeps.{Keeps, IsKeptAt, WhatLivesIsKept, instr_after}
use Rattle.live_walk.specs.Law.{NamedIsLive, NeededIsLive}
use Rattle.live_walk.proofs.Parts.{read_by_word, unwritten, same_part}
use Rattle.live_walk.proofs.Trips.{Trip, step_back, left_on, names_now}
use Rattle.live_walk.proofs.Edges.{IsPointBy}
use Rattle.live_walk.proofs.Steps.{some_in, word_here, IsPoint, step_trip, went}

-- what a state reads, by its word
reads_here : (s : State) (item : StateItem) → Reads s item
    → (s.ending ≡ None) × (word : ℕ) × (fetch_of s.memory s.pc ≡ Some word)
    × ((reads_all (decode_of word) ≡ true) ⊎ IsAmong item s.window (reads_of (decode_of word)))
reads_here s item h =
    let live : s.ending ≡ None = grind arith in
    let f = some_in (fetch_of s.memory s.pc) (grind arith) in (live, f.0, f.1, rw (live, f.1) at h)

-- ---- whether a step writes an item

among_or_not : (item : StateItem) (w : ℕ) (ps : List Part) → IsAmong item w ps ⊎ (IsAmong item w ps → ⊥)
among_or_not item w [] = inr (λ a. a)
among_or_not item w (p ∷ ps) = grind (arith, nat_tests, among_or_not item w ps)

written_or_not : (instr : Option Instr) (w : ℕ) (item : StateItem) → WritesIn instr w item ⊎ (WritesIn instr w item → ⊥)
written_or_not instr w item = grind (arith, among_or_not item w)

module _ (text : Words) (given : List ℕ) (opens : List Open) (entry : ℕ) (s0 : State) (named : ℕ → List Part)
    (is : IsText text) (fetches : FetchesOnly text s0) (begins : BeginsAt text entry s0)
    (are : AreOpen (blocks_of text given) opens)
    (cases : JumpsGoByCase text (graph_of (blocks_of text given) opens) entry s0) where
  abbrev graph : Graph
  graph = graph_of (blocks_of text given) opens

  abbrev at : ℕ → State
  at k = run s0 k

  abbrev node_at : ℕ → Node
  node_at k = end_of_walk text graph entry s0 k

  abbrev Lives : Point → Part → Type 0
  Lives q x = IsLive text graph named q x

  fetches_at : (k : ℕ) → FetchesOnly text (at k)
  fetches_at k a = code_stays.1 s0 k a ∙ fetches a

  matches_at : (k : ℕ) → (at k).ending ≡ None
      → Matches text graph (node_at k) (point_of (at k)) × IsNodeIn (blocks_of text given) opens (node_at k)
  matches_at k live = walks_match text given opens entry s0 k is fetches begins are cases live

  -- where the run stands before it carries out a word, and what that reads and writes
  record Standing (k word : ℕ) : Type 0 where
    live : (at k).ending ≡ None
    fetched : fetch_of (at k).memory (at k).pc ≡ Some word
    point : Point
    is_point : IsPoint text graph (node_at k) (at k) point
    reads : reads_at text graph named point ≡ read_set (decode_of word)
    writes : writes_at text graph named point ≡ write_set (decode_of word)

  standing : (k word : ℕ) → (at k).ending ≡ None → fetch_of (at k).memory (at k).pc ≡ Some word → Standing k word
  standing k word live fetched = by (at k).slot refl (matches_at k live).0
    where
      -- the word of the text at pc
      at_word : (w : ℕ) × (word_at text (at k).pc ≡ Some w) × (slice_index text.words w ≡ word)
      at_word = word_here text (at k) word (fetches_at k) fetched

      carried_word : (slot : Carried) → IsCarried text slot (at k).pc
          → (slot_reads text slot ≡ read_set (decode_of word)) × (slot_writes text slot ≡ write_set (decode_of word))
      carried_word carried.Nothing h = absurd h
      carried_word (carried.Word v) h =
          let same : v.0 ≡ at_word.0 = omega (arith, (word_at-some text (at k).pc at_word.0 at_word.1).is, h) in
          let is_word : slice_index text.words v.0 ≡ word = ap (slice_index text.words) same ∙ at_word.2 in
          rw is_word (refl, refl)
      carried_word carried.Off h =
          let there = word_at-some text (at k).pc at_word.0 at_word.1 in
          absurd (omega (arith, there.within, there.is, h))

      stands : (q : Point) → IsPoint text graph (node_at k) (at k) q
          → reads_at text graph named q ≡ read_set (decode_of word)
          → writes_at text graph named q ≡ write_set (decode_of word) → Standing k word
      stands q is_point reads writes =
          record { live = live; fetched = fetched; point = q; is_point = is_point; reads = reads; writes = writes }

      on_way : (x : Slot) → (at k).slot ≡ x → (way : EdgeKind) → IsOnItsWay text graph (node_at k) (point_of (at k)) way
          → ((e : ℕ) → edge_along graph (node_at k) (way_to text graph (node_at k) way (at k).npc) ≡ e ∷ []
          → IsPointBy text graph (node_at k) (point_of (at k)) x (Along e)) → Standing k word
      on_way x e way h point =
          let carries = carried_word h.edge.slot h.carries in
          let is_edge : edge_at graph h.number ≡ h.edge = get_or_from_slice_get graph.edges h.number h.edge _ h.is in
          stands (Along h.number) (rw e (point h.number h.only)) (rw is_edge carries.0) (rw is_edge carries.1)

      by : (x : Slot) → (at k).slot ≡ x → MatchesBy text graph (node_at k) (point_of (at k)) x → Standing k word
      by NoSlot e m =
          stands (At (node_at k) at_word.0) (rw e (at_word.0, at_word.1, refl)) (rw at_word.2 refl) (rw at_word.2 refl)
      by x e m = on_way x e _ m (λ d h. (d, h, refl))

  -- ---- one step back

  abbrev LivesAt : ℕ → Part → Type 0
  LivesAt k p = (q : Point) × IsPoint text graph (node_at k) (at k) q × Lives q p

  trip_at : (k : ℕ) {word : ℕ} (st : Standing k word) → (at (suc k)).ending ≡ None
      → Trip text graph named st.point
      (IsPoint text graph (node_after graph (node_at k) (gone_in text graph entry s0 k)) (at (suc k)))
      (gone_in text graph entry s0 k)
  trip_at k {word} st after =
      let m = matches_at k st.live in
      let w = word_here text (at k) word (fetches_at k) st.fetched in
      let acts = live_step (at k) word st.live st.fetched in
      rw (after, acts) (step_trip opens (cut text given is.some) named (at k) (node_at k) is are m.1 w.0 (decode_of word)
      w.1 (ap decode_of w.2) (rw acts at after) (at k).slot refl m.0 st.point st.is_point)

  -- the step doesn't write the item
  quiet : (k : ℕ) {word : ℕ} (st : Standing k word) (p : Part) → ¬ Writes (at k) (item_of (at k).window p)
      → has (writes_at text graph named st.point) p ≡ false
  quiet k {word} st p h = rw st.writes (unwritten (at k).window (decode_of word) p (λ a. h (rw st.live (rw st.fetched a))))

  -- what reads all makes it live; else the window stays
  live_if : (k : ℕ) (p : Part) → is_member p ≡ true → (at (suc k)).ending ≡ None
      → ((word : ℕ) (st : Standing k word) → (at (suc k)).window ≡ (at k).window → Lives st.point p) → LivesAt k p
  live_if k p m after rest =
      let live = live_before (at k) after in
      let f = went (at k) live after in
      let st = standing k f.0 live f.1 in
      let lives : Lives st.point p = elim (cases_Bool (reads_all (decode_of f.0))) [
        | inl e ↦ ([], rw st.reads (read_by_word (at k).window f.0 p m (inl e)))
        | inr e ↦ rest f.0 st (rw (live_step (at k) f.0 live f.1) (window_stays (at k) (decode_of f.0) e))
      ] in (st.point, st.is_point, lives)

  -- ---- back from a later step

  back : (d k j : ℕ) → k + d ≡ j → (p : Part) → is_member p ≡ true → (item : StateItem) → (at j).ending ≡ None
      → ((i : ℕ) → k ≤ i → i < j → ¬ Writes (at i) item) → item ≡ item_of (at k).window p
      → (item ≡ item_of (at j).window p → LivesAt j p) → LivesAt k p
  unfolding end_of_walk
  back zero k j e p m item live un same now = let here : k ≡ j = omega arith in rw here (now (rw here at same))
  back (suc d) k j e p m item live un same now =
      live_if k p m (lived_to s0 (suc k) j (omega arith) live) (λ word st stays.
      let l =
      back d (suc k) j (omega arith) p m item live (λ i a b. un i (omega arith) b) (rw stays same) now in
      step_back text graph named p m st.point _ _ (trip_at k st (lived_to s0 (suc k) j (omega arith) live))
      (quiet k st p (rw same at (un k (omega arith) (omega arith)))) l.0 l.1 l.2)

  -- a step that completes edges goes on
  goes_live : (k f : ℕ) → Contains (gone_in text graph entry s0 k) f → (at (suc k)).ending ≡ None
  goes_live k f c = grind arith

  abbrev Kept : ℕ → StateItem → Type 0
  Kept n item = IsKeptAt text graph named entry s0 n item

  -- what is kept is live where the run stands
  lives_at : (k : ℕ) (p : Part) → is_member p ≡ true → Kept k (item_of (at k).window p) → LivesAt k p
  lives_at k p m (inl needed) =
      let j = needed.reader in
      let live = (reads_here (at j) _ needed.reads).0 in
      back (j - k) k j (omega arith) p m _ live needed.kept refl (λ same.
      let r = reads_here (at j) (item_of (at j).window p) (rw same at needed.reads) in
      let st = standing j r.1 r.0 r.2 in
      (st.point, st.is_point, ([], rw st.reads (read_by_word (at j).window r.1 p m r.3))))
  lives_at k p m (inr later) =
      let j = later.step in
      let after = goes_live j later.edge later.completed in
      back (j - k) k j (omega arith) p m _ (live_before (at j) after)
      (λ i a b. later.unwritten i a (omega arith)) refl (λ same. live_if j p m after (λ word st stays.
      let part : later.part ≡ p =
      same_part (at j).window later.part p later.is_part m (cc (stays, later.names, same)) in
      names_now text graph named p m st.point _ _ (trip_at j st after)
      (quiet j st p (rw same at (later.unwritten j (omega arith) (omega arith))))
      later.edge later.completed (rw part at later.is_named)))

  -- what is kept after a step is live behind the last edge that it completes
  kept_is_live : (n e : ℕ) (front : List ℕ) (p : Part) → is_member p ≡ true
      → gone_in text graph entry s0 n ≡ front ++ e ∷ [] → Kept (suc n) (item_of (at (suc n)).window p)
      → IsLiveOn text graph named e p
  unfolding end_of_walk
  kept_is_live n e front p m h kept =
      let after = goes_live n e (rw h (Contains-push front e)) in
      let live = live_before (at n) after in
      let f = went (at n) live after in
      let l = lives_at (suc n) p m kept in
      left_on text graph named p m _ _ _ front e (trip_at n (standing n f.0 live f.1) after) h l.0 l.1 l.2

  -- ---- what is kept

  abbrev Written : ℕ → StateItem → Type 0
  Written n item = WritesIn (instr_after text s0 n) (at n).window item

  -- a live state carries out what the text has there
  carried_out : (n : ℕ) → (at n).ending ≡ None
      → instr_after text s0 n ≡ decoded (at n).ending (fetch_of (at n).memory (at n).pc)
  carried_out n live = grind (arith, fetches_at n (at n).pc, live)

  -- an item that the step writes, or doesn't
  written : (n : ℕ) (item : StateItem) → (at n).ending ≡ None → Written n item ⊎ (¬ Writes (at n) item)
  written n item live = rw (← carried_out n live) (written_or_not (instr_after text s0 n) (at n).window item)

  -- where something is still needed, or named later, the run goes on
  kept_lives : (n : ℕ) (item : StateItem) → Kept n item → (at n).ending ≡ None
  kept_lives n item (inl needed) =
      lived_to s0 n needed.reader needed.later (reads_here (at needed.reader) item needed.reads).0
  kept_lives n item (inr later) =
      lived_to s0 n later.step later.later (live_before (at later.step) (goes_live later.step later.edge later.completed))

  -- at step n, or from the one after it on
  from_now : (n k : ℕ) (item : StateItem) → n ≤ k → ¬ Writes (at n) item → (suc n ≤ k → ¬ Writes (at k) item)
      → ¬ Writes (at k) item
  from_now n k item low first rest = elim (cases_eq n k) [ inl e ↦ rw e at first | inr not ↦ rest (omega arith) ]

  kept_before : (n : ℕ) (item : StateItem) → Kept (suc n) item → ¬ Writes (at n) item → Kept n item
  kept_before n item (inl needed) none =
      inl (record {
        is_item = needed.is_item;
        reader = needed.reader;
        later = omega arith;
        reads = needed.reads;
        kept = λ k from to. from_now n k item from none (λ low. needed.kept k low to);
      })
  kept_before n item (inr later) none =
      inr (record {
        step = later.step;
        later = omega arith;
        edge = later.edge;
        completed = later.completed;
        part = later.part;
        is_part = later.is_part;
        is_named = later.is_named;
        names = later.names;
        unwritten = λ k from to. from_now n k item from none (λ low. later.unwritten k low to);
      })

  keeps : Keeps text graph named entry s0
  keeps = record {
    reads = λ n item live is_item r. inl (record {
      is_item = is_item;
      reader = n;
      later = omega arith;
      reads = rw (carried_out n live) at r;
      kept = λ k low high. absurd (omega arith);
    });
    back = λ n item kept. elim (written n item (live_before (at n) (kept_lives (suc n) item kept))) [
      | inl w ↦ inl w
      | inr none ↦ inr (kept_before n item kept none)
    ];
    live = λ n item kept front e last p member dead same. dead (kept_is_live n e front p member last (rw same at kept));
    needed = λ n item kept. inl kept;
    named_items = λ n e p gone member names.
        elim (written n (item_of (at (suc n)).window p) (live_before (at n) (goes_live n e gone))) [
          | inl w ↦ inl w
          | inr none ↦ inr (inr (record {
            step = n;
            later = omega arith;
            edge = e;
            completed = gone;
            part = p;
            is_part = member;
            is_named = names;
            names = refl;
            unwritten = λ k low high. let same : n ≡ k = omega arith in rw (← same) none;
          }))
        ];
  }

pub needed_is_live : NeededIsLive
needed_is_live text given opens entry s0 named is fetches begins are cases n e front p m left needed =
    kept_is_live text given opens entry s0 named is fetches begins are cases n e front p m left (inl needed)

pub named_is_live : NamedIsLive
named_is_live text given opens entry s0 named is fetches begins are cases n e front p m left k f q low c mq h same none =
    kept_is_live text given opens entry s0 named is fetches begins are cases n e front p m left (inr (record {
      step = k;
      later = low;
      edge = f;
      completed = c;
      part = q;
      is_part = mq;
      is_named = h;
      names = same;
      unwritten = none;
    }))

pub what_lives_is_kept : WhatLivesIsKept
what_lives_is_kept text given opens entry s0 named is fetches begins are cases =
    keeps text given opens entry s0 named is fetches begins are cases
