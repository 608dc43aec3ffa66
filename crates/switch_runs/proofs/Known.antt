-- What is known of a run where its walk stands about open switches, and what a step carries out there.
use Rattle.std.proofs.lemmas.List.Folds.{list_any_at}
use Rattle.switch_runs.proofs.Common.{◌≡◌, ◌≢◌, ℕ, suc, ◌+◌, ◌-◌, ◌<◌, true, ◌&&◌, List, length, Some, None, inl, inr, refl, ap, sym, ◌∙◌, arith, slice_index, ◌==◌, Contains, and_parts, cases_Bool, eqb-true, false≢true, lt-ltb, Words, word_at, address_of, IsText, Slot, NoSlot, State, act, run, IsValid, transfers, EdgeKind, Blocks, blocks_of, holding_of, Entered, entered_of, runs_slot, instr_at as word_instr, Node, Block, Landed, X, home_of, IsNodeIn, Open, jumps_in, Graph, directed, graph_of, is_compared, node_of, point_of, way_of, same_kind, AreOpen, BeginsAt, FetchesOnly, Matches, MatchesBy, IsCut, cut, block, within, IsWord, word_at-address, node_is, goes_act, home_directed, home_of_node, Each, same_kinds, ComesFromCompare, HasPassed, IsOpenSwitch, HoldsText, to_branch, list_any, eq-eqb, steps_to, last_word, transfer_ends, opens_of, switches_of, Bool}
use Rattle.switch_runs.proofs.Blocks.{transfer_at}
use Rattle.cfg_walk.specs.Walk.{instr_at}
use Rattle.switch_runs.proofs.Steps.{carries_out, comes_to}
use Rattle.switch_runs.proofs.About.{about}
use Rattle.switch_runs.proofs.Opened.{are_open, open_found, opens_are, opens_are_one}

-- So many steps before moment n the run stood at the comparison.
pub record HasCompared (text : Words) (o : Open) (s0 : State) (n steps : ℕ) : Type 0 where
  pub moment : ℕ
  pub ago : n ≡ moment + steps
  pub compares : (run s0 moment).pc ≡ address_of text o.approach.compare.word

-- one of them passes
pub any_of : (xs : List Open) (o : Open) (p : Open → Bool) → Contains xs o → p o ≡ true → list_any p xs ≡ true
any_of xs o p (k, l, e) h = list_any_at p xs k o l (ap p e ∙ h)

-- The same comparison is so many steps before another moment.
abbrev pub moved : {text : Words} {o : Open} {cond : ℕ} {s0 : State} {n steps : ℕ} → HasPassed text o cond s0 n steps
    → (m more : ℕ) → m + steps ≡ n + more → HasPassed text o cond s0 m more
moved p m more e = record { moment = p.moment; ago = omega (arith, p.ago, e); compares = p.compares; goes = p.goes }

abbrev pub block_number : Node → ℕ
block_number (Block k) = k.0
block_number (Landed k) = k.0
block_number X = 0

-- where an edge leads to the block itself of a jump, it is that of the comparison
compared_edge : (opens : List Open) (from : Node) (kind : EdgeKind) (to : Node) (k : ℕ)
    → directed opens from kind to ≡ block k → jumps_in opens k ≡ true → is_compared opens from kind k ≡ true
compared_edge opens from kind (Block to) k e jumps = grind arith
compared_edge opens from kind _ k e jumps = absurd (cc)

-- a run of a program from its entry, with these open switches
pub record IsRun (text : Words) (given : List ℕ) (entry : ℕ) (opens : List Open) (s0 : State) : Type 0 where
  pub is_text : IsText text
  pub valid : IsValid s0
  pub fetches : FetchesOnly text s0
  pub holds : HoldsText text s0.memory
  pub begins : BeginsAt text entry s0
  pub all : Each (IsOpenSwitch text (entered_of text given) entry) opens

pub run_of : (text : Words) (given : List ℕ) (entry : ℕ) (s0 : State) → IsText text → IsValid s0 → FetchesOnly text s0
    → HoldsText text s0.memory → BeginsAt text entry s0
    → let list = entered_of text given in
    IsRun text given entry (opens_of text list (switches_of text list entry)) s0
run_of text given entry s0 is valid fetches holds begins = assumption (opens_are text given entry is)

module _ {text : Words} {given : List ℕ} {entry : ℕ} {opens : List Open} {s0 : State}
    (r : IsRun text given entry opens s0) where
  abbrev pub list : Entered
  list = entered_of text given

  abbrev pub b : Blocks
  b = blocks_of text given

  abbrev pub graph : Graph
  graph = graph_of b opens

  pub parts : IsCut text b
  parts = cut text given r.is_text.some

  pub opened : AreOpen b opens
  unfolding entered_of
  opened = are_open text list entry opens r.all

  abbrev pub OfOpens : ((o : Open) → IsOpenSwitch text list entry o → Type 0) → Type 0
  OfOpens P = (o : Open) → Contains opens o → (is : IsOpenSwitch text list entry o) → P o is

  -- the jump's block of an open switch is one of those where jumps go by case
  pub jumps_of : (o : Open) → Contains opens o → jumps_in opens o.block ≡ true
  jumps_of o among = any_of opens o (λ (x : Open). x.block == o.block) among (eq-eqb o.block o.block refl)

  -- ---- what is known of the walk at a moment

  -- behind the comparison
  abbrev pub Compared : ℕ → Node → Type 0
  Compared n node = OfOpens (λ o is.
      node ≡ block o.switch.compare.0 → (w : ℕ) → word_at text (run s0 n).pc ≡ Some w → o.approach.compare.word < w
      → HasCompared text o s0 n (w - o.approach.compare.word))

  -- in the slot of its branch
  abbrev pub Passing : ℕ → Node → EdgeKind → Type 0
  Passing n node way = OfOpens (λ o is.
      node ≡ block o.switch.compare.0 → way ≡ o.way
      → HasPassed text o is.cond s0 n (to_branch o.approach + 1) × (runs_slot is.annul o.way ≡ true))

  -- in the jump's block
  abbrev pub Passed : ℕ → Node → Type 0
  Passed n node = OfOpens (λ o is.
      node ≡ block o.block → (w : ℕ) → word_at text (run s0 n).pc ≡ Some w
      → HasPassed text o is.cond s0 n (steps_to o w))

  abbrev pub Knows : ℕ → Node → Type 0
  Knows n node = Compared n node × Passed n node

  abbrev pub KnownBy : ℕ → Node → Slot → Type 0
  KnownBy n node NoSlot = Knows n node
  KnownBy n node slot = Passing n node (way_of (instr_at text ((run s0 n).pc - 4)) slot)

  pub record Tells (n : ℕ) (node : Node) : Type 0 where
    pub matches : Matches text graph node (point_of (run s0 n))
    pub inside : IsNodeIn b opens node
    pub known : KnownBy n node (run s0 n).slot

  pub comes_from : (n : ℕ) (node : Node) → Passed n node → (k : ℕ) → node ≡ block k → jumps_in opens k ≡ true → (w : ℕ)
      → word_at text (run s0 n).pc ≡ Some w → ComesFromCompare text list entry opens s0 n k w
  comes_from n node passed k there jumps w at =
      let o = open_found text list entry opens r.all (λ (o : Open). o.block == k) jumps in
      let same = eqb-true o.0.block k o.2 in
      record {
        switch = o.0;
        among = o.1;
        is = o.3;
        block_is = same;
        passed = passed o.0 o.1 o.3 (there ∙ ap block (sym same)) w at;
      }

  -- ---- where the walk comes to the first word of a block

  -- the word is the first of the block that holds it
  abbrev pub IsHead : ℕ → Type 0
  IsHead w = slice_index b.firsts (holding_of b w) ≡ w

  -- the run is at such a word, or outside
  abbrev pub AtHead : ℕ → Type 0
  AtHead n = (w : ℕ) → word_at text (run s0 n).pc ≡ Some w → (w < b.words) × IsHead w

  pub begins_block : (n w k : ℕ) (node : Node) → home_of node ≡ node_of b (word_at text (run s0 n).pc) → AtHead n
      → word_at text (run s0 n).pc ≡ Some w → node ≡ block k → slice_index b.firsts k ≡ w
  begins_block n w k node home first at there =
      let low = first w at in
      let held : k ≡ holding_of b w =
      ap block_number (sym (ap home_of there) ∙ home ∙ ap (node_of b) at ∙ node_is b w low.0) in
      ap (slice_index b.firsts) held ∙ low.1

  pub heads : (n : ℕ) (node : Node) → home_of node ≡ node_of b (word_at text (run s0 n).pc) → AtHead n
      → OfOpens (λ o is.
      node ≡ block o.block → HasPassed text o is.cond s0 n (to_branch o.approach + 1 + o.approach.slot)) → Knows n node
  heads n node home first passed = (
    λ o among is there w at behind.
        let above = (about text given entry r.is_text o is).above in
        let begins = begins_block n w o.switch.compare.0 node home first at there in
        absurd (omega arith),
    λ o among is there w at.
        let begins = begins_block n w o.block node home first at there in
        moved (passed o among is there) n (steps_to o w)
        (omega (arith, (about text given entry r.is_text o is).first, begins)),
  )

  -- an edge into the jump's block itself leaves the comparison's block by the way to the jump
  way_of_open : (o : Open) → IsOpenSwitch text list entry o → (from : Node) (kind : EdgeKind)
      → is_compared opens from kind o.block ≡ true → (from ≡ block o.switch.compare.0) × (kind ≡ o.way)
  way_of_open o is (Block c) kind h =
      let f = open_found text list entry opens r.all
      (λ (x : Open). (x.block == o.block) && (x.switch.compare.0 == c.0) && same_kind kind x.way) h in
      let one = and_parts ((f.0.block == o.block) && (f.0.switch.compare.0 == c.0)) (same_kind kind f.0.way) f.2 in
      let two = and_parts (f.0.block == o.block) (f.0.switch.compare.0 == c.0) one.0 in
      let same : f.0 ≡ o = opens_are_one text list entry f.0 o f.3 is (eqb-true f.0.block o.block two.0) in
      let from : c.0 ≡ o.switch.compare.0 = cc (eqb-true f.0.switch.compare.0 c.0 two.1, same) in
      (ap block from, cc (same_kinds kind f.0.way one.1, same))
  way_of_open o is _ kind h = absurd (false≢true h)

  -- at the end of an edge
  pub heads_along : (n : ℕ) (node from : Node) (kind : EdgeKind)
      → node ≡ directed opens from kind (node_of b (word_at text (run s0 n).pc)) → AtHead n
      → OfOpens (λ o is.
      from ≡ block o.switch.compare.0 → kind ≡ o.way
      → HasPassed text o is.cond s0 n (to_branch o.approach + 1 + o.approach.slot)) → Knows n node
  heads_along n node from kind is first passed =
      let to : Node = node_of b (word_at text (run s0 n).pc) in
      heads n node (ap home_of is ∙ home_directed opens from kind to ∙ home_of_node b (word_at text (run s0 n).pc))
      first (λ o among f there.
      let way = way_of_open o f from kind
      (compared_edge opens from kind to o.block (sym is ∙ there) (jumps_of o among)) in
      passed o among f way.0 way.1)

  -- ---- a step carries out a word of the text

  pub record Carries (n : ℕ) : Type 0 where
    pub word : ℕ
    pub is : IsWord text (run s0 n).pc word
    pub low : word < b.words
    pub at : word_at text (run s0 n).pc ≡ Some word
    pub acts : run s0 (suc n) ≡ act (run s0 n) (word_instr text word)
    pub acted : (act (run s0 n) (word_instr text word)).ending ≡ None

  pub carried : (n : ℕ) → (run s0 (suc n)).ending ≡ None → Carries n
  carried n live =
      let here = comes_to text r.is_text s0 r.fetches n live in
      let acts = carries_out text r.is_text s0 r.fetches n here.0 here.1.is live in
      record {
        word = here.0;
        is = here.1;
        low = omega (arith, here.1.within, parts.words);
        at = cc (here.1.is, word_at-address text here.0, within_is here.0 here.1.within);
        acts = acts;
        acted = ap (λ (t : State). t.ending) (sym acts) ∙ live;
      }
    where
      within_is : (w : ℕ) → w < length text.words → within (length text.words) w ≡ Some w
      within_is w l = rw (lt-ltb _ _ l)

  pub known_outside : (n : ℕ) (node : Node) → Tells n node → (run s0 n).slot ≡ NoSlot → Knows n node
  known_outside n node h slot = rw slot at h.known

  -- a step that sets a slot carries out a transfer
  pub sets_transfer : (n : ℕ) (c : Carries n) → (run s0 (suc n)).slot ≢ NoSlot
      → transfers (word_instr text c.word) ≡ true
  sets_transfer n c sets = elim (cases_Bool (transfers (word_instr text c.word))) [
    | inl e ↦ e
    | inr e ↦ absurd (sets (cc (c.acts, (goes_act (run s0 n) (word_instr text c.word) e c.acted).2)))
  ]

  -- ---- outside slots

  pub record Outside (n : ℕ) (node : Node) : Type 0 where
    pub on : Carries n
    pub slot : (run s0 n).slot ≡ NoSlot
    pub matched : MatchesBy text graph node (point_of (run s0 n)) NoSlot
    pub inside : IsNodeIn b opens node
    pub known : Knows n node
    pub home : home_of node ≡ block (holding_of b on.word)

  pub outside : (n : ℕ) (node : Node) → Tells n node → (run s0 (suc n)).ending ≡ None → (run s0 n).slot ≡ NoSlot
      → Outside n node
  outside n node h live slot =
      let c = carried n live in
      let matched : MatchesBy text graph node (point_of (run s0 n)) NoSlot = rw slot at h.matches in
      record {
        on = c;
        slot = slot;
        matched = matched;
        inside = h.inside;
        known = known_outside n node h slot;
        home = matched.0 ∙ ap (node_of b) c.at ∙ node_is b c.word c.low;
      }

  -- the node's block holds the word, and a transfer is its last
  pub holds_word : (n : ℕ) (node : Node) (out : Outside n node) (k : ℕ) → node ≡ block k → holding_of b out.on.word ≡ k
  holds_word n node out k there = ap block_number (sym out.home ∙ ap home_of there)

  pub ends_block : (n : ℕ) (node : Node) (out : Outside n node) → transfers (word_instr text out.on.word) ≡ true
      → (k : ℕ) → node ≡ block k → out.on.word ≡ last_word b.firsts b.words k
  ends_block n node out t k there =
      transfer_ends text b opens parts out.on.word out.on.low (transfer_at text out.on.word t)
      ∙ ap (last_word b.firsts b.words) (holds_word n node out k there)
