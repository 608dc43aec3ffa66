-- The places of words and nodes: each has its own.
use Rattle.liveness.proofs.Common.{◌≡◌, ℕ, zero, suc, ◌+◌, ◌-◌, ◌*◌, ◌<◌, ◌≤◌, inl, inr, Bool, true, false, List, length, slice_index, refl, ap, sym, ◌∙◌, arith, ◌||◌, if◌then◌else◌, Some, cases_order, cases_lt, false_from_ne_true, false≢true, lt-ltb, le-ltb, AreFirsts, block_end, size_of, holding_of, Graph, lands, IsNodeIn, node_number, Open, is_behind, is_copied, jumps_in, Node, Block, Landed, X, Holds, HoldsIn, is_outside, IsInside, IsOf, copies_from, first_in, last_in, nodes_from, place_of}
use Rattle.cfg_normal.proofs.GraphFacts.{copied_where}
use Rattle.liveness.proofs.Held.{ends_within, is_held, same_number, some_words, start_after, start_is, start_of}

at_most : (b : Bool) (n : ℕ) → (if b then n else 0) ≤ n
at_most true n = omega arith
at_most false n = omega arith

-- no word of a block without a copy stands behind a comparison
uncopied : (opens : List Open) (b w : ℕ) → is_copied opens b ≡ false
    → (jumps_in opens b || is_behind opens b w) ≡ false
uncopied opens b w h = false_from_ne_true _ (λ there. false≢true (sym h ∙ copied_where opens b w there))

start_next : (words : ℕ) (firsts : List ℕ) (i : ℕ) → start_of words firsts (suc i) ≡ block_end firsts words i
start_next words firsts i = refl

pub start_within : (words : ℕ) (firsts : List ℕ) → AreFirsts words firsts → (i : ℕ) → start_of words firsts i ≤ words
start_within words firsts f i = elim (cases_lt i (length firsts)) [
  | inl l ↦ omega (arith, start_is words firsts i l, f.within i l)
  | inr m ↦ rw (le-ltb i (length firsts) m) (omega arith)
]

pub start_last : (words : ℕ) (firsts : List ℕ) → start_of words firsts (length firsts) ≡ words
start_last words firsts = rw (le-ltb (length firsts) (length firsts) (omega arith)) refl

module _ (graph : Graph) (f : AreFirsts graph.blocks.words graph.blocks.firsts) where
  -- ---- loops over blocks, which come to two more for each word at most

  abbrev pub words_before : ℕ → ℕ
  words_before block = start_of graph.blocks.words graph.blocks.firsts block

  pub few_next : (from before after block : ℕ) → block < length graph.blocks.firsts
      → before ≤ from + 2 * words_before block
      → after + 2 * first_in graph (Block (record { 0 = block }))
      ≤ before + 2 * (last_in graph (Block (record { 0 = block })) + 1) → after ≤ from + 2 * words_before (block + 1)
  few_next from before after block low few more =
      omega (
        arith,
        start_is graph.blocks.words graph.blocks.firsts block low,
        start_after graph.blocks.words graph.blocks.firsts block,
        some_words graph.blocks.words graph.blocks.firsts f block low,
        few,
        more,
      )

  pub few_all : (from after block : ℕ) → block ≡ length graph.blocks.firsts → after ≤ from + 2 * words_before block
      → after ≤ from + 2 * graph.blocks.words
  few_all from after block end few =
      omega (arith, few, ap words_before end, start_last graph.blocks.words graph.blocks.firsts)

  -- ---- a node's words

  pub of_held : (node : Node) (w : ℕ) → Holds graph node w → IsOf graph node w
  of_held (Block b) w h = record { inside = h.0; first = h.1; last = omega (arith, h.2) }
  of_held (Landed b) w h = record { inside = (h.1.0, h.0); first = h.1.1; last = omega (arith, h.1.2) }
  of_held X w h = absurd h

  pub held_of : (node : Node) (w : ℕ) → IsOf graph node w → Holds graph node w
  held_of (Block b) w h =
      let some = some_words graph.blocks.words graph.blocks.firsts f b.0 h.inside in
      (h.inside, h.first, omega (arith, h.last))
  held_of (Landed b) w h =
      let some = some_words graph.blocks.words graph.blocks.firsts f b.0 h.inside.0 in
      (h.inside.1, (h.inside.0, h.first, omega (arith, h.last)))
  held_of X w h = absurd h.inside

  pub held_inside : (node : Node) (w : ℕ) → Holds graph node w → IsInside graph node
  held_inside node w h = (of_held node w h).inside

  pub first_last : (node : Node) → IsInside graph node → first_in graph node ≤ last_in graph node
  first_last (Block b) h = omega (arith, some_words graph.blocks.words graph.blocks.firsts f b.0 h)
  first_last (Landed b) h = omega (arith, some_words graph.blocks.words graph.blocks.firsts f b.0 h.0)
  first_last X h = absurd h

  pub first_held : (node : Node) → IsInside graph node → Holds graph node (first_in graph node)
  first_held node h = held_of node _ (record { inside = h; first = omega arith; last = first_last node h })

  pub last_held : (node : Node) → IsInside graph node → Holds graph node (last_in graph node)
  last_held node h = held_of node _ (record { inside = h; first = first_last node h; last = omega arith })

  -- a word of a node is one of the text
  pub held_within : (node : Node) (w : ℕ) → Holds graph node w → w < graph.blocks.words
  held_within (Block b) w h = omega (arith, ends_within graph.blocks.words graph.blocks.firsts f b.0 h.0, h.2)
  held_within (Landed b) w h = omega (arith, ends_within graph.blocks.words graph.blocks.firsts f b.0 h.1.0, h.1.2)
  held_within X w h = absurd h

  -- ---- where copies stand

  pub copies_low : (b : ℕ) → graph.blocks.words ≤ copies_from graph b
  copies_low zero = omega arith
  copies_low (suc b) = omega (arith, copies_low b)

  copies_next : (b : ℕ) → copies_from graph b ≤ copies_from graph (suc b)
  copies_next b = omega arith

  copies_grow : (i j : ℕ) → i ≤ j → copies_from graph i ≤ copies_from graph j
  copies_grow i zero l = let none : i ≡ 0 = omega arith in omega (arith, ap (copies_from graph) none)
  copies_grow i (suc j) l = elim (cases_lt i (suc j)) [
    | inl less ↦ omega (arith, copies_grow i j (omega arith), copies_next j)
    | inr more ↦ let same : i ≡ suc j = omega arith in omega (arith, ap (copies_from graph) same)
  ]

  -- one copy's words end where the next one's begin
  copy_ends : (b : ℕ) → is_copied graph.opens b ≡ true
      → copies_from graph b + size_of graph.blocks b ≡ copies_from graph (suc b)
  copy_ends b h = rw h refl

  pub copies_high : (b : ℕ) → b ≤ length graph.blocks.firsts
      → copies_from graph b ≤ graph.blocks.words + start_of graph.blocks.words graph.blocks.firsts b
  copies_high zero l = omega arith
  copies_high (suc b) l =
      let more = at_most (is_copied graph.opens b) (size_of graph.blocks b) in
      let here = start_is graph.blocks.words graph.blocks.firsts b l in
      let some = some_words graph.blocks.words graph.blocks.firsts f b l in
      omega (arith, copies_high b (omega arith), start_next graph.blocks.words graph.blocks.firsts b)

  pub nodes_high : nodes_from graph ≤ 2 * graph.blocks.words
  nodes_high =
      omega (
        arith,
        copies_high (length graph.blocks.firsts) (omega arith),
        start_last graph.blocks.words graph.blocks.firsts,
      )

  -- ---- the places of words

  copy_below : (b : ℕ) → b < length graph.blocks.firsts → is_copied graph.opens b ≡ true → (w : ℕ)
      → slice_index graph.blocks.firsts b ≤ w → w < block_end graph.blocks.firsts graph.blocks.words b
      → copies_from graph b + (w - slice_index graph.blocks.firsts b) < copies_from graph (suc b)
  copy_below b l h w above below = omega (arith, copy_ends b h)

  pub place_within : (node : Node) (w : ℕ) → Holds graph node w → place_of graph node w < nodes_from graph
  place_within (Block b) w h = omega (arith, held_within (Block b) w h, copies_low (length graph.blocks.firsts))
  place_within (Landed b) w h =
      omega (
        arith,
        copy_below b.0 h.1.0 h.0 w h.1.1 h.1.2,
        copies_grow (suc b.0) (length graph.blocks.firsts) h.1.0,
      )
  place_within X w h = absurd h

  -- the words of copies stand behind the text's
  pub place_behind : (b : ℕ) (w : ℕ) → graph.blocks.words ≤ place_of graph (Landed (record { 0 = b })) w
  place_behind b w = omega (arith, copies_low b)

  same_copy : (a b w v : ℕ) → a < length graph.blocks.firsts → b < length graph.blocks.firsts
      → is_copied graph.opens a ≡ true → is_copied graph.opens b ≡ true
      → slice_index graph.blocks.firsts a ≤ w → w < block_end graph.blocks.firsts graph.blocks.words a
      → slice_index graph.blocks.firsts b ≤ v → v < block_end graph.blocks.firsts graph.blocks.words b
      → copies_from graph a + (w - slice_index graph.blocks.firsts a)
      ≡ copies_from graph b + (v - slice_index graph.blocks.firsts b) → (a ≡ b) × (w ≡ v)
  same_copy a b w v la lb ca cb aw bw av bv e = elim (cases_order a b) [
    | inl same ↦ (
      same,
      omega (arith, ap (copies_from graph) same, ap (λ k. slice_index graph.blocks.firsts k) same, e, aw, av),
    )
    | inr o ↦ elim o [
      | inl less ↦ absurd (omega (arith, copy_below a la ca w aw bw, copies_grow (suc a) b less, e))
      | inr more ↦ absurd (omega (arith, copy_below b lb cb v av bv, copies_grow (suc b) a more, e))
    ]
  ]

  -- each word of a node has its own
  pub place_once : (one other : Node) (w v : ℕ) → Holds graph one w → Holds graph other v
      → place_of graph one w ≡ place_of graph other v → (one ≡ other) × (w ≡ v)
  place_once (Block a) (Block b) w v h k e =
      let below : w < block_end graph.blocks.firsts graph.blocks.words b.0 = omega (arith, e, k.2) in (
        ap (λ n. Block (record { 0 = n }))
            (same_number graph.blocks.words graph.blocks.firsts f a.0 b.0 w h.0 k.0 h.1 h.2 (omega (arith, e, k.1))
            below),
        e,
      )
  place_once (Landed a) (Landed b) w v h k e =
      let same = same_copy a.0 b.0 w v h.1.0 k.1.0 h.0 k.0 h.1.1 h.1.2 k.1.1 k.1.2 e in
      (ap (λ n. Landed (record { 0 = n })) same.0, same.1)
  place_once (Block a) (Landed b) w v h k e = absurd (omega (arith, held_within (Block a) w h, place_behind b.0 v, e))
  place_once (Landed a) (Block b) w v h k e = absurd (omega (arith, held_within (Block b) v k, place_behind a.0 w, e))
  place_once X other w v h k e = absurd h
  place_once _ X w v h k e = absurd k

  -- ---- nodes by numbers

  pub number_once : (one other : Node) → IsInside graph one → IsInside graph other
      → node_number graph one ≡ node_number graph other → one ≡ other
  number_once (Block a) (Block b) h k e = ap (λ n. Block (record { 0 = n })) e
  number_once (Landed a) (Landed b) h k e =
      let same : a.0 ≡ b.0 = omega (arith, e) in
      ap (λ n. Landed (record { 0 = n })) same
  number_once (Block a) (Landed b) h k e = absurd (omega (arith, e))
  number_once (Landed a) (Block b) h k e = absurd (omega (arith, e))
  number_once X other h k e = absurd h
  number_once _ X h k e = absurd k

  pub inside_of : (node : Node) → IsNodeIn graph.blocks graph.opens node → is_outside node ≡ false
      → IsInside graph node
  inside_of X h o = absurd (false≢true (sym o))
  inside_of _ h o = h

  pub node_in : (node : Node) → IsInside graph node → IsNodeIn graph.blocks graph.opens node
  node_in X h = absurd h
  node_in _ h = h

  pub is_inside : (node : Node) → IsInside graph node → is_outside node ≡ false
  is_inside X h = absurd h
  is_inside _ h = refl

  -- control lands in the block itself where it has no copy
  pub lands_plain : (b w : ℕ) → HoldsIn graph b w → is_copied graph.opens b ≡ false
      → lands graph (Some w) ≡ Block (record { 0 = b })
  lands_plain b w h none =
      let held : holding_of graph.blocks w ≡ b = is_held graph.blocks.words graph.blocks.firsts f w b
      (record { within = h.0; above = h.1; below = h.2 }) in
      rw (lt-ltb _ _ (held_within (Block (record { 0 = b })) w h)) (rw held (rw (uncopied graph.opens b w none) refl))
