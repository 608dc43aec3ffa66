-- Where the image of a word at a node stands, and where control enters it.
use Rattle.image_code.proofs.Common.{◌≡◌, ℕ, suc, ◌+◌, ◌-◌, ◌<◌, ◌≤◌, true, false, Bool, Some, None, List, [], ◌∷◌, length, refl, ap, sym, ◌∙◌, arith, subst, inl, inr, if◌then◌else◌, ◌==◌, nat_lt, slice_get, slice_index, list_any, find, cases_Bool, cases_eq, eq-eqb, eqb-true, ne_eqb, le-ltb, nat_tests, Words, Blocks, block_end, holding_of, size_of, Node, Block, Landed, X, home_of, IsNodeIn, IsIn, Open, jumps_in, Graph, graph_of, block, copy, compares_in, in_held, or-false, load_of, open_begin, image, jumps_at, shape_list, shape_of}
use Rattle.cfg_normal.specs.Code.{jump_number}
use Rattle.image_code.specs.Labels.{Image, Label, Save, entering, enter_number, image_number, number_of, node_in_order, piece_labels, switch_at}
use Rattle.image_code.proofs.Listed.{compare_stands, image_stands, jump_of, load_stands, number_is, ordered_stands, save_stands, shape_at}
use Rattle.image_code.proofs.OpenBlocks.{IsTextGraph}
use Rattle.image_code.proofs.Positions.{StandsIn, placed}

-- the open switch whose jump ends the block
pub jump_numbered : (text : Words) (b : Blocks) (opens : List Open) (k : ℕ) → jumps_in opens k ≡ true
    → (j : ℕ) × (o : Open) × (jump_number opens o.block ≡ Some j) × (slice_get opens j ≡ Some o)
    × (o.block ≡ k)
jump_numbered text b opens k e =
    let found = placed (λ (o : Open). o.block == k) opens e in
    let same : found.item.block ≡ k = eqb-true found.item.block k found.passes in
    (found.number, found.item, rw same found.at, found.is, same)

-- none that passes is found
pub not_found : {A : Type 0} (p : A → Bool) (xs : List A) → list_any p xs ≡ false → find p xs ≡ None
not_found p [] none = refl
not_found p (x ∷ xs) none = grind (arith, nat_tests, not_found p xs)

module _ (text : Words) (graph : Graph) (g : IsTextGraph text graph) where
  abbrev b : Blocks
  b = graph.blocks

  abbrev all : List Label
  all = piece_labels text graph

  -- a block of no open switch's jump has none, and saves no address
  pub not_switched : (k : ℕ) → jumps_in graph.opens k ≡ false → switch_at text graph k ≡ None
  not_switched k none = not_found (λ (o : Open). o.block == k) graph.opens none

  pub unsaved : (k word : ℕ) → jumps_in graph.opens k ≡ false → entering text graph (block k) word ≡ Image (block k) word
  unsaved k word none = rw (not_switched k none)

  -- the open switch whose comparison stands in the block
  pub compare_numbered : (k : ℕ) → compares_in graph.opens k ≡ true
      → (j : ℕ) × (o : Open) × (slice_get graph.opens j ≡ Some o) × (o.switch.compare.0 ≡ k)
  compare_numbered k e =
      let found = placed (λ (o : Open). o.switch.compare.0 == k) graph.opens e in
      (found.number, found.item, found.is, eqb-true found.item.switch.compare.0 k found.passes)

  -- the one that is found is the one there is
  pub switch_found : (k : ℕ) (o : Open) → slice_get graph.opens k ≡ Some o → switch_at text graph o.block ≡ Some o
  switch_found k o e =
      let found = placed (λ (q : Open). q.block == o.block) graph.opens (jump_of graph.opens k o e) in
      let same : found.item.block ≡ o.block = eqb-true found.item.block o.block found.passes in
      let before = λ (l : found.number < k). g.apart found.number k found.item o l found.is e same in
      let after = λ (l : k < found.number). g.apart k found.number o found.item l e found.is (sym same) in
      let here : found.number ≡ k = omega (arith, before, after) in
      found.first ∙ sym found.is ∙ rw here e

  -- the address of the load is saved, and no other word's
  pub comes : (k : ℕ) (o : Open) → slice_get graph.opens k ≡ Some o → (word : ℕ) (t : Bool)
      → (word == load_of text o) ≡ t
      → entering text graph (block o.block) word ≡ (if t then Save o.block word else Image (block o.block) word)
  comes k o e word t is = rw (switch_found k o e, is)

  -- at an open switch
  module _ (k : ℕ) (o : Open) (e : slice_get graph.opens k ≡ Some o) (word : ℕ)
      (above : slice_index b.firsts o.block ≤ word) (below : word < block_end b.firsts b.words o.block) where
    abbrev load : ℕ
    load = load_of text o

    pub entry_stands : StandsIn all (entering text graph (block o.block) word) (open_begin text graph k
        + size_of b o.switch.compare.0 + (word - slice_index b.firsts o.block) + (if nat_lt load word then 1 else 0))
    entry_stands = elim (cases_eq word load) [
      | inl same ↦
          rw (comes k o e word true (eq-eqb word load same), same, le-ltb load load (omega arith))
          (subst (StandsIn all (Save o.block load)) (omega arith) (save_stands text graph g k o e))
      | inr other ↦
          rw (comes k o e word false (ne_eqb word load other)) (subst (StandsIn all (Image (block o.block) word))
          (let same : ◌≡◌ {A = ℕ} (if nat_lt word load then 0 else 1) (if nat_lt load word then 1 else 0) = grind (arith, nat_tests) in
          omega (arith, same)) (image_stands text graph g k o e word above (omega (arith, below, above))))
    ]

  -- the load's image follows what saves its address
  pub saved_follows : (k : ℕ) (o : Open) (e : slice_get graph.opens k ≡ Some o)
      → suc (number_of text graph (Save o.block (load_of text o))) ≡ image_number text graph (block o.block) (load_of text o)
  saved_follows k o e =
      let saved = number_is text graph g _ _ (save_stands text graph g k o e) in
      omega (arith, saved, number_is text graph g _ _ (load_stands text graph g k o e))

  -- the nodes of a word's block
  pub data HasImage (node : Node) (word : ℕ) : Type 0 where
    in_order : node ≡ node_in_order graph word → entering text graph node word ≡ Image node word → HasImage node word
    at_jump : (k : ℕ) (o : Open) → slice_get graph.opens k ≡ Some o → node ≡ block o.block
        → holding_of b word ≡ o.block → HasImage node word
    at_compare : (k : ℕ) (o : Open) → slice_get graph.opens k ≡ Some o → node ≡ copy o.switch.compare.0
        → holding_of b word ≡ o.switch.compare.0 → HasImage node word

  pub has_image : (node : Node) (word : ℕ) → home_of node ≡ block (holding_of b word)
      → IsNodeIn b graph.opens node → HasImage node word
  has_image (Block k) word home there =
      let same : k.0 ≡ holding_of b word = cc in
      elim (cases_Bool (jumps_in graph.opens k.0)) as (λ _. HasImage (Block k) word) [
        | inl e ↦
            let found = jump_numbered text b graph.opens k.0 e in
            at_jump found.0 found.1 found.3 (ap block (sym found.4)) (sym same ∙ sym found.4)
        | inr e ↦ in_order (rw (← same, e)) (unsaved k.0 word e)
      ]
  has_image (Landed k) word home there =
      let same : k.0 ≡ holding_of b word = cc in
      elim (cases_Bool (compares_in graph.opens k.0)) as (λ _. HasImage (Landed k) word) [
        | inl e ↦
            let found = compare_numbered k.0 e in
            at_compare found.0 found.1 found.2 (ap copy (sym found.3)) (sym same ∙ sym found.3)
        | inr e ↦ in_order (rw (← same, rw (e, or-false) at there.1)) refl
      ]
  has_image X word home there = absurd (cc)

  -- in the order of the text control comes to the image itself
  pub ordered_enters : (word : ℕ) → entering text graph (node_in_order graph word) word ≡ Image (node_in_order graph word) word
  ordered_enters word = grind (arith, unsaved)

  in_block : (word : ℕ) → word < length text.words → (k : ℕ) → holding_of b word ≡ k → IsIn b.words b.firsts word k
  in_block word low k held =
      rw (← held) (in_held b.words b.firsts g.cut.firsts word (omega (arith, low, g.cut.words)))

  -- where both stand
  pub listed : (node : Node) (word : ℕ) → word < length text.words → HasImage node word
      → (image : ℕ) × (enter : ℕ) × StandsIn all (Image node word) image × StandsIn all (entering text graph node word) enter
  listed node word low (in_order same enters) =
      let stands : StandsIn all (Image node word) word = rw same (ordered_stands text graph g word low) in
      (word, word, stands, rw enters stands)
  listed node word low (at_jump k o e here held) =
      let inside = in_block word low o.block held in
      let image = image_stands text graph g k o e word inside.above (omega (arith, inside.above, inside.below)) in
      rw here (_, _, image, entry_stands k o e word inside.above inside.below)
  listed node word low (at_compare k o e here held) =
      let inside = in_block word low o.switch.compare.0 held in
      let stands = compare_stands text graph g k o e word inside.above (omega (arith, inside.above, inside.below)) in
      rw here (_, _, stands, stands)

  module _ (table cases : ℕ) (node : Node) (word : ℕ) (low : word < length text.words) (has : HasImage node word) where
    pub image_at : slice_get (shape_list text graph table cases) (image_number text graph node word)
        ≡ Some (image text graph (jumps_at text table) cases node word)
    image_at = shape_at text graph g table cases (Image node word) _ (listed node word low has).2

    -- where control enters stands some piece
    pub enter_at : slice_get (shape_list text graph table cases) (enter_number text graph node word)
        ≡ Some (shape_of text graph table cases (entering text graph node word))
    enter_at = shape_at text graph g table cases (entering text graph node word) _ (listed node word low has).3

  -- ---- within a block the pieces follow each other

  pub jump_follows : (k : ℕ) (o : Open) (e : slice_get graph.opens k ≡ Some o) (word : ℕ)
      → slice_index b.firsts o.block ≤ word → word + 1 < block_end b.firsts b.words o.block
      → enter_number text graph (block o.block) (word + 1) ≡ suc (image_number text graph (block o.block) word)
  jump_follows k o e word above below =
      let load = load_of text o in
      let next = number_is text graph g _ _ (entry_stands k o e (word + 1) (omega (arith, above)) below) in
      let here =
      number_is text graph g _ _ (image_stands text graph g k o e word above (omega (arith, below, above))) in
      let step : ◌≡◌ {A = ℕ} (if nat_lt load (word + 1) then 1 else 0) (if nat_lt word load then 0 else 1) = grind (arith, nat_tests) in
      omega (arith, next, here, step, above)

  pub compare_follows : (k : ℕ) (o : Open) (e : slice_get graph.opens k ≡ Some o) (word : ℕ)
      → slice_index b.firsts o.switch.compare.0 ≤ word → word + 1 < block_end b.firsts b.words o.switch.compare.0
      → enter_number text graph (copy o.switch.compare.0) (word + 1)
      ≡ suc (image_number text graph (copy o.switch.compare.0) word)
  compare_follows k o e word above below =
      let next = number_is text graph g _ _ (compare_stands text graph g k o e (word + 1) (omega (arith, above))
      (omega (arith, below, above))) in
      let here = number_is text graph g _ _ (compare_stands text graph g k o e word above (omega (arith, below, above))) in
      omega (arith, next, here, above)
