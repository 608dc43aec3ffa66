-- Where the label of each piece stands, and so which piece has which number.
use Rattle.image_code.proofs.Common.{[], cases_lt, le-ltb, lt-ltb, false_from_ne_true, and-false, get_or, slice_get-get_or, slice_get_within, ◌≡◌, ℕ, suc, ◌+◌, ◌-◌, ◌<◌, ◌≤◌, true, false, ◌&&◌, Some, List, ◌∷◌, ◌++◌, length, map, length-append, refl, ap, sym, ◌∙◌, arith, inl, inr, ◌==◌, if◌then◌else◌, nat_lt, slice_get, slice_index, flat_map, eqb-true, eq-eqb, false≢true, ne_eqb, length-map, length-range_with_len, slice_get-map, range_with_len, Words, Blocks, below, size_of, length-below, Node, Open, jumps_in, Graph, same_node, same_itself, block, copy, take-length, each_at, some_words, same_Some, load_of, open_begin, pieces_of, shape_list, shape_of, nat_tests, enumerate_from, length-enumerate_from, sum_by, take}
use Rattle.cfg_normal.specs.Code.{edges_but_landings}
use Rattle.image_code.specs.Labels.{or_zero, Label, Case, Foreign, Image, Landing, Save, Way, entry_label, entry_labels, first_entry, labels_in_order, node_in_order, number_of, piece_labels, place_in, same_label, switch_labels}
use Rattle.image_code.proofs.OpenBlocks.{IsSwitchIn, IsTextGraph}
use Rattle.image_code.proofs.Positions.{IsNew, Sized, StandsIn, any_at, before, behind, flat_count, news, past_range, numbered_get, placed, stands_at, stands_below, stands_in_all, stands_in_range}

ruleset lengths = (length-append, length-map, length-below, length-range_with_len)

-- where a word first stands among the targets
pub place_is : (targets : List ℕ) (k word : ℕ) → slice_get targets k ≡ Some word
    → slice_get targets (place_in targets word) ≡ Some word
place_is targets k word e =
    let found = placed (λ (t : ℕ). t == word) targets (any_at _ _ k word e (eq-eqb word word refl)) in
    rw (found.at, found.is, eqb-true found.item word found.passes)

pub jump_of : (opens : List Open) (k : ℕ) (o : Open) → slice_get opens k ≡ Some o → jumps_in opens o.block ≡ true
jump_of opens k o e = any_at (λ (q : Open). q.block == o.block) opens k o e (eq-eqb o.block o.block refl)

module _ (text : Words) (graph : Graph) (g : IsTextGraph text graph) where
  abbrev b : Blocks
  b = graph.blocks

  abbrev all : List Label
  all = piece_labels text graph

  abbrev front : List Label
  front =
      labels_in_order text graph ++ map Way (below (length (edges_but_landings graph)))
      ++ map Landing (below (length text.words))

  abbrev switches : List Label
  switches = flat_map (switch_labels text graph) graph.opens

  abbrev entries : List Label
  entries = flat_map entry_labels graph.opens

  -- ---- open switches

  pub switch_in : (k : ℕ) (o : Open) → slice_get graph.opens k ≡ Some o → IsSwitchIn text b o
  switch_in k o e = each_at _ graph.opens k o g.switches e

  -- two share no comparison
  pub compares_apart : (j k : ℕ) (o p : Open) → j < k → slice_get graph.opens j ≡ Some o → slice_get graph.opens k ≡ Some p
      → o.switch.compare.0 ≡ p.switch.compare.0 → ⊥
  compares_apart j k o p l e d same =
      g.apart j k o p l e d ((switch_in j o e).led ∙ rw same (sym (switch_in k p d).led))

  pub no_jump : (k : ℕ) (o : Open) → slice_get graph.opens k ≡ Some o → jumps_in graph.opens o.switch.compare.0 ≡ false
  no_jump k o e = false_from_ne_true _ (λ is.
      let found = placed (λ (q : Open). q.block == o.switch.compare.0) graph.opens is in
      let same : found.item.block ≡ o.switch.compare.0 = eqb-true found.item.block o.switch.compare.0 found.passes in
      false≢true (sym (switch_in k o e).branch ∙ rw same at (switch_in found.number found.item found.is).jump))

  -- neither of its blocks' own nodes is in the order of the text
  pub copy_apart : (k : ℕ) (o : Open) → slice_get graph.opens k ≡ Some o → (word : ℕ)
      → same_node (copy o.switch.compare.0) (node_in_order graph word) ≡ false
  copy_apart k o e word = grind (arith, nat_tests, no_jump k o e)

  pub block_apart : (k : ℕ) (o : Open) → slice_get graph.opens k ≡ Some o → (word : ℕ)
      → same_node (block o.block) (node_in_order graph word) ≡ false
  block_apart k o e word = grind (arith, nat_tests, jump_of graph.opens k o e)

  -- ---- how long the parts are

  pub record IsLoadIn (o : Open) : Type 0 where
    pub above : slice_index b.firsts o.block ≤ load_of text o
    pub below : load_of text o < slice_index b.firsts o.block + size_of b o.block

  pub load_in : (k : ℕ) (o : Open) → slice_get graph.opens k ≡ Some o → IsLoadIn o
  load_in k o e =
      let s = switch_in k o e in
      omega (arith, s.above, s.below, some_words b.words b.firsts g.cut.firsts o.block s.block_in)

  switches_sized : Sized (switch_labels text graph) (pieces_of graph) graph.opens
  switches_sized k o e =
      let l = load_in k o e in
      simp lengths (omega (arith, l.above, l.below))

  entries_sized : Sized entry_labels (λ (o : Open). length o.targets) graph.opens
  entries_sized k o e = length-map (enumerate_from 0 o.targets) _ ∙ length-enumerate_from 0 o.targets

  switches_count : length switches ≡ sum_by (pieces_of graph) (take (length graph.opens) graph.opens)
  switches_count =
      rw (take-length graph.opens) (flat_count (switch_labels text graph) (pieces_of graph) graph.opens switches_sized)

  entries_count : length entries ≡ first_entry text graph (length graph.opens)
  entries_count =
      rw (take-length graph.opens) (flat_count entry_labels (λ (o : Open). length o.targets) graph.opens entries_sized)

  -- ---- each label

  -- an image at another node than the one in the order of the text
  unordered : (node : Node) (word : ℕ) → same_node node (node_in_order graph word) ≡ false → (w : ℕ)
      → same_label (Image node word) (Image (node_in_order graph w) w) ≡ false
  unordered node word apart w = grind (arith, nat_tests, apart)

  entry_same : (x : Label) (q : Open) (entry word : ℕ)
      → same_label x (entry_label q entry word) ≡ (place_in q.targets word == entry) && same_label x (Case q.block word)
  entry_same x q entry word = grind arith

  in_switches : {x : Label} {n : ℕ} → StandsIn (front ++ switches) x n → StandsIn all x n
  unfolding piece_labels
  in_switches s = before _ _ (before _ _ s)

  pub ordered_stands : (word : ℕ) → word < length text.words → StandsIn all (Image (node_in_order graph word) word) word
  ordered_stands word l =
      in_switches (before _ _ (before _ _ (before _ _ (stands_below (λ w. Image (node_in_order graph w) w) word
      (λ v. grind (arith, nat_tests, same_itself (node_in_order graph word))) (length text.words) l))))

  pub way_stands : (edge : ℕ) → edge < length (edges_but_landings graph)
      → StandsIn all (Way edge) (length text.words + edge)
  way_stands edge l =
      in_switches (before _ _ (before _ _ (behind _ _ (simp news) (stands_below Way edge (λ v. refl) _ l) (simp lengths))))

  pub landing_stands : (word : ℕ) → word < length text.words
      → StandsIn all (Landing word) (length text.words + length (edges_but_landings graph) + word)
  landing_stands word l =
      in_switches (before _ _ (behind _ _ (simp news) (stands_below Landing word (λ v. refl) _ l) (simp lengths)))

  -- one of an open switch
  own_stands : (k : ℕ) (o : Open) → slice_get graph.opens k ≡ Some o → {x : Label} {n m : ℕ}
      → StandsIn (switch_labels text graph o) x m → IsNew x front
      → ((j : ℕ) (q : Open) → j < k → slice_get graph.opens j ≡ Some q → IsNew x (switch_labels text graph q))
      → n ≡ open_begin text graph k + m → StandsIn all x n
  own_stands k o e {x = x} {m = m} s fresh new is =
      in_switches (behind _ _ fresh
      (stands_in_all (switch_labels text graph) (pieces_of graph) graph.opens switches_sized k o e x m s new)
      (simp lengths (omega (arith, is))))

  images_stand : (node : Node) (word from count : ℕ) → from ≤ word → word < from + count
      → StandsIn (map (Image node) (range_with_len from count)) (Image node word) (word - from)
  images_stand node word from count above low =
      stands_in_range (Image node) word (λ v. rw (same_itself node) refl) from count (word - from) (omega (arith, above))
      (omega (arith, above, low))

  module _ (k : ℕ) (o : Open) (e : slice_get graph.opens k ≡ Some o) where
    abbrev first : ℕ
    first = slice_index b.firsts o.block

    abbrev load : ℕ
    load = load_of text o

    abbrev size : ℕ
    size = size_of b o.switch.compare.0

    -- a word of the comparison's landed copy
    pub compare_stands : (word : ℕ) → slice_index b.firsts o.switch.compare.0 ≤ word
        → word < slice_index b.firsts o.switch.compare.0 + size → StandsIn all (Image (copy o.switch.compare.0) word)
        (open_begin text graph k + (word - slice_index b.firsts o.switch.compare.0))
    compare_stands word above low =
        own_stands k o e (before _ _ (before _ _ (images_stand (copy o.switch.compare.0) word _ size above low)))
        (simp (news, unordered (copy o.switch.compare.0) word (copy_apart k o e word)))
        (λ j q l d.
        simp (news, ne_eqb o.switch.compare.0 q.switch.compare.0 (λ same. compares_apart j k q o l d e (sym same)))) refl

    other_block : (j : ℕ) (q : Open) → j < k → slice_get graph.opens j ≡ Some q → (o.block == q.block) ≡ false
    other_block j q l d = ne_eqb o.block q.block (λ same. g.apart j k q o l d e (sym same))

    pub save_stands : StandsIn all (Save o.block load) (open_begin text graph k + size + (load - first))
    save_stands =
        let own : StandsIn (switch_labels text graph o) (Save o.block load) (size + (load - first)) =
        behind _ _ {m = 0} (simp news)
        (before (Save o.block load ∷ []) _
        (record { is = refl; first = rw (eq-eqb o.block o.block refl, eq-eqb load load refl) }))
        (simp lengths (omega arith)) in
        own_stands k o e own (simp news) (λ j q l d. simp (news, other_block j q l d)) (omega arith)

    -- a word of the jump's block: the address is saved between the words before the load and the others
    pub image_stands : (word : ℕ) → first ≤ word → word < first + size_of b o.block
        → StandsIn all (Image (block o.block) word)
        (open_begin text graph k + size + (word - first) + (if nat_lt word load then 0 else 1))
    image_stands word above low =
        let l = load_in k o e in
        let own : StandsIn (switch_labels text graph o) (Image (block o.block) word)
        (size + (word - first) + (if nat_lt word load then 0 else 1)) = elim (cases_lt word load) [
          | inl less ↦
              before _ _ (behind _ _ (simp news)
              (images_stand (block o.block) word first (load - first) above (omega (arith, above, less)))
              (rw (lt-ltb word load less) (simp lengths (omega arith))))
          | inr more ↦
              let past = past_range word first (load - first) (omega (arith, l.above, more)) in
              behind _ _ {m = suc (word - load)} (simp (news, eq-eqb o.block o.block refl, past))
              (behind (Save o.block load ∷ []) _ {m = word - load} refl
              (images_stand (block o.block) word load _ more (omega (arith, more, low, l.below))) (omega arith))
              (rw (le-ltb word load more) (simp lengths (omega (arith, l.above, more))))
        ] in
        own_stands k o e own (simp (news, unordered (block o.block) word (block_apart k o e word)))
        (λ j q l d. simp (news, other_block j q l d)) (omega arith)

    pub load_stands : StandsIn all (Image (block o.block) load) (open_begin text graph k + size + (load - first) + 1)
    load_stands = rw (le-ltb load load (omega arith)) at (image_stands load (load_in k o e).above (load_in k o e).below)

    -- ---- the entries of its table

    own_entry : (entry word : ℕ) → slice_get o.targets entry ≡ Some word
        → StandsIn (entry_labels o) (Case o.block word) (place_in o.targets word)
    own_entry entry word at =
        let x = Case o.block word in
        let place = place_in o.targets word in
        let its = place_is o.targets entry word at in
        let found = placed (λ t. t == word) o.targets (any_at _ o.targets entry word at (eq-eqb word word refl)) in
        let here : place ≡ found.number = ap or_zero found.at in
        stands_at (entry_labels o) x place
        (rw (numbered_get (entry_label o) o.targets place word its, eq-eqb place place refl) refl)
        (rw (eq-eqb o.block o.block refl, eq-eqb word word refl)) (λ m y l is.
        let t = get_or o.targets m 0 in
        let there = slice_get-get_or o.targets m 0 (omega (arith, l, slice_get_within o.targets place word its)) in
        let other = found.fails m t (omega (arith, l, here)) there in
        let same : y ≡ entry_label o m t = same_Some y _ (sym is ∙ numbered_get (entry_label o) o.targets m t there) in
        let apart : (word == t) ≡ false = ne_eqb word t (λ q. false≢true (sym other ∙ eq-eqb t word (sym q))) in
        rw (same, entry_same x o m t, apart) (simp (and-false)))

    pub case_stands : (entry word : ℕ) → slice_get o.targets entry ≡ Some word → StandsIn all (Case o.block word)
        (open_begin text graph (length graph.opens) + first_entry text graph k + place_in o.targets word)
    unfolding piece_labels
    case_stands entry word at =
        before _ _ (behind _ _ (simp news)
        (stands_in_all entry_labels (λ (q : Open). length q.targets) graph.opens entries_sized k o e (Case o.block word)
        (place_in o.targets word) (own_entry entry word at)
        (λ j q l d. simp (news, entry_same, other_block j q l d, and-false)))
        (simp lengths (omega (arith, switches_count))))

  pub foreign_stands : StandsIn all Foreign
      (open_begin text graph (length graph.opens) + first_entry text graph (length graph.opens))
  unfolding piece_labels
  foreign_stands =
      behind (front ++ switches ++ entries) _ {m = 0} (simp (news, entry_same, and-false))
      (record { is = refl; first = refl }) (simp lengths (omega (arith, switches_count, entries_count)))

  -- ---- numbers

  pub number_is : (x : Label) (n : ℕ) → StandsIn all x n → number_of text graph x ≡ n
  unfolding number_of
  number_is x n s = s.first

  pub count_is : length all ≡ number_of text graph Foreign + 1
  unfolding piece_labels
  count_is = simp lengths (omega (arith, switches_count, entries_count, number_is Foreign _ foreign_stands))

  pub number_below : (x : Label) (n : ℕ) → StandsIn all x n → number_of text graph x < length all
  number_below x n s = omega (arith, number_is x n s, slice_get_within all n x s.is)

  -- the piece there
  pub shape_at : (table cases : ℕ) (x : Label) (n : ℕ) → StandsIn all x n
      → slice_get (shape_list text graph table cases) (number_of text graph x) ≡ Some (shape_of text graph table cases x)
  unfolding shape_list
  shape_at table cases x n s = rw (number_is x n s, slice_get-map (shape_of text graph table cases) all n, s.is)
