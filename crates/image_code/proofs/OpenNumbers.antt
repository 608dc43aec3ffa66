-- How many pieces there are, and their numbers, as the code finds them: all are below that.
use Rattle.image_code.proofs.Common.{[], ◌≡◌, ℕ, suc, ◌+◌, ◌*◌, ◌<◌, ◌≤◌, Some, List, ◌∷◌, length, refl, ap, sym, ◌∙◌, arith, block_end, slice_get, slice_index, sum_by, cond_both, Words, block, holding_of, Node, Block, Landed, X, Open, Graph, lands, IsNodeIn, in_held, is_held, some_words, ends_within, Each, each-map, each_at, lands_as, Op, take-length, lands_in, Case, Foreign, Landing, Label, case_numbers, case_piece, cases_of, enter_number, entering, foreign_number, landing_number, edges_but_landings, piece_labels, IsReached, IsWordOf, pieces_of, first_word, lands_at, ◌==◌, nat_tests, is_some, None, subst, Option, ◌-◌, Bool, true, false, inl, inr, ◌&&◌, if◌then◌else◌, nat_lt, and_parts, cases_Bool, cases_eq, ne_eqb, le-ltb, option_to_list, position, slice_get_within, Blocks, size_of, EdgeKind, Edge, jumps_in, is_copied, copy, edge_from, edge_along, same_kind, same_node, same_kinds, same_nodes, Coded-set, coded_bool, le_prop, ×_prop, Unit-prop, get_or-set_same, get_or-set_other, load_of, AreFirstImages, AreSwitchesNoted, IsSource, saved_before, image_after, image_noted, saved_by, open_begin, place_in_order, slice_index_or, sum_by_more, first_entry, take, same_Some, each-flat_map}
use Rattle.image_code.proofs.ImageNumbers.{has_image, listed, not_found, compare_numbered, entry_stands, jump_numbered, ordered_enters, switch_found, not_switched}
use Rattle.image_code.proofs.Listed.{case_stands, foreign_stands, landing_stands, number_below, number_is, compare_stands, compares_apart, jump_of, load_in, no_jump, ordered_stands, switch_in, way_stands}
use Rattle.image_code.proofs.OpenBlocks.{IsTextGraph, text_graph}
use Rattle.cfg_normal.proofs.LandingFacts.{some_is_any}
use Rattle.image_code.proofs.Positions.{placed, position_at}
use borrow.Author.Count.{below_more}
use Rattle.std.specs.Prelude.{slice_set}
use Rattle.cfg_blocks.specs.declared.EdgeKind.TheVariants as kinds
use Rattle.cfg_normal.specs.Code.{jump_number, edges_but_landings}
use Rattle.image_code.specs.Labels.{Foreign, Landing, Way, enter_number, entering, first_entry, foreign_number, landing_number, node_in_order, way_piece}

pub each_index : {A : Type 0} (P : A → Type 0) (xs : List A) → ((k : ℕ) (x : A) → slice_get xs k ≡ Some x → P x)
    → Each P xs
each_index P [] h = tt
each_index P (x ∷ xs) h = (h 0 x refl, each_index P xs (λ k y e. h (suc k) y e))

-- what is known of a text and its graph
pub facts_of : (text : Words) (graph : Graph) → IsSource text graph → IsTextGraph text graph
facts_of text graph source = text_graph text graph source.is_text source.is_graph_of

pub number_of_list : (o : Option ℕ) (number : ℕ) (rest : List ℕ) → option_to_list o ≡ number ∷ rest → o ≡ Some number
number_of_list o number rest e = grind arith

-- ---- the first images of the blocks in the order of the text, as they are noted

module _ (graph : Graph) where
  abbrev IsNoted : List ℕ → ℕ → Type 0
  IsNoted images k = slice_index images (place_in_order graph k) ≡ slice_index graph.blocks.firsts k

  pub block_noted : (block : ℕ) (images : List ℕ) (place value : ℕ) → block < length graph.blocks.firsts
      → place ≡ place_in_order graph block → place < length images → value ≡ slice_index graph.blocks.firsts block
      → ((k : ℕ) → k < block → IsNoted images k) → (k : ℕ) → k < block + 1 → IsNoted (slice_set images place value) k
  block_noted block images place value low at within is noted =
      below_more (IsNoted (slice_set images place value)) block (λ k l.
      get_or-set_other images place (place_in_order graph k) value 0 (λ e. grind (arith, nat_tests, e ∙ at)) ∙ noted k l)
      (rw (← at) (get_or-set_same images place value 0 within ∙ is))

-- ---- facts that may be hidden

pub word_prop : (graph : Graph) (node : Node) (word : ℕ) → IsProp (IsWordOf graph node word)
word_prop graph (Block k) word = ×_prop le_prop (×_prop le_prop le_prop)
word_prop graph (Landed k) word = ×_prop (×_prop le_prop (Coded-set coded_bool _ _)) (×_prop le_prop le_prop)
word_prop graph X word = λ a. absurd a

pub reached_prop : (graph : Graph) (node : Node) (word : ℕ) → IsProp (IsReached graph node word)
reached_prop graph X word = Unit-prop
reached_prop graph node word = word_prop graph node word

-- ---- the open switch whose jump ends a block

pub behind_small : (text : Words) (o : Option Open) (word : ℕ) → saved_by text o word ≤ 1
behind_small text None word = omega arith
behind_small text (Some o) word = grind (arith, nat_tests)

module _ (text : Words) (graph : Graph) (k : ℕ) where
  abbrev ends : Open → Bool
  ends o = o.block == k

  pub behind_numbered : (number load word : ℕ) → jump_number graph.opens k ≡ Some number
      → ((o : Open) → slice_get graph.opens number ≡ Some o → load ≡ load_of text o)
      → saved_before text graph k word ≡ (if nat_lt load word then 1 else 0)
  behind_numbered number load word e its =
      let found = placed ends graph.opens (sym (some_is_any ends graph.opens) ∙ ap is_some e) in
      let same : found.number ≡ number = same_Some _ _ (sym found.at ∙ e) in
      rw (found.first, its found.item (rw same at found.is)) refl

  pub none_numbered : jump_number graph.opens k ≡ None → (word : ℕ) → saved_before text graph k word ≡ 0
  none_numbered e word = rw (not_found ends graph.opens (sym (some_is_any ends graph.opens) ∙ ap is_some e)) refl

-- ---- sums over the open switches, with the next one

module _ (text : Words) (graph : Graph) (opens : List Open) (same : opens ≡ graph.opens) (n : ℕ) (o : Open)
    (l : n < length opens) (is : o ≡ slice_index_or opens n o) where
  part_more : (f : Open → ℕ) → sum_by f (take (n + 1) graph.opens) ≡ sum_by f (take n graph.opens) + f o
  part_more f = rw (← same, sum_by_more f opens n o l, ← is) refl

  -- where the pieces of the next one begin
  pub open_more : (begin count : ℕ) → begin ≡ open_begin text graph n → count ≡ pieces_of graph o
      → begin + count ≡ open_begin text graph (n + 1)
  open_more begin count here many = omega (arith, part_more (pieces_of graph), here, many)

  -- the number of its first entry
  pub entry_more : (entry count : ℕ) → entry ≡ first_entry text graph n → count ≡ length o.targets
      → entry + count ≡ first_entry text graph (n + 1)
  entry_more entry count here many = omega (arith, part_more (λ (p : Open). length p.targets), here, many)

module _ (text : Words) (graph : Graph) (g : IsTextGraph text graph) where
  abbrev all : List Label
  all = piece_labels text graph

  abbrev b : Blocks
  b = graph.blocks

  -- ---- words of nodes

  some : (k : ℕ) → k < length b.firsts → slice_index b.firsts k < block_end b.firsts b.words k
  some k within = some_words b.words b.firsts g.cut.firsts k within

  pub lands_word : (word : ℕ) → word < length text.words → IsWordOf graph (lands graph (Some word)) word
  lands_word word l =
      let low : word < b.words = omega (arith, l, g.cut.words) in
      let held = in_held b.words b.firsts g.cut.firsts word low in
      lands_as b graph.opens word low (λ node. IsNodeIn b graph.opens node → IsWordOf graph node word)
      (λ _ there. (there, (held.above, held.below))) (λ _ there. (there, (held.above, held.below)))
      (lands_in b graph.opens g.cut.firsts.some (Some word))

  pub reached : (node : Node) (word : ℕ) → IsWordOf graph node word → IsReached graph node word
  reached X word is = absurd is
  reached node word is = is

  pub first_word_of : (node : Node) → IsNodeIn b graph.opens node → IsReached graph node (first_word graph node)
  first_word_of (Block k) l = (l, omega (arith, some k.0 l))
  first_word_of (Landed k) l = (l, omega (arith, some k.0 l.0))
  first_word_of X l = tt

  pub held_in : (k word : ℕ) → k < length b.firsts → slice_index b.firsts k ≤ word → word < block_end b.firsts b.words k
      → (word < length text.words) × (holding_of b word ≡ k)
  held_in k word within above below = (
    omega (arith, below, ends_within b.words b.firsts g.cut.firsts k within, g.cut.words),
    is_held b.words b.firsts g.cut.firsts word k (record { within = within; above = above; below = below }),
  )

  -- ---- which numbers are low

  pub enter_below : (node : Node) (word : ℕ) → IsWordOf graph node word → enter_number text graph node word < length all
  enter_below (Block k) word is =
      let h = held_in k.0 word is.0 is.1.0 is.1.1 in
      let has = has_image text graph g (Block k) word (ap block (sym h.1)) is.0 in
      number_below text graph g _ _ (listed text graph g (Block k) word h.0 has).3
  enter_below (Landed k) word is =
      let h = held_in k.0 word is.0.0 is.1.0 is.1.1 in
      let has = has_image text graph g (Landed k) word (ap block (sym h.1)) is.0 in
      number_below text graph g _ _ (listed text graph g (Landed k) word h.0 has).3
  enter_below X word is = absurd is

  pub lands_below : (snips : List (List Op)) (word : ℕ) → word < length text.words
      → lands_at text graph snips word < length all
  lands_below snips word l =
      cond_both _ (enter_number text graph (lands graph (Some word)) word) (landing_number text graph word)
      (λ (n : ℕ). n < length all) (λ _. enter_below (lands graph (Some word)) word (lands_word word l))
      (λ _. number_below text graph g (Landing word) _ (landing_stands text graph g word l))

  pub case_number_below : (entry number : ℕ) → slice_get (case_numbers text graph) entry ≡ Some number
      → number < length all
  case_number_below entry number e =
      each_at (λ n. n < length all) _ entry number (each-flat_map _ (cases_of text graph) graph.opens
      (each_index _ graph.opens (λ k o is. each-map _ (case_piece text graph o.block) o.targets
      (each_index _ o.targets (λ n word at.
      number_below text graph g (Case o.block word) _ (case_stands text graph g k o is n word at)))))) e

  -- ---- how many pieces there are

  -- the foreign piece comes behind all others
  pub foreign_number_is : foreign_number text graph
      ≡ open_begin text graph (length graph.opens) + first_entry text graph (length graph.opens)
  foreign_number_is = number_is text graph g Foreign _ (foreign_stands text graph g)

  pub foreign_is : foreign_number text graph
      ≡ 2 * length text.words + length (edges_but_landings graph) + sum_by (pieces_of graph) graph.opens
      + sum_by (λ (o : Open). length o.targets) graph.opens
  foreign_is = foreign_number_is ∙ rw (take-length graph.opens) (omega arith)

  pub ordered_number : (word : ℕ) → word < length text.words
      → enter_number text graph (node_in_order graph word) word ≡ word
  ordered_number word l =
      number_is text graph g (entering text graph (node_in_order graph word) word) word
      (rw (ordered_enters text graph g word) (ordered_stands text graph g word l))

  -- ---- ways

  abbrev pub Leaves : Node → EdgeKind → Edge → Bool
  Leaves node kind edge = same_node edge.from node && same_kind edge.kind kind

  pub found_below : (node : Node) (kind : EdgeKind) → same_kind kind kinds.Land ≡ false → (number : ℕ)
      → position (Leaves node kind) graph.edges ≡ Some number → number < length (edges_but_landings graph)
  found_below node kind other number e =
      let found = position_at (Leaves node kind) graph.edges number e in
      g.before number found.0 found.1
      (rw (same_kinds found.0.kind kind (and_parts (same_node found.0.from node) _ found.2).1) other)

  pub way_number : (node : Node) (kind : EdgeKind) → same_kind kind kinds.Land ≡ false → (number : ℕ)
      → edge_from graph node kind ≡ number ∷ [] → way_piece text graph number ≡ length text.words + number
  way_number node kind other number only =
      number_is text graph g (Way number) _ (way_stands text graph g number (found_below node kind other number
      (number_of_list (position (Leaves node kind) graph.edges) number [] only)))

  pub landing_is : (word : ℕ) → word < length text.words
      → landing_number text graph word ≡ length text.words + length (edges_but_landings graph) + word
  landing_is word l = number_is text graph g (Landing word) _ (landing_stands text graph g word l)

  -- the Case edge to where a run lands leads to a node whose block holds the word
  abbrev pub Goes : ℕ → ℕ → Edge → Bool
  Goes k word edge =
      same_node edge.to (lands graph (Some word)) && (same_node edge.from (block k) && same_kind edge.kind kinds.Case)

  pub case_reaches : (k word number : ℕ) (rest : List ℕ) (edge : Edge) → word < length text.words
      → edge_along graph (block k) (record { kind = kinds.Case; to = Some (lands graph (Some word)) }) ≡ number ∷ rest
      → slice_get graph.edges number ≡ Some edge → IsReached graph edge.to word
  case_reaches k word number rest edge l only at =
      let found = position_at (Goes k word) graph.edges number
      (number_of_list (position (Goes k word) graph.edges) number rest only) in
      let same : found.0 ≡ edge = cc in
      let to : edge.to ≡ lands graph (Some word) = same_nodes _ _ (and_parts _ _ (rw same at found.2)).0 in
      rw to (reached _ word (lands_word word l))

  pub target_low : (k : ℕ) (o : Open) → slice_get graph.opens k ≡ Some o → (entry word : ℕ)
      → slice_get o.targets entry ≡ Some word → word < length text.words
  target_low k o e entry word at =
      each_at (λ (w : ℕ). w < length text.words) o.targets entry word
      (each_at (λ (p : Open). Each (λ (w : ℕ). w < length text.words) p.targets) graph.opens k o g.targets e) at

  -- ---- where control enters the blocks

  -- at an open switch's jump
  jumped : (j : ℕ) (o : Open) → slice_get graph.opens j ≡ Some o → (word : ℕ) → slice_index b.firsts o.block ≤ word
      → word < block_end b.firsts b.words o.block
      → enter_number text graph (block o.block) word ≡ open_begin text graph j + size_of b o.switch.compare.0
      + (word - slice_index b.firsts o.block) + saved_before text graph o.block word
  jumped j o e word above low =
      let number = number_is text graph g _ _ (entry_stands text graph g j o e word above low) in
      omega (arith, number, ap (λ (q : Option Open). saved_by text q word) (switch_found text graph g j o e))

  -- at its comparison
  compared : (j : ℕ) (o : Open) → slice_get graph.opens j ≡ Some o → (word : ℕ)
      → slice_index b.firsts o.switch.compare.0 ≤ word → word < block_end b.firsts b.words o.switch.compare.0
      → enter_number text graph (copy o.switch.compare.0) word
      ≡ open_begin text graph j + (word - slice_index b.firsts o.switch.compare.0)
  compared j o e word above low =
      number_is text graph g _ _ (compare_stands text graph g j o e word above (omega (arith, above, low)))

  -- no word of a block stands behind the load before its first one
  jumps_first : (j : ℕ) (o : Open) → slice_get graph.opens j ≡ Some o
      → enter_number text graph (block o.block) (slice_index b.firsts o.block)
      ≡ open_begin text graph j + size_of b o.switch.compare.0
  jumps_first j o e =
      let first = slice_index b.firsts o.block in
      let here = jumped j o e first (omega arith) (some o.block (switch_in text graph g j o e).block_in) in
      let behind : saved_before text graph o.block first ≡ 0 =
      rw (switch_found text graph g j o e, le-ltb (load_of text o) first (load_in text graph g j o e).above) refl in
      omega (arith, here, behind)

  compares_first : (j : ℕ) (o : Open) → slice_get graph.opens j ≡ Some o
      → enter_number text graph (copy o.switch.compare.0) (slice_index b.firsts o.switch.compare.0) ≡ open_begin text graph j
  compares_first j o e =
      let here = compared j o e _ (omega arith) (some o.switch.compare.0 (switch_in text graph g j o e).compare_in) in
      omega (arith, here)

  module _ (k : ℕ) (within : k < length b.firsts) where
    ordered : (word : ℕ) → slice_index b.firsts k ≤ word → word < block_end b.firsts b.words k
        → enter_number text graph (if jumps_in graph.opens k then copy k else block k) word ≡ word
    ordered word above low =
        let held = held_in k word within above low in rw held.1 at (ordered_number word held.0)

    at_first : enter_number text graph (if jumps_in graph.opens k then copy k else block k) (slice_index b.firsts k)
        ≡ slice_index b.firsts k
    at_first = ordered (slice_index b.firsts k) (omega arith) (some k within)

  -- from a block's first word on control enters the words of its nodes in order
  abbrev Follows : (ℕ → Node) → (ℕ → ℕ → ℕ) → ℕ → Type 0
  Follows node behind k =
      (word : ℕ) → slice_index b.firsts k ≤ word → word < block_end b.firsts b.words k
      → enter_number text graph (node k) word
      ≡ enter_number text graph (node k) (slice_index b.firsts k) + (word - slice_index b.firsts k) + behind k word

  block_from : (k : ℕ) → k < length b.firsts → Follows block (saved_before text graph) k
  block_from k within = elim (cases_Bool (jumps_in graph.opens k)) [
    | inl jumps ↦
        let j = jump_numbered text b graph.opens k jumps in
        subst (Follows block (saved_before text graph)) j.4
        (λ word above low. omega (arith, jumped j.0 j.1 j.3 word above low, jumps_first j.0 j.1 j.3))
    | inr none ↦ λ word above low.
        let past : saved_before text graph k word ≡ 0 = rw (not_switched text graph g k none) refl in
        omega (arith, rw none at (ordered k within word above low), rw none at (at_first k within), past, above)
  ]

  copy_from : (k : ℕ) → k < length b.firsts → is_copied graph.opens k ≡ true → Follows copy (λ n word. 0) k
  copy_from k within is = elim (cases_Bool (jumps_in graph.opens k)) [
    | inl jumps ↦ λ word above low.
        omega (arith, rw jumps at (ordered k within word above low), rw jumps at (at_first k within), above)
    | inr none ↦
        let j = compare_numbered text graph g k (rw none at is) in
        subst (Follows copy (λ n word. 0)) j.3
        (λ word above low. omega (arith, compared j.0 j.1 j.2 word above low, compares_first j.0 j.1 j.2))
  ]

  -- by the table of first images
  module _ (images : List ℕ) (are : AreFirstImages text graph images) (node : Node) (k word : ℕ) where
    pub enters_block : node ≡ block k → IsWordOf graph node word
        → enter_number text graph node word ≡ image_after graph images (block k) k word + saved_before text graph k word
    enters_block here given =
        let is : IsWordOf graph (block k) word = subst (λ (n : Node). IsWordOf graph n word) here given in
        rw here (omega (arith, block_from k is.0 word is.1.0 is.1.1, are.blocks k is.0))

    pub enters_copy : node ≡ copy k → IsWordOf graph node word
        → enter_number text graph node word ≡ image_after graph images (copy k) k word
    enters_copy here given =
        let is : IsWordOf graph (copy k) word = subst (λ (n : Node). IsWordOf graph n word) here given in
        rw here (omega (arith, copy_from k is.0.0 is.0.1 word is.1.0 is.1.1, are.copies k is.0.0 is.0.1))

  -- ---- the table of first images, as it is made

  pub switch_noted : (count : ℕ) (o : Open) → slice_get graph.opens count ≡ Some o → (before old new : List ℕ)
      → ((n : ℕ) → slice_index new n ≡ image_noted graph o (open_begin text graph count) n (slice_index old n))
      → AreSwitchesNoted text graph count before old → AreSwitchesNoted text graph (count + 1) before new
  switch_noted count o e before old new noted were = record {
    switches = λ k p l d. elim (cases_eq k count) [
      | inl same ↦
          let its = (switch_in text graph g count o e).block_in in
          rw (same_Some p o (sym d ∙ ap (slice_get graph.opens) same ∙ e), same) (
            grind (arith, nat_tests, noted (length b.firsts + 1 + o.switch.compare.0), its),
            grind (arith, nat_tests, noted o.block),
          )
      | inr other ↦
          let less : k < count = omega (arith, l, other) in
          let mine = (switch_in text graph g count o e).block_in in
          let its = (switch_in text graph g k p d).block_in in
          let compares = compares_apart text graph g k count p o less d e in
          let held = were.switches k p less d in (
            kept _ (λ q. omega (arith, q, mine)) (λ q. compares (omega (arith, q))) ∙ held.0,
            kept _ (g.apart k count p o less d e) (λ q. omega (arith, q, its)) ∙ held.1,
          )
    ];
    others = λ node apart.
        let mine = apart count o (omega arith) e in
        kept node mine.0 mine.1 ∙ were.others node (λ k p l d. apart k p (omega (arith, l)) d);
  }
    where
      kept : (n : ℕ) → (n ≡ o.block → ⊥) → (n ≡ length b.firsts + 1 + o.switch.compare.0 → ⊥)
          → slice_index new n ≡ slice_index old n
      kept n block compare = noted n ∙ rw (ne_eqb n o.block block, ne_eqb n _ compare) refl

  module _ (before images : List ℕ) (long : length images ≡ 2 * length b.firsts + 1)
      (placed : (k : ℕ) → k < length b.firsts → slice_index before (place_in_order graph k) ≡ slice_index b.firsts k)
      (noted : AreSwitchesNoted text graph (length graph.opens) before images) where
    in_order : (k : ℕ) → k < length b.firsts → slice_index images (place_in_order graph k)
        ≡ enter_number text graph (if jumps_in graph.opens k then copy k else block k) (slice_index b.firsts k)
    in_order k l =
        -- that is no open switch's place
        noted.others (place_in_order graph k) (λ j o m e. (
          λ q. grind (arith, nat_tests, (switch_in text graph g j o e).block_in, jump_of graph.opens j o e),
          λ q. grind (arith, nat_tests, no_jump text graph g j o e),
        ))
        ∙ placed k l ∙ sym (at_first k l)

    pub first_images : AreFirstImages text graph images
    first_images = record {
      long = long;
      blocks = λ k l. elim (cases_Bool (jumps_in graph.opens k)) [
        | inl jumps ↦
            let j = jump_numbered text b graph.opens k jumps in
            let here = (noted.switches j.0 j.1 (slice_get_within graph.opens j.0 j.1 j.3) j.3).1 in
            rw (← j.4) (here ∙ sym (jumps_first j.0 j.1 j.3))
        | inr none ↦ rw none at (in_order k l)
      ];
      copies = λ k l is. elim (cases_Bool (jumps_in graph.opens k)) [
        | inl jumps ↦ rw jumps at (in_order k l)
        | inr none ↦
            let j = compare_numbered text graph g k (rw none at is) in
            let here = (noted.switches j.0 j.1 (slice_get_within graph.opens j.0 j.1 j.2) j.2).0 in
            rw (← j.3) (here ∙ sym (compares_first j.0 j.1 j.2))
      ];
    }
