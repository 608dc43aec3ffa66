-- What holds of each piece that is made, and so of all. How many of their words are those of snippets: each edge's once,
-- but a landing's once for each word that lands there, and a Case edge's once for each entry that does.
use Rattle.image_code.proofs.Common.{[], range_with_len, map-append, ◌≡◌, sym, ◌∙◌, ℕ, zero, suc, ◌+◌, ◌*◌, ◌<◌, ◌≤◌, Bool, true, false, ◌==◌, Option, Some, None, List, ◌∷◌, ◌++◌, append-nil, length, length-map, map, length-append, refl, ap, arith, if◌then◌else◌, slice_get, slice_get-map, slice_index, flat_map, option_map, position, sum_by, option_to_list, cond_both, eq-eqb, false≢true, sum_by-append, sum_by-cons, slice_get-get_or, Words, IsText, Op2, Instr, decode_of, is_transfer, EdgeKind, always, never, below, size_of, is_fall, Edge, Node, Block, X, same_kind, same_node, Open, jumps_in, Graph, lands, IsEdgeIn, IsNodeIn, ends_block, landing_at, left_by, block, copy, in_held, some_words, straight_left, Each, each_at, each-append, Item, item_in, Op, fold-map, LeadsBelow, piece_words, Exit, Head, OfWord, Shape, assembled, head_items, items_of, marked, enumerate_from, or_right, sum_by-le, IsMarked, load_of, IsReached, IsWordOf, pieces_of, IsGraphOf, AreFit, AreShort, PiecesFit, PlacesSay, marks_in, not, ◌&&◌, last_in, each-then, mul-le-mul_left, mul-le-mul_right, mul_left_comm, and_parts, nat_tests, Landed, edge_along, edge_from, same_nodes, ends_within, each, count_by, same_itself, and_right, snippet_on, node_in_order, edges_but_landings, operations_from, operations_in, eqb-true}
use Rattle.v8_decode.specs.declared.Instr.TheVariants as i
use Rattle.cfg_blocks.specs.declared.EdgeKind.TheVariants as kinds
use Rattle.layout.specs.declared.items.Item.TheVariants as it
use Rattle.cfg_normal.specs.Code.{edges_but_landings}
use Rattle.cfg_normal.specs.declared.Slot.{Slot}
use Rattle.cfg_normal.specs.declared.Slot.TheVariants as slots
use Rattle.image_code.specs.declared.shape.Exit.TheVariants as exits
use Rattle.image_code.specs.declared.shape.Head.TheVariants as heads
use Rattle.image_code.specs.Labels.{Case, Spare, Image, Label, Landing, Way, entry_label, entry_labels, switch_labels, enter_number, foreign_number, node_in_order, piece_labels, place_in}
use Rattle.image_code.specs.Made.{way_shape, case_by, choice_of, first_way, first_word, goes_on, image_by, jump_by, jump_image_by, jumps_at, save_by, next_at, nop_word, piece_list, shape_list, shape_of, unused, visit_of, way_by, way_out}
use Rattle.image_code.proofs.Listed.{count_is, number_below, way_stands, switch_in, load_in}
use Rattle.image_code.proofs.OpenNumbers.{Leaves, found_below, number_of_list, Goes, case_reaches, ordered_number, case_number_below, each_index, enter_below, first_word_of, foreign_is, lands_below, lands_word}
use Rattle.image_code.proofs.OpenBlocks.{IsTextGraph, text_graph, words_of}
use Rattle.image_code.proofs.OpenSums.{code_length, sum_flat, count_le, count_none, count_single, count_within, one_use, uses, uses_next, found_use, position_use}
use Rattle.image_code.proofs.Shapes.{ExitLeads, HeadLeads, IsAt, IsMade, IsShaped, head_size, made, made_bare, mark_says, sized, switch_some, well_marked}
use Rattle.image_code.proofs.Positions.{any_at, position_at}
use Rattle.std.proofs.lemmas.List.Sums.{sum_by-le-sum_by}
use Rattle.image_code.specs.Copies.{copies_of, is_at, targets_from, words_at}

-- ---- the words of snippets in the pieces

same_turned : (one other : Node) → same_node one other ≡ true → same_node other one ≡ true
same_turned one other e = rw (same_nodes one other e) (same_itself other)

-- ---- how often an edge is found

-- only where a part of a test holds that is the same for all
count_if : {A : Type 0} (t : Bool) (p : A → Bool) (xs : List A) (n : ℕ) → (t ≡ true → count_by p xs ≤ n)
    → (t ≡ false → (x : A) → p x ≡ false) → count_by p xs ≤ (if t then n else 0)
count_if true p xs n some none = some refl
count_if false p xs n some none = omega (arith, count_none p xs (each _ _ (none refl)))

module _ (text : Words) (graph : Graph) (table cases : ℕ) (codes : ℕ → List ℕ) (is : IsText text)
    (h : IsGraphOf text graph) where
  abbrev shapes : List Shape
  shapes = shape_list text graph table cases

  g : IsTextGraph text graph
  g = text_graph text graph is h

  abbrev labels : List Label
  labels = piece_labels text graph

  abbrev numbers : List ℕ
  numbers = below (length text.words)

  abbrev own_edges : List Edge
  own_edges = edges_but_landings graph

  -- ---- the words of snippets in the pieces: in the image of a word at a node

  abbrev code_by : Node → ℕ → Instr → ℕ
  code_by node word instr = if is_transfer instr then 0 else code_length codes (left_by graph node word instr)

  abbrev image_code : Node → ℕ → ℕ
  image_code node word = code_by node word (decode_of (slice_index text.words word))

  -- among the images in the order of the text
  abbrev order_code : ℕ → ℕ
  order_code word = image_code (node_in_order graph word) word

  -- at a landing
  abbrev landing_code : ℕ → ℕ
  landing_code word = code_length codes (landing_at graph (lands graph (Some word)))

  -- on the way along an edge; a landing has none
  abbrev is_own : EdgeKind → Bool
  is_own kind = not (same_kind kind kinds.Land) && not (is_fall kind) && not (same_kind kind kinds.Case)

  abbrev way_code : ℕ → Option Edge → ℕ
  way_code number None = 0
  way_code number (Some edge) = if is_own edge.kind then length (codes number) else 0

  -- along the Case edge of a switch to a word
  abbrev case_edge : Open → ℕ → List ℕ
  case_edge o word = edge_along graph (block o.block) (record { kind = kinds.Case; to = Some (lands graph (Some word)) })

  abbrev case_code : Open × ℕ → ℕ
  case_code entry = code_length codes (case_edge entry.0 entry.1)

  -- the entries of some switches
  abbrev entries_in : List Open → List (Open × ℕ)
  entries_in opens = flat_map (λ (o : Open). map (λ (word : ℕ). (o, word)) o.targets) opens

  abbrev code_words : ℕ
  code_words =
      sum_by order_code numbers + sum_by (λ way. way_code way (slice_get graph.edges way)) (below (length own_edges))
      + sum_by landing_code numbers + sum_by case_code (entries_in graph.opens)

  -- ---- behind the last word of a block

  abbrev falls : ℕ → Edge → Bool
  falls word edge =
      ends_block graph (node_in_order graph word) word
      && (same_node edge.from (node_in_order graph word) && same_kind edge.kind kinds.Fall)

  -- at the last word of a block only, and not in a transfer
  code_is : (P : ℕ → Type 0) (node : Node) (word : ℕ) → P 0
      → (is_transfer (decode_of (slice_index text.words word)) ≡ false → ends_block graph node word ≡ true
      → P (code_length codes (edge_from graph node kinds.Fall))) → P (image_code node word)
  code_is P node word idle last =
      cond_both (is_transfer (decode_of (slice_index text.words word))) 0 _ P (λ _. idle) (λ e.
      rw (straight_left graph node word (decode_of (slice_index text.words word)) e)
      (cond_both (ends_block graph node word) _ [] (λ (edges : List ℕ). P (code_length codes edges)) (last e) (λ _. idle)))

  ends_last : (node : Node) (word : ℕ) → ends_block graph node word ≡ true → word ≡ last_in graph node
  ends_last node word e = grind (arith, nat_tests)

  falls_count : (edge : Edge) → count_by (λ word. falls word edge) numbers
      ≤ (if same_kind edge.kind kinds.Fall then 1 else 0)
  falls_count edge =
      count_if (same_kind edge.kind kinds.Fall) (λ word. falls word edge) numbers 1
      (λ _. count_single (λ word. falls word edge) (length text.words) (last_in graph edge.from) (λ word h.
      grind (arith, same_nodes edge.from (node_in_order graph word), ends_last (node_in_order graph word) word)))
      (λ e word. and_right _ _ (and_right _ _ e))

  -- ---- on ways

  abbrev along : ℕ → ℕ → Edge → Bool
  along way number edge = (way == number) && is_own edge.kind

  ways_cover : (way : ℕ) → way_code way (slice_get graph.edges way) ≤ one_use (along way) codes 0 graph.edges
  ways_cover way = by (slice_get graph.edges way) refl
    where
      by : (o : Option Edge) → slice_get graph.edges way ≡ o → way_code way o ≤ one_use (along way) codes 0 graph.edges
      by None e = omega arith
      by (Some edge) e =
          let few = found_use (along way) codes way way 0 edge graph.edges e (omega arith) in grind (arith, nat_tests)

  ways_count : (number : ℕ) (edge : Edge) → count_by (λ way. along way number edge) (below (length own_edges))
      ≤ (if is_own edge.kind then 1 else 0)
  ways_count number edge =
      count_if (is_own edge.kind) (λ way. along way number edge) (below (length own_edges)) 1
      (λ _. count_single (λ way. along way number edge) (length own_edges) number
      (λ way h. eqb-true way number (and_parts _ _ h).0)) (λ e way. and_right _ _ e)

  -- ---- at landings

  abbrev lands_there : ℕ → Edge → Bool
  lands_there word edge = same_node edge.to (lands graph (Some word)) && same_kind edge.kind kinds.Land

  -- where a run lands at a node, the word stands in the node's block
  at_node : (node : Node) (word : ℕ) → word < length text.words → is_at graph node word ≡ true → IsWordOf graph node word
  at_node node word l e = rw (same_nodes _ node e) at (lands_word text graph g word l)

  block_end_within : (k : ℕ) → k < length graph.blocks.firsts
      → slice_index graph.blocks.firsts k + size_of graph.blocks k ≤ length text.words
  block_end_within k l =
      let some = some_words graph.blocks.words graph.blocks.firsts g.cut.firsts k l in
      omega (arith, some, ends_within graph.blocks.words graph.blocks.firsts g.cut.firsts k l, g.cut.words)

  node_count : (node : Node) → IsNodeIn graph.blocks graph.opens node
      → count_by (is_at graph node) numbers ≤ count_by (is_at graph node) (words_at graph node)
  node_count (Block k) l =
      count_within (is_at graph (Block k)) (length text.words) (slice_index graph.blocks.firsts k.0)
      (size_of graph.blocks k.0) (λ word l e. let is = at_node (Block k) word l e in omega (arith, is.1.0, is.1.1))
  node_count (Landed k) l =
      count_within (is_at graph (Landed k)) (length text.words) (slice_index graph.blocks.firsts k.0)
      (size_of graph.blocks k.0) (λ word l e. let is = at_node (Landed k) word l e in omega (arith, is.1.0, is.1.1))
  node_count X l = count_within (is_at graph X) (length text.words) 0 0 (λ word l e. absurd (at_node X word l e))

  landings_count : (edge : Edge) → IsNodeIn graph.blocks graph.opens edge.to
      → count_by (λ word. lands_there word edge) numbers
      ≤ (if same_kind edge.kind kinds.Land then count_by (is_at graph edge.to) (words_at graph edge.to) else 0)
  landings_count edge inside =
      count_if (same_kind edge.kind kinds.Land) (λ word. lands_there word edge) numbers _ (λ _.
      let more = count_le (λ word. lands_there word edge) (is_at graph edge.to) numbers
      (λ word h. same_turned edge.to (lands graph (Some word)) (and_parts _ _ h).0) in
      omega (arith, more, node_count edge.to inside)) (λ e word. and_right _ _ e)

  -- ---- by entries

  abbrev leads_there : Node → Node → Bool → Open × ℕ → Bool
  leads_there from to is_case entry =
      same_node to (lands graph (Some entry.1)) && (same_node from (block entry.0.block) && is_case)

  abbrev chooses : Open × ℕ → Edge → Bool
  chooses entry edge = leads_there edge.from edge.to (same_kind edge.kind kinds.Case) entry

  cases_count : (edge : Edge) → count_by (λ entry. chooses entry edge) (entries_in graph.opens)
      ≤ (if same_kind edge.kind kinds.Case then count_by (is_at graph edge.to) (targets_from graph edge.from) else 0)
  cases_count edge =
      count_if (same_kind edge.kind kinds.Case) (λ entry. chooses entry edge) (entries_in graph.opens) _
      (λ e. rw e (leaving edge.from)) (λ e entry. and_right _ _ (and_right _ _ e))
    where
      leaving : (from : Node) → count_by (leads_there from edge.to true) (entries_in graph.opens)
          ≤ count_by (is_at graph edge.to) (targets_from graph from)
      leaving (Block k) = simp (sum_flat, fold-map) (sum_by-le-sum_by _ _ graph.opens (λ o.
          let takes : ℕ → Bool = λ word. leads_there (Block k) edge.to true (o, word) in
          cond_both (o.block == k.0) o.targets []
          (λ (words : List ℕ). count_by takes o.targets ≤ count_by (is_at graph edge.to) words)
          (λ _. count_le takes (is_at graph edge.to) o.targets
          (λ word h. same_turned edge.to (lands graph (Some word)) (and_parts _ _ h).0))
          (λ e. let none = count_none takes o.targets (each _ _ (λ word. grind (arith, nat_tests, e))) in
          omega (arith, none))))
      leaving from =
          let none = count_none (leads_there from edge.to true) (entries_in graph.opens)
          (each _ _ (λ entry. and_right (same_node edge.to (lands graph (Some entry.1))) _ refl)) in
          omega (arith, none)

  -- ---- no more often than it is counted

  -- which edges each of them takes
  abbrev tests : List (ℕ → Edge → Bool)
  tests =
      map (λ word n. falls word) numbers ++ map along (below (length own_edges))
      ++ map (λ word n. lands_there word) numbers ++ map (λ entry n. chooses entry) (entries_in graph.opens)

  count_few : (number : ℕ) (edge : Edge) → IsEdgeIn graph.blocks graph.opens edge
      → count_by (λ q. q number edge) tests ≤ copies_of graph edge
  count_few number edge inside =
      let landed = landings_count edge inside.to in
      let cased = cases_count edge in
      simp (sum_by-append, fold-map) (grind (arith, falls_count edge, ways_count number edge))

  edges_few : (snips : List (List Op)) → AreShort snips codes → (number : ℕ) (edges : List Edge)
      → Each (IsEdgeIn graph.blocks graph.opens) edges
      → uses codes tests number edges ≤ 22 * operations_from graph snips number edges
  edges_few snips short number [] inside =
      omega (arith, sum_by-le (λ q. one_use q codes number []) 0 tests (λ k d l. omega arith))
  edges_few snips short number (edge ∷ edges) inside =
      let copies = copies_of graph edge in
      let many = mul-le-mul_right (length (codes number)) (count_few number edge inside.0) in
      let long = mul-le-mul_left copies (short.short number) in
      let each = mul_left_comm copies 22 (length (snippet_on snips number)) in
      omega (arith, uses_next codes tests number edge edges, edges_few snips short (suc number) edges inside.1)

  snippets_few : (snips : List (List Op)) → AreShort snips codes → code_words ≤ 22 * operations_in graph snips
  snippets_few snips short =
      let all = simp (sum_by-append, fold-map) at (edges_few snips short 0 graph.edges g.edges) in
      let ordered = sum_by-le-sum_by _ _ numbers (λ word.
      code_is (λ n. n ≤ one_use (λ n. falls word) codes 0 graph.edges) (node_in_order graph word) word (omega arith)
      (λ _ l. rw l at (position_use (falls word) codes graph.edges))) in
      let landed = sum_by-le-sum_by _ _ numbers (λ word. position_use (lands_there word) codes graph.edges) in
      let cased = sum_by-le-sum_by _ _ (entries_in graph.opens) (λ entry. position_use (chooses entry) codes graph.edges) in
      omega (arith, all, ordered, landed, cased, sum_by-le-sum_by _ _ (below (length own_edges)) ways_cover)

  -- ---- where a block ends in a transfer no snippet stands in its images

  no_code : (node : Node) (word : ℕ)
      → is_transfer (decode_of (slice_index text.words (last_in graph node))) ≡ true
      → image_code node word ≡ 0
  no_code node word ends =
      code_is (λ n. n ≡ 0) node word refl (λ e l. absurd (false≢true (sym e ∙ rw (ends_last node word l) ends)))

  -- ---- the pieces

  labelled : length shapes ≡ length labels
  unfolding shape_list
  labelled = length-map labels (shape_of text graph table cases)

  many : length shapes ≡ foreign_number text graph + 1
  many = labelled ∙ count_is text graph g

  -- a piece of so many words, besides those of a snippet
  abbrev Made : ℕ → ℕ → Shape → Type 0
  Made = IsMade text graph codes (length shapes) 1

  abbrev Exits : Exit → Type 0
  Exits = ExitLeads (length shapes)

  entered : (node : Node) (word : ℕ) → IsWordOf graph node word → enter_number text graph node word < length shapes
  entered node word inside = omega (arith, labelled, enter_below text graph g node word inside)

  -- ---- the way of a kind leads to a piece

  way_by_number : (node : Node) (kind : EdgeKind) → same_kind kind kinds.Land ≡ false → (o : Option ℕ)
      → position (Leaves text graph g node kind) graph.edges ≡ o → first_way text graph (option_to_list o) < length shapes
  way_by_number node kind other None e = omega (arith, many)
  way_by_number node kind other (Some number) e =
      let low = found_below text graph g node kind other number e in
      omega (arith, labelled, number_below text graph g (Way number) _ (way_stands text graph g number low))

  way_below : (node : Node) (kind : EdgeKind) → same_kind kind kinds.Land ≡ false
      → way_out text graph node kind < length shapes
  way_below node kind other = way_by_number node kind other (position (Leaves text graph g node kind) graph.edges) refl

  -- ---- images

  next_exit : (node : Node) (word : ℕ) → Exits (next_at text graph node word)
  next_exit node word = grind (arith, nat_tests, many, foreign_is text graph g, ordered_number text graph g (word + 1))

  module _ (node : Node) (word : ℕ) (at : IsAt text graph node word) where
    abbrev visit : OfWord
    visit = visit_of text graph node word

    -- the word itself in its Mark
    itself : {size most : ℕ} (edges : List ℕ) (exit : Exit) → 7 ≤ size → length (flat_map codes edges) ≤ most → Exits exit
        → Made size most (marked visit (heads.Word (slice_index text.words word)) edges exit)
    itself edges exit l few out =
        made edges few out visit (heads.Word (slice_index text.words word))
        (record { word = word; node = node; at = at; is = refl; some = omega arith; says = λ _. refl }) tt l (omega arith)

    module _ (t : is_transfer (decode_of (slice_index text.words word)) ≡ true) where
      -- what does the same as a transfer
      instead : {size most : ℕ} (head : Head) (exit : Exit) → 6 + head_size head ≤ size
          → 0 < length (head_items visit.address head) → HeadLeads (length shapes) head → Exits exit
          → Made size most (marked visit head [] exit)
      instead head exit l some leads out =
          made [] (omega arith) out visit head
          (record { word = word; node = node; at = at; is = refl; some = some; says = λ f. absurd (false≢true (sym f ∙ t)) })
          leads l (omega arith)

      choice_made : (rd : ℕ) (k : Option ℕ) (o : Option Open)
          → Made 21 0 (choice_of text graph (jumps_at text table) cases visit rd k o)
      choice_made rd (Some k) (Some o) = instead _ exits.Behind (omega arith) (switch_some _ rd _) tt tt
      choice_made rd _ _ = made_bare [] (omega arith) tt (omega arith)

      jump_by_made : (rd rs1 : ℕ) (op2 : Op2)
          → Made 21 0 (jump_by text graph (jumps_at text table) cases visit node rd rs1 op2)
      jump_by_made rd rs1 op2 = instead _ _ (omega arith) (omega arith) tt (way_below node kinds.Out refl)

  jump_made : (node : Node) (word : ℕ) → IsAt text graph node word
      → is_transfer (decode_of (slice_index text.words word)) ≡ true → (rd rs1 : ℕ) (op2 : Op2)
      → Made 21 0 (jump_image_by text graph (jumps_at text table) cases (visit_of text graph node word) node rd rs1 op2)
  jump_made (Block k) word at t rd rs1 op2 =
      cond_both (jumps_in graph.opens k.0) _ _ (Made 21 0) (λ _. choice_made (Block k) word at t rd _ _)
      (λ _. jump_by_made (Block k) word at t rd rs1 op2)
  jump_made node word at t rd rs1 op2 = jump_by_made node word at t rd rs1 op2

  image_by_made : (node : Node) (word : ℕ) → IsAt text graph node word → (instr : Instr)
      → decode_of (slice_index text.words word) ≡ instr
      → Made 21 (code_by node word instr)
      (image_by text graph (jumps_at text table) cases (visit_of text graph node word) node word instr)
  image_by_made node word at (i.Branch c annul disp) e =
      let by = instead node word at (ap is_transfer e) in
      let idle = by (heads.Word nop_word) in
      cond_both (c == always) _ _ (Made 21 0)
      (λ _. idle _ (omega arith) (omega arith) tt (way_below node kinds.Taken refl))
      (λ _. cond_both (c == never) _ _ (Made 21 0)
      (λ _. idle _ (omega arith) (omega arith) tt (way_below node kinds.Untaken refl))
      (λ _. by (heads.Branch c (record { 0 = way_out text graph node kinds.Taken })) _ (omega arith) (omega arith)
      (way_below node kinds.Taken refl) (way_below node kinds.Untaken refl)))
  image_by_made node word at (i.Call disp) e =
      instead node word at (ap is_transfer e) _ _ (omega arith) (omega arith) tt (way_below node kinds.Call refl)
  image_by_made node word at (i.Jmpl rd rs1 op2) e = jump_made node word at (ap is_transfer e) rd rs1 op2
  image_by_made node word at instr e =
      itself node word at (left_by graph node word instr) _ (omega arith) (omega arith) (next_exit node word)

  -- ---- ways

  one_code : (number : ℕ) → length (flat_map codes (number ∷ [])) ≤ length (codes number)
  one_code number = omega (arith, ap length (append-nil (codes number)))

  goes_exit : (node : Node) (word address : ℕ) → IsReached graph node word → Exits (goes_on text graph node word address)
  goes_exit X word address inside = tt
  goes_exit node word address inside = entered node word inside

  way_by_made : {most : ℕ} (number : ℕ) (edge : Edge) (word : ℕ) → IsEdgeIn graph.blocks graph.opens edge
      → IsReached graph edge.to word → length (flat_map codes (number ∷ [])) ≤ most → (slot : Slot) → edge.slot ≡ slot
      → Made 8 most (way_by text graph table number edge word slot)
  way_by_made number edge word inside to few slots.Nothing e =
      made_bare (number ∷ []) few (goes_exit edge.to word _ to) (omega arith)
  way_by_made number edge word inside to few slots.Off e = made_bare [] (omega arith) tt (omega arith)
  way_by_made {most = most} number edge word inside to few (slots.Word slot) e =
      let within : slot.0 < graph.blocks.words = rw e at inside.slot in
      let at : IsAt text graph edge.from slot.0 =
      record { inside = inside.from; low = omega (arith, within, g.cut.words) } in
      cond_both (is_transfer (decode_of (slice_index text.words slot.0))) _ _ (Made 8 most)
      (λ t. instead edge.from slot.0 at t heads.Couple exits.Behind (omega arith) (omega arith) tt
      tt)
      (λ _. itself edge.from slot.0 at (number ∷ []) _ (omega arith) few (cond_both (same_kind edge.kind kinds.Out) _ _ Exits
      (λ _. tt) (λ _. goes_exit edge.to word _ to)))

  -- one that is never run
  idle_made : {most : ℕ} → Made 8 most unused
  idle_made = made_bare [] (omega arith) (omega (arith, many)) (omega arith)

  way_made : (number : ℕ) → number < length own_edges → (o : Option Edge) → slice_get graph.edges number ≡ o
      → Made 8 (way_code number o) (way_shape text graph table number o)
  way_made number low None e = idle_made
  way_made number low (Some edge) e = by (is_fall edge.kind) (same_kind edge.kind kinds.Case)
    where
      by : (fall chosen : Bool)
          → Made 8 (if not (same_kind edge.kind kinds.Land) && not fall && not chosen then length (codes number) else 0)
          (if fall then unused else
          if chosen then unused else way_by text graph table number edge (first_word graph edge.to) edge.slot)
      by false false =
          let inside = each_at _ graph.edges number edge g.edges e in
          rw (g.no_landings number edge low e)
          (way_by_made number edge _ inside (first_word_of text graph g edge.to inside.to) (one_code number) edge.slot refl)
      by _ _ = idle_made

  -- ---- Case edges

  case_by_made : (o : Open) (word : ℕ) → word < length text.words → (numbers : List ℕ)
      → option_to_list (position (Goes text graph g o.block word) graph.edges) ≡ numbers
      → Made 8 (code_length codes numbers) (case_by text graph table word numbers)
  case_by_made o word l [] e = idle_made
  case_by_made o word l (number ∷ rest) e =
      let found = position_at (Goes text graph g o.block word) graph.edges number (number_of_list _ number rest e) in
      let edge = found.0 in
      let inside = case_reaches text graph g o.block word number rest edge l e found.1 in
      rw found.1 (way_by_made number edge word (each_at _ graph.edges number edge g.edges found.1) inside
      (omega (arith, one_code number, length-append (codes number) (flat_map codes rest))) edge.slot refl)

  -- ---- all of them: where a snippet isn't long, no piece is

  abbrev AreFew : Type 0
  AreFew = (number : ℕ) → length (codes number) ≤ 176

  abbrev shape : Label → Shape
  shape = shape_of text graph table cases

  -- what holds of each piece
  record IsPiece (x : Label) : Type 0 where
    few : AreFew → length (items_of codes (shape x)) ≤ 197
    shaped : IsShaped text graph (length shapes) (shape x)

  abbrev words_by : Label → ℕ
  words_by x = piece_words (items_of codes (shape x))

  abbrev marks_by : Label → ℕ
  marks_by x = marks_in (items_of codes (shape x))

  -- labels whose pieces have at most so many words and Marks
  record Have (words marks : ℕ) (list : List Label) : Type 0 where
    each : Each IsPiece list
    words_few : sum_by words_by list ≤ words
    marks_few : sum_by marks_by list ≤ marks

  none : Have 0 0 []
  none = record { each = tt; words_few = omega arith; marks_few = omega arith }

  within : {words marks more_words more_marks : ℕ} {list : List Label} → words ≤ more_words → marks ≤ more_marks
      → Have words marks list → Have more_words more_marks list
  within more_words more_marks have = search arith

  joined : {words marks more_words more_marks : ℕ} {xs ys : List Label} → Have words marks xs
      → Have more_words more_marks ys → Have (words + more_words) (marks + more_marks) (xs ++ ys)
  joined {xs = xs} {ys = ys} one other =
      let each = each-append IsPiece xs ys one.each other.each in
      search (arith, sum_by-append words_by xs ys, sum_by-append marks_by xs ys)

  one_piece : {size marks most : ℕ} {x : Label} → size ≤ 21 → (AreFew → most ≤ 176)
      → IsMade text graph codes (length shapes) marks size most (shape x) → Have (size + most) marks (x ∷ [])
  one_piece {x = x} short few made =
      let is = sized codes (shape x) made.shaped in
      record {
        each = (record { few = λ f. omega (arith, few f); shaped = made.shaped }, tt);
        words_few = omega (arith, sum_by-cons words_by x []);
        marks_few = omega (arith, sum_by-cons marks_by x []);
      }

  -- some for each item of a list
  all_of : {A : Type 0} (f : A → List Label) (base : ℕ) (count code marks : A → ℕ) (xs : List A)
      → Each (λ x. Have (base * count x + code x) (marks x) (f x)) xs
      → Have (base * sum_by count xs + sum_by code xs) (sum_by marks xs) (flat_map f xs)
  all_of f base count code marks [] have = within (omega arith) (omega arith) none
  all_of f base count code marks (x ∷ xs) have =
      within (simp sum_by-cons (omega arith)) (simp sum_by-cons (omega arith))
      (joined have.0 (all_of f base count code marks xs have.1))

  -- one for each number
  numbered_of : (f : ℕ → Label) (base : ℕ) (code : ℕ → ℕ) (marks n : ℕ)
      → ((k : ℕ) → k < n → Have (base + code k) marks (f k ∷ []))
      → Have (n * base + sum_by code (below n)) (n * marks) (map f (below n))
  numbered_of f base code marks zero have = within (omega arith) (omega arith) none
  numbered_of f base code marks (suc n) have =
      rw (map-append f (below n) (n ∷ [])) (within (omega (arith, sum_by-append code (below n) (n ∷ []))) (omega arith)
      (joined (numbered_of f base code marks n (λ k l. have k (omega (arith, l)))) (have n (omega arith))))

  -- ---- the parts

  optional_few : AreFew → (o : Option ℕ) → code_length codes (option_to_list o) ≤ 176
  optional_few f None = omega arith
  optional_few f (Some number) = omega (arith, f number, one_code number)

  one_image : (node : Node) (word : ℕ) → IsAt text graph node word
      → Have (21 + image_code node word) 1 (Image node word ∷ [])
  one_image node word at =
      one_piece (omega arith) (λ f. code_is (λ n. n ≤ 176) node word (omega arith) (λ _ _. optional_few f _))
      (image_by_made node word at (decode_of (slice_index text.words word)) refl)

  have_cases : (o : Open) (entry : ℕ) (words : List ℕ) → Each (λ word. word < length text.words) words
      → Have (8 * length words + sum_by (λ word. case_code (o, word)) words) (length words)
      (map (λ (p : ℕ × ℕ). entry_label o p.0 p.1) (enumerate_from entry words))
  have_cases o entry [] low = none
  have_cases o entry (word ∷ words) low =
      within (simp sum_by-cons (omega arith)) (omega arith)
      (joined (one_piece (omega arith) (λ f. optional_few f _)
      (cond_both (place_in o.targets word == entry) (Case o.block word) Spare (λ x. Made 8 (case_code (o, word)) (shape x))
      (λ _. case_by_made o word low.0 (case_edge o word) refl) (λ _. idle_made)))
      (have_cases o (entry + 1) words low.1))

  -- the images of some words of a block that ends in a transfer
  have_block : (node : Node) → IsNodeIn graph.blocks graph.opens node
      → is_transfer (decode_of (slice_index text.words (last_in graph node))) ≡ true
      → (from count : ℕ) → from + count ≤ length text.words
      → Have (21 * count) count (map (Image node) (range_with_len from count))
  have_block node inside ends from zero low = none
  have_block node inside ends from (suc count) low =
      within (omega (arith, no_code node from ends)) (omega arith)
      (joined (one_image node from (record { inside = inside; low = omega (arith, low) }))
      (have_block node inside ends (from + 1) count (omega (arith, low))))

  save_made : (instr : Instr) → IsMade text graph codes (length shapes) 0 4 0 (save_by instr)
  save_made (i.Load kind rd rs1 op2) = made_bare [] (omega arith) (omega arith) (omega arith)
  save_made _ = made_bare [] (omega arith) tt (omega arith)

  have_open : (k : ℕ) (o : Open) → slice_get graph.opens k ≡ Some o
      → Have (21 * pieces_of graph o + 0) (words_of graph.blocks o) (switch_labels text graph o)
  have_open k o e =
      let its = switch_in text graph g k o e in
      let load = load_in text graph g k o e in
      let ends = block_end_within o.block its.block_in in
      let images = have_block (block o.block) its.block_in its.jumps in
      let copied = or_right (jumps_in graph.opens o.switch.compare.0) _
      (any_at (λ (x : Open). x.switch.compare.0 == o.switch.compare.0) graph.opens k o e (eq-eqb _ _ refl)) in
      within (omega arith) (omega arith)
      (joined (joined (have_block (copy o.switch.compare.0) (its.compare_in, copied) its.branches _ _
      (block_end_within o.switch.compare.0 its.compare_in)) (images _ _ (omega arith)))
      (joined (one_piece (omega arith) (λ f. omega arith) (save_made (decode_of (slice_index text.words (load_of text o)))))
      (images _ _ (omega arith))))

  -- ---- all of them

  opened_many : (opens : List Open)
      → sum_by (pieces_of graph) opens ≡ sum_by (words_of graph.blocks) opens + length opens
  opened_many [] = omega arith
  opened_many (o ∷ opens) = simp sum_by-cons (omega (arith, opened_many opens))

  have_all : Have (115 * length text.words + code_words + 4) (8 * length text.words) labels
  unfolding piece_labels
  have_all =
      -- the node of a word's image in the order of the text is one of the graph's
      let ordered =
      numbered_of (λ word. Image (node_in_order graph word) word) 21 order_code 1 (length text.words) (λ word l.
      let held = in_held graph.blocks.words graph.blocks.firsts g.cut.firsts word (omega (arith, l, g.cut.words)) in
      one_image (node_in_order graph word) word (record { inside = grind (arith, held.within); low = l })) in
      let ways = numbered_of Way 8 (λ way. way_code way (slice_get graph.edges way)) 1 (length own_edges) (λ way l.
      one_piece (omega arith) (λ f. grind (arith, f way)) (way_made way l _ refl)) in
      let landings = numbered_of Landing 4 landing_code 0 (length text.words) (λ word l.
      one_piece (omega arith) (λ f. optional_few f _) (made_bare _ (omega arith)
      (entered (lands graph (Some word)) word (lands_word text graph g word l)) (omega arith))) in
      let opens = all_of (switch_labels text graph) 21 (pieces_of graph) (λ o. 0) (words_of graph.blocks) graph.opens
      (each_index _ graph.opens have_open) in
      let code : Open → ℕ = λ o. sum_by (λ word. case_code (o, word)) o.targets in
      let chosen = all_of entry_labels 8 (λ (o : Open). length o.targets) code (λ (o : Open). length o.targets) graph.opens
      (each-then _ _ graph.opens (λ o low. have_cases o 0 o.targets low) g.targets) in
      let none = sum_by-le (λ (o : Open). 0) 0 graph.opens (λ k d l. omega arith) in
      let entries : sum_by case_code (entries_in graph.opens) ≡ sum_by code graph.opens = simp (sum_flat, fold-map) in
      within (omega (arith, none, entries, opened_many graph.opens, g.room, g.few, g.entries, g.own_few))
      (omega (arith, g.room, g.entries, g.own_few))
      (joined (joined (joined (joined (joined ordered ways) landings) opens) chosen)
      (one_piece {size = 4} {marks = 0} {most = 0} (omega arith) (λ f. omega arith)
      (made_bare [] (omega arith) tt (omega arith))))

  -- ---- its pieces

  abbrev pieces : List (List Item)
  pieces = assembled codes shapes

  count : length pieces ≡ length shapes
  count = length-map shapes (items_of codes)

  -- a property of each piece, at a piece's number
  at_piece : (P : Option (List Item) → Type 0) → P None
      → ((x : Label) → IsPiece x → P (Some (items_of codes (shape x)))) → (k : ℕ) → P (slice_get pieces k)
  unfolding shape_list
  at_piece P none some k =
      rw (slice_get-map (items_of codes) (map shape labels) k, slice_get-map shape labels k) (by (slice_get labels k) refl)
    where
      by : (o : Option Label) → slice_get labels k ≡ o → P (option_map (items_of codes) (option_map shape o))
      by None e = none
      by (Some x) e = some x (each_at _ labels k x have_all.each e)

  -- the shape of each piece
  pub piece_shaped : (k : ℕ) (items : List Item) → slice_get (piece_list text graph table cases codes) k ≡ Some items
      → (s : Shape) × (items ≡ items_of codes s) × IsShaped text graph (length shapes) s
  piece_shaped k items =
      at_piece (λ o. o ≡ Some items → (s : Shape) × (items ≡ items_of codes s) × IsShaped text graph (length shapes) s)
      (λ e. absurd (cc)) (λ x its e. (shape x, cc, its.shaped)) k

  -- ---- they fit

  by_labels : (f : List Item → ℕ) → sum_by f pieces ≡ sum_by (λ x. f (items_of codes (shape x))) labels
  unfolding shape_list
  by_labels f = simp fold-map

  pub fits : (snips : List (List Op)) → AreShort snips codes → AreFit text graph snips pieces
  fits snips short =
      let few : AreFew = (λ number. omega (arith, short.short number, short.few number)) in
      let items = sum_by-le (λ x. length (items_of codes (shape x))) 197 labels (λ k d l.
      (each_at IsPiece labels k _ have_all.each (slice_get-get_or labels k d l)).few few) in
      let foreign = foreign_is text graph g in
      let few_pieces : length shapes ≤ 10 * length text.words + 1 =
      omega (arith, many, foreign, opened_many graph.opens, g.own_few, g.room, g.few, g.entries) in
      record {
        pieces = record {
          count = omega (arith, few_pieces, is.few, count);
          items = omega (arith, items, few_pieces, labelled, is.few, by_labels length);
          leads = λ k n. rw count (at_piece (λ (o : Option (List Item)). LeadsBelow (length shapes) (item_in o n)) tt
              (λ x its. (sized codes (shape x) its.shaped).leads n) k);
          marked = at_piece IsMarked tt (λ x its. well_marked codes (shape x) its.shaped);
        };
        images = omega (arith, count, many, foreign);
        landings = λ word l. omega (arith, count, labelled, lands_below text graph g snips word l);
        cases = λ entry number e. omega (arith, count, labelled, case_number_below text graph g entry number e);
        foreign = omega (arith, count, many);
        marks = omega (arith, have_all.marks_few, is.few, by_labels marks_in);
        bytes = omega (arith, have_all.words_few, snippets_few snips short, is.few, by_labels piece_words);
      }

pub pieces_fit : PiecesFit
pieces_fit text graph table cases snips codes is h low short = fits text graph table cases codes is h snips short

pub places_say : PlacesSay
places_say text graph table cases codes base p place is h laid n r e word at plain =
    let m = laid.marks n r e in
    let item =
    at_piece text graph table cases codes is h (λ o. item_in o m.item ≡ Some (it.Mark m.address r.node)
    → item_in o (suc m.item) ≡ Some (it.Word (slice_index text.words word))) (λ q. absurd (cc))
    (λ x its q. mark_says codes _ its.shaped m.item m.address r.node q word (rw (← m.says) at) plain) m.piece m.mark in
    rw m.lo (laid.items m.piece (suc m.item) _ item).1
