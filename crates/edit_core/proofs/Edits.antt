-- What is written is an edit: its notes meet their rules, and the laws of written files give the rest. It is faithful.
use Rattle.edit_core.proofs.Common.{sym, false≢true, ◌≡◌, ℕ, suc, ◌+◌, ◌*◌, ◌%◌, ◌^◌, ◌<◌, ◌≤◌, List, [], ◌∷◌, ◌++◌, length, length-append, nat_le, None, inl, inr, refl, ap, ◌∙◌, arith, All, sum_by, length-replicate, count_by-le-length, big_bytes, IsText, Words, image_of, highest_end, Notes, accepted-program, AreNotes, notes_bytes, notes_words, words_bytes, AddedSegment, length-words_bytes, Graph, TableAt, Each, Placement, AreFit, Plan, ToolKind, tool_number, true, slice_index, Some, slice_get, le-leb, lt-ltb, append_assoc, slice_get_within, get_or_from_slice_get, address_of, word_at, NoteRange, Part, State, run, start_of, mapping_added, Edge, IsEdgeIn, is_node, each-append, each-then, IsNoLoad, are_tables, cased, each_index, note_bytes, IsWordAt, PlacesSay, CanEdit, bound_in, page_size, HasGraph, HasPages, IsInRoom, IsPlace, note_edges, note_of, word_mapped, IsEdited, IsWithinBound, LoadsNoEntry, is_before_jump, nat_lt, ◌&&◌, subst, table_of, load_is, blocks_of, CaseTable, Open, any_at, replicate, view_of, entered_of, are_ranges, flat_map, eq-eqb, and_from, holds, node_number, get_or_default_zero, each-flat_map}
use Rattle.std.proofs.lemmas.List.Elements.{All-replicate}
use Rattle.notes.specs.Laws.{AreWords}
use Rattle.notes.specs.Written.{segment_words, edge_words, range_words}
use Rattle.notes.proofs.ReadsBack.{written_back}
use Rattle.elf32_write.specs.Conditions.{CanWrite, AreNumbers, Ascend, CanLoad, HasWords, IsInReach}
use Rattle.elf32_write.specs.Laws.{AreBytes, HoldsOriginal}
use Rattle.elf32_write.proofs.Carried.{segments_are_mapped}
use Rattle.elf32_write.proofs.FileBytes.{file_is_bytes, words-bytes}
use Rattle.elf32_write.proofs.Laws.{original_is_held, notes_are_read, entry_is_given, size_is_bounded}
use Rattle.elf32_write.proofs.Loads.{file_loads}
use Rattle.elf32_write.proofs.Segments.{delta-from, delta-to}
use Rattle.v8_step.proofs.ValidNumbers.{high_first-bytes, flat_map-bytes}
use Rattle.cfg_walk.proofs.Addresses.{word_at-address}
use Rattle.image_code.specs.Loads.{load_of}
use Rattle.edit_core.specs.Written.{CanDo, IsNewCode, IsEdit, if_any, cells_at, cells_base, text_of, graph_in, table_base, code_base, pieces_of, entry_of, table_at, segment_size, code_segment, page_segment, added, notes_on, edit_file, EditsRunAlike, setup_of, off_range, off_ranges}
use Rattle.edit_core.proofs.Bounds.{operations_few}
use Rattle.edit_core.proofs.Fronts.{any_past, by_any, each_any, any-map, any_first}
use Rattle.edit_core.proofs.Eaches.{all_each, each_all}
use Rattle.edit_core.proofs.Counted.{ranges_few}
use Rattle.edit_core.proofs.Graphs.{edges_inside, entries_few, graph_cut, graph_facts, graph_is, number_of}
use Rattle.edit_core.proofs.Originals.{image_text, image_room, base_above, small_tables}
use Rattle.edit_core.proofs.Views.{bound_is, view_graph}
use Rattle.edit_core.proofs.Ranges.{ranges_rule, ranges_whole, some_code, IsWhole}
use Rattle.edit_core.proofs.Steps.{segment_is}
use Rattle.edit_core.proofs.Noted.{Fits, behind, blocks_rule, code_holds, count_bytes, edges_count, edges_fit, edges_rule, node_few, ranges_fit, segments_rule}
use Rattle.edit_core.proofs.Off.{off_each, off_few}
use Rattle.edit_core.proofs.Mapped.{code_mapped}

-- ---- added segments

all_any : {A : Type 0} (P : A → Type 0) (count : ℕ) (z : A) (xs : List A) → (0 < count → P z) → Each P xs
    → All P (if_any count z ++ xs)
all_any P count z xs here each = all_each P (if_any count z ++ xs) (each_any P count z xs here each)

pub word_here : (original : List ℕ) (plan : Plan) (word : ℕ) → word < length (text_of original plan).words
    → word_at (text_of original plan) (address_of (text_of original plan) word) ≡ Some word
word_here original plan word l =
    cc (word_at-address (text_of original plan) word, lt-ltb word (length (text_of original plan).words) l)

notes_are_bytes : (n : Notes) → AreBytes (notes_bytes n)
unfolding notes_bytes note_bytes
notes_are_bytes n = flat_map-bytes (big_bytes 4) (high_first-bytes 4) (notes_words n)

tool_few : (kind : ToolKind) → tool_number kind ≤ 3
tool_few kind = grind arith

stands_before : (first jump load word : ℕ) → first ≤ load → load < jump → load ≡ word
    → nat_le first word && nat_lt word jump ≡ true
stands_before first jump load word above below same =
    rw (le-leb first word (omega (arith, above, same)), lt-ltb word jump (omega (arith, below, same))) refl

-- ---- an edit

module _ (original : List ℕ) (plan : Plan) (limit : length original ≤ 2 ^ 26) (can : CanEdit original plan)
    (work : CanDo original plan) (p : Placement) (place : ℕ → ℕ → ℕ) (table : TableAt)
    (code : IsNewCode original plan p place table)
    (fit : AreFit (text_of original plan) (graph_in original plan) plan.snips (pieces_of original plan code.dead)) where
  abbrev text : Words
  text = text_of original plan

  abbrev graph : Graph
  graph = graph_in original plan

  abbrev tables_from : ℕ
  tables_from = table_base original plan

  abbrev file : List ℕ
  file = edit_file original plan p table

  abbrev notes : Notes
  notes = notes_on original plan p

  abbrev segments : List AddedSegment
  segments = added original plan p table

  abbrev size : ℕ
  size = segment_size text graph

  text_is : IsText text
  text_is = image_text original can.sound

  -- where all stands, and that what is added needs no more than the bound
  sizes : (highest_end (image_of original).segments ≤ cells_base original plan) × (cells_base original plan % 4096 ≡ 0)
      × (table.base ≡ tables_from) × (length table.bytes ≡ size) × (0 < size) × (size % 4096 ≡ 0) × (size ≤ 2 ^ 24)
      × (0 < length p.code) × (length (words_bytes p.code) ≡ 4 * length p.code) × (4 * length p.code ≤ 2 ^ 30)
      × (tables_from + size + 4 * length p.code ≤ 2 ^ 31) × (length {A = ℕ} (replicate page_size 0) ≡ page_size)
      × (code_base original plan + 4 * length p.code ≤ cells_base original plan + bound_in original plan)
  sizes =
      let base = (accepted-program original can.sound).base in
      let long = segment_is text graph plan.snips p table code.leads in
      let entries = entries_few text graph text_is (graph_is original plan) in
      let small = small_tables text text_is in
      let some = some_code text graph _ _ _ text_is (graph_is original plan) _ p place code.laid in
      let above = base_above original in
      let made = operations_few graph plan.kind plan.cells plan.snips work in
      let bound = bound_is original plan in
      let room = image_room original in
      let bytes = length-replicate {A = ℕ} page_size 0 in
      omega (arith, can.room, code.base, length-words_bytes p.code, code.laid.low, code.size, fit.bytes, text_is.few)

  -- ---- added segments

  abbrev cells : AddedSegment
  cells = cells_at (cells_base original plan) plan.cells

  abbrev appended : List AddedSegment
  appended = table_at table ∷ code_segment original plan p ∷ page_segment ∷ []

  -- how many bytes they have in the file
  sum_few : sum_by (λ x. length x.bytes) segments ≤ 2 ^ 24 + 2 ^ 30 + 4096
  sum_few =
      by_any (λ xs. sum_by (λ x. length x.bytes) xs ≤ 2 ^ 24 + 2 ^ 30 + 4096) plan.cells cells appended
      (λ _. omega (arith, sizes)) (λ _. omega (arith, sizes))

  can_load : CanLoad segments
  can_load = record {
    pages = all_any (λ x. x.vaddr % 4096 ≡ 0) plan.cells cells appended (λ _. sizes.1) (omega (arith, sizes));
    filled = all_any (λ x. 0 < x.memsz) plan.cells cells appended (λ some. omega (arith, some)) (omega (arith, sizes));
    reached = all_any IsInReach plan.cells cells appended (λ _. inl (omega (arith, sizes)))
        (inl (omega (arith, sizes)), (inl (omega (arith, sizes)), (inr (refl, refl), tt)));
    memory = by_any (λ xs. sum_by (λ x. x.memsz) xs ≤ 1152 * 2 ^ 20) plan.cells cells appended (λ _. omega (arith, sizes))
        (λ _. omega (arith, sizes));
  }

  -- ---- the notes

  edges_in : Each (IsEdgeIn graph.blocks graph.opens) graph.edges
  edges_in = edges_inside text graph text_is (graph_is original plan)

  whole : Each (IsWhole graph) p.ranges
  whole = ranges_whole text graph _ _ _ text_is (graph_is original plan) _ p place code.laid

  ranges_all : (P : NoteRange → Type 0) → ((edge : Edge) → IsEdgeIn graph.blocks graph.opens edge
      → P (off_range text graph tables_from edge)) → Each P p.ranges → Each P notes.ranges
  ranges_all P off own =
      each-append P (off_ranges text graph tables_from) p.ranges (off_each text graph tables_from
      (IsEdgeIn graph.blocks graph.opens) (Each P) edges_in tt (λ edge inside. (off edge inside, tt))) own

  -- how many things they have
  counts : (graph.blocks.words ≡ length text.words) × (0 < length graph.blocks.firsts)
      × (length graph.blocks.firsts ≤ length text.words) × (length text.words ≤ 2 ^ 20) × (length notes.edges ≤ 7 * 2 ^ 20) × (length notes.ranges ≤ 2 ^ 23 + 1)
      × (length notes.segments ≤ 4)
  counts =
      let facts = graph_facts text graph text_is (graph_is original plan) in
      let words = (graph_cut text graph text_is (graph_is original plan)).words in
      let edges = edges_count graph plan.kind graph.edges plan.snips in
      let marks = ranges_few (pieces_of original plan code.dead) (code_base original plan) p place code.laid in
      let off = off_few text graph tables_from in
      let pages : length notes.segments ≤ 4 =
      by_any (λ xs. length xs ≤ 4) plan.cells _ (behind original plan p) (λ _. omega arith) (λ _. omega arith) in
      let all = length-append (off_ranges text graph tables_from) p.ranges in
      omega (arith, fit.marks, facts.firsts.some, facts.firsts.few, facts.edge_count, text_is.few)

  notes_few : length (notes_bytes notes) ≤ 2 ^ 28
  notes_few = omega (arith, count_bytes notes, counts)

  pub can_be_written : CanWrite original segments (notes_bytes notes)
  can_be_written = record {
    sound = can.sound;
    limit = limit;
    few = by_any (λ xs. length xs ≤ 8) plan.cells cells appended (λ _. omega arith) (λ _. omega arith);
    above = by_any (Ascend (highest_end (image_of original).segments)) plan.cells cells appended
        (λ _. omega (arith, sizes)) (λ _. omega (arith, sizes));
    fits = all_any (λ x. length x.bytes ≤ x.memsz) plan.cells cells appended (λ _. omega arith) (omega (arith, sizes));
    small = omega (arith, sum_few, limit, notes_few);
  }

  code_rule : (end : ℕ) → end ≤ tables_from + size
      → are_ranges (length graph.blocks.firsts) notes.segments end p.ranges ≡ true
  code_rule end l =
      ranges_rule graph _ end (tables_from + size) (tables_from + size + 4 * length p.code) p.ranges
      code.laid.ascend whole l (code_holds original plan p)

  pub notes_meet_rules : AreNotes notes
  notes_meet_rules =
      let firsts = (graph_facts text graph text_is (graph_is original plan)).firsts in
      record {
        version = refl;
        delta = delta-from original;
        tool = tool_few plan.kind;
        start = (text_is.aligned, text_is.above);
        words = (text_is.some, text_is.few, text_is.below);
        entry = let held = count_by-le-length (λ first. nat_le first (image_of original).entry) graph.blocks.firsts in
            omega (arith, counts);
        base = let z = sizes in (omega arith, omega (arith, work.few));
        cells = work.few;
        segment_count = omega (arith, counts);
        segments = let z = sizes in
            segments_rule (cells_base original plan) plan.cells size p.code (omega arith) (omega arith) (omega arith);
        block_count = omega (arith, counts);
        blocks = blocks_rule (length text.words) graph.blocks.firsts None (λ l. eq-eqb _ 0 firsts.begin) firsts.ascend
            (λ i l. omega (arith, counts, firsts.within i l));
        edge_count = omega (arith, counts);
        edges = edges_rule graph plan.kind plan.cells 0 [] refl tt _ _ edges_in work.counters (each_all _ _ work.good);
        range_count = omega (arith, counts);
        ranges = off_each text graph tables_from (IsEdgeIn graph.blocks graph.opens)
            (λ offs. are_ranges (length graph.blocks.firsts) notes.segments 0 (offs ++ p.ranges) ≡ true) edges_in
            (code_rule 0 (omega arith)) (λ edge inside. let z = sizes in and_from _ _ (rw (
              eq-eqb (tables_from % 4) 0 (omega arith),
              eq-eqb ((tables_from + 4) % 4) 0 (omega arith),
              eq-eqb (address_of text (length text.words) % 4) 0 (omega (arith, text_is.aligned)),
              lt-ltb tables_from (tables_from + 4) (omega arith),
              le-leb 0 tables_from (omega arith),
              any_past (holds tables_from (tables_from + 4)) plan.cells _ (behind original plan p) (rw (
                le-leb tables_from tables_from (omega arith),
                le-leb (tables_from + 4) (tables_from + size) (omega arith),
              ) refl),
              le-leb (node_number graph edge.from) (2 * length graph.blocks.firsts) (node_few graph edge.from inside.from),
            ) refl) (code_rule (tables_from + 4) (omega arith)));
      }

  words_fit : AreWords notes
  words_fit =
      let c = counts in
      let z = sizes in
      let delta = delta-to original segments _ can_be_written in
      let firsts = (graph_facts text graph text_is (graph_is original plan)).firsts in
      let meet = notes_meet_rules in
      let numbers : List ℕ = notes.delta ∷ notes.length ∷ notes.tool ∷ notes.start ∷ notes.words ∷ notes.entry
      ∷ notes.base ∷ notes.cells ∷ [] in
      let areas : List ℕ = length notes.segments ∷ flat_map segment_words notes.segments in
      let blocks : List ℕ = length notes.blocks ∷ notes.blocks in
      let links : List ℕ = length notes.edges ∷ flat_map edge_words notes.edges in
      let small : Each Fits numbers = omega (arith, limit, text_is.below, work.few, meet.tool, meet.entry) in
      let marks : List ℕ = length notes.ranges ∷ flat_map range_words notes.ranges in
      all_each Fits (notes_words notes) (each-append Fits (numbers ++ areas ++ blocks ++ links) marks
      (each-append Fits (numbers ++ areas ++ blocks) links (each-append Fits (numbers ++ areas) blocks
      (each-append Fits numbers areas small (
        omega arith,
        each-flat_map Fits segment_words notes.segments (each_any (λ segment. Each Fits (segment_words segment))
            plan.cells _ (behind original plan p) (λ some. omega arith) (omega arith)),
      )) (
        omega arith,
        each_all Fits graph.blocks.firsts (λ k d l.
            omega (arith, firsts.within k l, get_or_default_zero graph.blocks.firsts k d l)),
      )) (
        omega arith,
        each-flat_map Fits edge_words (note_edges graph plan.kind graph.edges plan.snips)
            (edges_fit graph plan.kind plan.cells _ _ (omega arith) work.few edges_in (each_all _ _ work.good)),
      )) (
        omega arith,
        each-flat_map Fits range_words notes.ranges (ranges_all (λ range. Each Fits (range_words range)) (λ edge inside.
            let node = node_few graph edge.from inside.from in omega arith) (ranges_fit graph (tables_from + size) _
            p.ranges (omega arith) (omega arith) code.laid.ascend whole)),
      ))

  holds_original : HoldsOriginal original file
  holds_original = original_is_held original segments _ _ can_be_written

  module _ (bytes : AreBytes original) where
    numbers : AreNumbers original segments (entry_of original plan p)
    numbers =
        let words = all_any HasWords plan.cells cells appended (λ _. omega (arith, sizes)) (omega (arith, sizes)) in
        record { bytes = bytes; words = words; address = omega (arith, sizes) }

    is_edit : IsEdit original plan p place table file
    is_edit =
        let ns = notes_bytes notes in
        record {
          taken = can;
          limit = limit;
          given = bytes;
          workable = work;
          code = code;
          bytes = file_is_bytes original segments _ ns bytes
              (all_any (λ s. AreBytes s.bytes) plan.cells cells appended (λ _ k d l. absurd (omega (arith, l)))
              (code.bytes, (words-bytes p.code, (All-replicate (λ b. b < 256) page_size 0 (omega arith), tt))))
              (notes_are_bytes notes);
          loads = file_loads original segments _ ns can_be_written numbers can_load;
          reads = notes_are_read original segments _ ns can_be_written
              ∙ written_back notes (length file) notes_meet_rules words_fit holds_original.inside;
          mapped = segments_are_mapped original segments _ ns can_be_written numbers can_load.filled;
          entered = entry_is_given original segments _ ns can_be_written numbers;
        }

    has_graph : HasGraph original plan notes
    unfolding view_of entered_of
    has_graph =
        let all = all_each _ notes.ranges (ranges_all (λ range. is_node graph range.node ≡ true)
        (λ edge inside. (number_of graph edge.from inside.from).is)
        (each-then (IsWhole graph) _ p.ranges (λ r whole. whole.node.is) whole)) in
        record { start = refl; words = refl; entry = refl; blocks = refl; edges = refl; tool = refl; cells = refl; places = all }

    has_pages : HasPages original file notes
    has_pages =
        let z = sizes in
        let room = can.room in
        record {
          room = if_any plan.cells (mapping_added cells) ++ mapping_added (table_at table)
              ∷ mapping_added (code_segment original plan p) ∷ [];
          editor = mapping_added page_segment;
          mapped = rw (append_assoc) (rw (any-map mapping_added plan.cells cells) at is_edit.mapped);
          noted = rw (append_assoc, any-map note_of plan.cells (mapping_added cells), z.3, z.2) refl;
          inside = all_any (IsInRoom original) plan.cells (mapping_added cells) _ (λ some. omega arith) (omega arith);
          own = (refl, refl);
          cells = λ some. any_first _ plan.cells (mapping_added cells) _ some (rw (
            le-leb (cells_base original plan) (cells_base original plan) (omega arith),
            le-leb (cells_base original plan + 4 * plan.cells) (cells_base original plan + 4 * plan.cells) (omega arith),
          ) refl);
        }

    place_is : PlacesSay → (n : ℕ) (r : NoteRange) → slice_get p.ranges n ≡ Some r → IsPlace original file r
    place_is say n r e word l plain same =
        let at : IsWordAt (code_base original plan) p.code r.lo (slice_index text.words word) =
        say text graph _ _ _ _ p place text_is (graph_is original plan) code.laid n r e word
        (ap (word_at text) same ∙ word_here original plan word l) plain in
        let z = sizes in
        ap (word_mapped file) at.1
        ∙ code_mapped original file p.code plan.cells (mapping_added cells) (mapping_added (table_at table))
        (mapping_added (code_segment original plan p)) (mapping_added page_segment ∷ [])
        (rw (any-map mapping_added plan.cells cells) at is_edit.mapped)
        code.words (omega arith) (omega arith) (omega arith) refl refl at.0 (slice_get_within p.code at.0 _ at.2)
        ∙ ap (λ w. Some w) (get_or_from_slice_get p.code at.0 (slice_index text.words word) 0 at.2)

    -- what is kept before the load of an open switch is kept before an LD of its block
    no_load : (s : State) → LoadsNoEntry text graph s → IsNoLoad (setup_of original plan code.dead notes) s
    no_load s none k table some at =
        let g = setup_of original plan code.dead notes in
        let cases = cased g text_is (graph_is original plan) in
        let loads = ((are_tables g refl text_is cases).each k table some).loads in
        let t = table_of g refl k table some in
        let l = load_is text (blocks_of g.text g.given) t.o (cases.each k t.o t.is) in
        let load : load_of text t.o ≡ table.load = ap (λ (c : CaseTable). c.load) t.same in
        let before : is_before_jump graph table.load ≡ true =
        any_at (λ (o : Open). nat_le o.approach.first table.load && nat_lt table.load o.approach.jump) g.switches k t.o t.is
        (stands_before t.o.approach.first t.o.approach.jump (load_of text t.o) table.load l.above l.below load) in
        absurd (false≢true (sym (none table.load at before) ∙ rw (at, loads) refl))

    faithful : EditsRunAlike → PlacesSay → IsEdited original plan file
    unfolding is_edit
    faithful alike say =
        let runs = alike original plan p place table file is_edit in
        let e = is_edit in
        let held = holds_original.holds in
        let bound = size_is_bounded original segments _ _ can_be_written (numbers) in
        let small : length file ≤ 1536 * 2 ^ 20 = omega (arith, notes_few, sum_few) in
        -- no word of the text stands at its end
        let places = all_each (IsPlace original file) notes.ranges (ranges_all (IsPlace original file)
        (λ edge inside word l plain same. absurd (omega (arith, same, l)))
        (each_index (IsPlace original file) p.ranges (place_is say))) in
        record {
          faithful = record {
            notes = notes;
            whole = record { loads = e.loads; reads = e.reads; size = refl; holds = held; small = small };
            graph = has_graph;
            pages = has_pages;
            places = places;
            runs = runs.alike;
            counters = work.counters;
          };
          version = refl;
          cost = record {
            room = let z = sizes in
                all_any (IsWithinBound original plan) plan.cells _ (behind original plan p)
                (λ some low. omega arith)
                ((λ low. omega arith), ((λ low. omega arith), ((λ low. absurd (omega (arith, low))), tt)));
            steps = runs.steps;
            dead = code.dead;
            exact = rw (view_graph original plan) code.exact;
            stores = λ args input given read n untouched watched m k first next.
                let sparing = runs.stores args input given read n untouched watched m k first next in
                let strict = λ (none : LoadsNoEntry text (view_of original plan.marks).graph
                (run (start_of original args input) (suc n))).
                no_load (run (start_of original args input) (suc n))
                (subst (λ (z : Graph). LoadsNoEntry text z (run (start_of original args input) (suc n)))
                (view_graph original plan) none) in
                record {
                  spills = sparing.spills;
                  first = λ short. sparing.first (short.0, short.1, strict short.2);
                  alone = λ short. sparing.alone (short.0, short.1, strict short.2);
                  few = λ short. sparing.few (short.0, short.1, strict short.2);
                };
          };
        }

pub edited : EditsRunAlike → PlacesSay → (original : List ℕ) (plan : Plan) → ((dead : ℕ → List Part)
    → AreFit (text_of original plan) (graph_in original plan) plan.snips (pieces_of original plan dead))
    → length original ≤ 2 ^ 26 → AreBytes original → CanEdit original plan → CanDo original plan
    → (p : Placement) (place : ℕ → ℕ → ℕ) (table : TableAt) → IsNewCode original plan p place table
    → IsEdited original plan (edit_file original plan p table)
edited alike say original plan fit limit bytes can work p place table code =
    faithful original plan limit can work p place table code (fit code.dead) bytes alike say
