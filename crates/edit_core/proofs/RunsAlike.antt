-- What was written of an original has runs like the original's.
use Rattle.edit_core.proofs.Common.{◌≡◌, ℕ, suc, ◌+◌, ◌-◌, ◌*◌, ◌%◌, ◌^◌, ◌<◌, ◌≤◌, ◌⊎◌, inl, inr, true, false, nat_le, nat_lt, List, [], ◌∷◌, length, replicate, slice_index, Option, Some, None, refl, ap, sym, ◌∙◌, subst, arith, slice_get, get_or_from_slice_get, slice_get_within, cases_lt, false_from_ne_true, le-ltb, lt-leb, or_left, or_parts, nat_tests, length-replicate, map-map, NoteRange, Notes, holds, image_of, IsText, Words, word_at, Addr, Part, has, State, AreBytes, NoSlot, IsSameAt, StateItem, Register, IsUntouched, pages_of, AreArguments, program_name, start_of, below, is_among, word_at-some, Edge, Node, Block, Graph, node_of, BeginsAt, FetchesOnly, Point, end_of_walk, point_of, edge_at, is_call_or_jump, is_outside, is_unknown, named_on, entered_of, view_of, TableAt, Ascend, HasShortForms, IsLaid, Placement, range_in, memory_word, cell_at, Plan, PiecesFit, CaseTable, EditSetup, EditorData, AtVisit, codes_of, lands_at, piece_list, IsOffPages, are_tables, table_of, cased, accepted-program, ext_get_or, get_or-replicate, get_or-map-range_with_len, length-map-range_with_len, every_part, members, same_sets, found_in, target_of, words_at, IsPlaced, Pieces, IsOffNoted, IsTableFor, PiecesMakeImages, pieces_in, Linked, RunFacts, short_bound, visits_by, bound_in, Answered, KeptIn, ends_by}
use Rattle.cfg_view.proofs.Given.{entry_leads}
use Rattle.walk_counts.proofs.Fetching.{only_text_is_fetched}
use Rattle.walk_counts.proofs.Files.{begins, by_case, entry_is, opened}
use Rattle.switch_runs.proofs.Starts.{text_is_held}
use Rattle.image_code.specs.Cost.{is_out}
use Rattle.image_code.proofs.Points.{visited_by}
use Rattle.edit_core.specs.Written.{EditsRunAlike, IsEdit, setup_of, addr, cases_at, cells_base, code_base, first_table, foreign_of, given_of, graph_in, landings_of, notes_on, second_table, segment_size, table_base, text_of}
use Rattle.edit_core.proofs.Bounds.{operations_few}
use Rattle.edit_core.proofs.ByTable.{by_table, entry_enters, entry_outside}
use Rattle.edit_core.proofs.Completed.{jump_kind, unknown_lives}
use Rattle.edit_core.proofs.Kept.{keeps_what_lives}
use Rattle.edit_core.proofs.Edits.{word_here}
use Rattle.edit_core.proofs.Graphs.{copied_inside, graph_cut, graph_is}
use Rattle.edit_core.proofs.Landings.{map_below}
use Rattle.edit_core.proofs.Noted.{behind, code_holds}
use Rattle.edit_core.proofs.Off.{off_here, off_is, ranges_beside}
use Rattle.edit_core.proofs.Fronts.{passed, past_fails}
use Rattle.edit_core.proofs.Originals.{image_text}
use Rattle.edit_core.proofs.Snippets.{cells_in_range, code_short, good_on, snippet_does}
use Rattle.edit_core.proofs.Tables.{cases_for}
use Rattle.edit_core.proofs.Starts.{cell_is_own, cell_zero, file_valid, frame, has_cases, has_code, has_table, is_framed, memory_alike, only_code, original_valid, owned}
use Rattle.edit_core.proofs.Steps.{original_fit}
use Rattle.edit_core.proofs.Views.{bound_is}
use Rattle.edit_core.proofs.Induction.{edits_answer}

-- ranges lie in the code's page
none_beside : (from to a : ℕ) (rs : List NoteRange) → Ascend from to rs → (a < from) ⊎ (to ≤ a) → range_in rs a ≡ None
none_beside from to a [] ascend beside = refl
none_beside from to a (r ∷ rs) ascend (inl below) =
    let (low, some, later) = ascend in
    cc (lt-leb r.lo a (omega arith), none_beside r.hi to a rs later (inl (omega arith)))
none_beside from to a (r ∷ rs) ascend (inr past) =
    let later = ends_by rs r.hi to ascend.2 in
    passed (nat_le r.lo a) (nat_lt a r.hi) r _ (le-ltb a r.hi (omega arith)) ∙ none_beside r.hi to a rs ascend.2 (inr past)

-- an address that a page doesn't hold
beside_page : (start size a end : ℕ) → holds a (a + 1) (record { start = start; length = size }) ≡ false
    → end ≤ start + size → (a < start) ⊎ (end ≤ a)
beside_page start size a end none few = elim (cases_lt a start) [
  | inl below ↦ inl below
  | inr from ↦ inr (grind (arith, nat_tests))
]

-- what the notes say of the code, behind the table
module _ (original : List ℕ) (plan : Plan) (p : Placement) where
  abbrev text : Words
  text = text_of original plan

  abbrev graph : Graph
  graph = graph_in original plan

  abbrev cells_from : ℕ
  cells_from = cells_base original plan

  abbrev notes : Notes
  notes = notes_on original plan p

  module _ (place : ℕ → ℕ → ℕ) (table : TableAt) (file : List ℕ) (is : IsEdit original plan p place table file) where
    base_aligned : cells_from % 4096 ≡ 0
    base_aligned = let base = (accepted-program original is.taken.sound).base in omega arith

    abbrev dead : ℕ → List Part
    dead = is.code.dead

    abbrev its : EditSetup
    its = setup_of original plan dead notes

    abbrev parts : Pieces
    parts = pieces_in text graph table.base (cases_at text table.base) (codes_of cells_from dead plan.snips)

    abbrev surroundings : EditorData
    surroundings = frame text cells_from plan.cells table

    abbrev IsHere : Node → Point → State → Type 0
    IsHere = AtVisit its parts (code_base original plan) p surroundings

    -- nothing is dead behind the edge of a jump
    none_dead : (edge : ℕ) → is_out (slice_get graph.edges edge) ≡ true → dead edge ≡ []
    unfolding members every_part
    none_dead edge out = by (slice_get graph.edges edge) refl out
      where
        by : (o : Option Edge) → slice_get graph.edges edge ≡ o → is_out o ≡ true → dead edge ≡ []
        by None at out = absurd (cc)
        by (Some e) at out =
            let within = slice_get_within graph.edges edge e at in
            let unknown : is_unknown (edge_at graph edge) ≡ true =
            ap (λ (x : Edge). is_unknown x) (get_or_from_slice_get graph.edges edge e _ at)
            ∙ or_left (is_call_or_jump e.kind) (is_outside e.to) (jump_kind e.kind out) in
            same_sets (dead edge) [] (is.code.exact.sets edge within) refl (λ part member.
            false_from_ne_true (has (dead edge) part) (λ gone. (is.code.exact.all edge within part member).0 gone
            (unknown_lives text graph (named_on plan.snips) edge unknown part member)))

    placed : IsPlaced its parts (code_base original plan) p place surroundings
    placed =
        let base = is.code.base in
        let aligned : cells_from % 4 ≡ 0 = omega (arith, base_aligned) in
        let low : cell_at cells_from plan.cells ≤ 2 ^ 31 = omega (arith, base, is.code.leads.first.whole.below) in
        let good = is.workable.good in
        record {
          laid = subst (λ (a : ℕ). IsLaid (piece_list text graph a (cases_at text a)
              (codes_of cells_from dead plan.snips)) (code_base original plan) p place) (sym base) is.code.laid;
          noted = record {
            inside = λ a from to. code_holds original plan p a (a + 1) from (omega (arith, to));
            ranges = λ a from to. ranges_beside text graph _ p.ranges a (inr (omega (arith, from)));
            outside = λ a out.
                let start = table_base original plan in
                let code = code_base original plan in
                let first = or_parts (holds a (a + 1) (record { start = start; length = segment_size text graph })) _
                (past_fails (holds a (a + 1)) plan.cells (record { start = cells_from; length = 4 * plan.cells })
                (behind original plan p) out) in
                let second = or_parts (holds a (a + 1) (record { start = code; length = 4 * length p.code })) _ first.1 in
                ranges_beside text graph start p.ranges a (beside_page _ _ a _ first.0 (omega arith))
                ∙ none_beside code _ a p.ranges is.code.laid.ascend (beside_page _ _ a _ second.0 (omega arith));
            blocks = refl;
          };
          frame = is_framed original plan p table its refl base is.code.leads;
          cells = record {
            aligned = aligned;
            low = low;
            stored = λ cell l. cell_is_own cells_from plan.cells cell l;
            named = λ edge cell is_one.
                cells_in_range plan.cells _ (good_on plan.cells plan.snips good edge).below cell is_one;
            does = snippet_does cells_from plan.cells aligned low dead plan.snips good;
            jumps = none_dead;
            short = code_short cells_from dead plan.snips;
          };
        }

    abbrev entry : ℕ
    entry = (image_of original).entry

    text_is : IsText text
    text_is = image_text original is.taken.sound

    -- no form is long where little room is asked
    small_short : PiecesFit → bound_in original plan ≤ short_bound → HasShortForms parts.list place
    small_short fits small =
        let fit = original_fit fits original plan is.taken is.workable dead in
        let operations = operations_few graph plan.kind plan.cells plan.snips is.workable in
        let few : 4 * length p.code < short_bound =
        omega (arith, fit.bytes, is.code.size, operations, bound_is original plan) in
        subst (λ (a : ℕ). HasShortForms (piece_list text graph a (cases_at text a)
        (codes_of cells_from dead plan.snips)) place) (sym is.code.base) (is.code.short few)

    -- where the table leads
    found_at : (a : ℕ) → a < 2 ^ 32 → a % 4 ≡ 0 → (o : Option ℕ) → word_at text a ≡ o
        → found_in (second_table text table) a
        ≡ target_of (landings_of text graph plan.snips p) (foreign_of text graph p) o
    found_at a low aligned o e =
        let same : a - a % 4 ≡ a = omega (arith, aligned) in cc (is.code.leads.second.finds a low aligned, same, e)

    table_for : IsTableFor text graph plan.snips p (first_table text table) (second_table text table)
    table_for = record {
      whole = is.code.leads.first.whole;
      behind = refl;
      words = λ a word low aligned e.
          let place : ℕ → ℕ = λ k. slice_index p.at (lands_at text graph plan.snips k) in
          found_at a low aligned (Some word) e
          ∙ ap (λ (ns : List ℕ). slice_index ns word) (map-map (λ (a : Addr). a.0) (λ (k : ℕ). addr (place k)) _)
          ∙ map_below place (length text.words) word 0 (word_at-some text a word e).within;
      others = λ a low aligned e. found_at a low aligned None e;
    }

    off_noted : IsOffNoted its (table_base original plan)
    off_noted number edge at off =
        let start = table_base original plan in
        let firsts = (graph_cut text graph text_is (graph_is original plan)).firsts in
        let goes_on = copied_inside text (given_of original plan) entry text_is in
        rw (off_is text graph start refl firsts goes_on number edge at off) (off_here text graph start edge p.ranges)

    module _ (make : PiecesMakeImages) (fits : PiecesFit) (args : List (List ℕ)) (input : List ℕ) (given : AreArguments args)
        (read : AreBytes input) where
      abbrev s0 : State
      s0 = start_of original args input

      abbrev t0 : State
      t0 = start_of file args input

      fetches : FetchesOnly text s0
      unfolding image_of
      fetches = only_text_is_fetched original args input is.taken.sound is.given

      begins_at : BeginsAt text entry s0
      unfolding image_of
      begins_at = begins original args input (entry_is original is.taken.sound)

      -- a routine starts at the entry
      entry_among : is_among (given_of original plan) entry ≡ true
      entry_among = entry_leads (image_of original) plan.marks begins_at.within

      same_items : (item : StateItem) → IsSameAt item s0 t0
      unfolding start_of
      same_items (Register n) = refl
      same_items _ = refl

      -- at the beginning the cells are zeros, and no open switch has its load there
      linked : Linked its entry IsHere (KeptIn its entry s0) s0 t0 0 0
      unfolding start_of end_of_walk
      linked = record {
        live = refl;
        here =
            let entry_here : word_at text s0.pc ≡ Some entry =
            cc (begins_at.pc, word_here original plan entry begins_at.within) in
            record {
              valid = file_valid original plan p place table file is args input given read;
              live = refl;
              at = is.entered ∙ ap (slice_index p.at)
                  (entry_enters text (given_of original plan) entry text_is entry_among begins_at.within)
                  ∙ ap (λ found. visited_by its parts p surroundings (node_of graph.blocks (Some entry)) (point_of s0)
                  found NoSlot) (sym entry_here);
              npc = refl;
              slot = refl;
              memory = record {
                code = has_code original plan p place table file is (program_name ∷ args);
                only = only_code original plan p place table file is (program_name ∷ args);
                ours = owned original plan p place table file is (program_name ∷ args);
                table = has_table original plan p place table file is (program_name ∷ args);
                cases = has_cases original plan p place table file is (program_name ∷ args);
              };
              target_in_page = λ taken way. absurd (cc);
            };
        items = λ item is_item kept. same_items item;
        kept = λ k o some start more e low came.
            let t = table_of its refl k o some in
            let none : 0 + start ≡ 0 = omega (arith, e) in
            let first = rw none at (came 0 (omega arith)) in
            absurd (entry_outside text (given_of original plan) entry text_is entry_among begins_at.within k t.o t.is
            (first.itself ∙ ap (λ (c : CaseTable). Block (record { 0 = c.block })) (sym t.same)));
        together = record {
          world = record {
            window = refl;
            valid = refl;
            input = refl;
            memory = memory_alike original plan p place table file is (program_name ∷ args);
            registers = refl;
          };
          puts = λ descriptor. refl;
          cells =
              let words = words_at cells_from plan.cells t0.memory in
              let zeros : length {A = ℕ} (replicate plan.cells 0) ≡ plan.cells = length-replicate plan.cells 0 in
              let size : length words ≡ plan.cells =
              length-map-range_with_len (λ k. memory_word t0.memory (cell_at cells_from k)) 0 plan.cells in
              ext_get_or 0 words (replicate plan.cells 0) (size ∙ sym zeros) (λ i low.
              let within : i < plan.cells = omega (arith, low, size) in
              get_or-map-range_with_len (λ k. memory_word t0.memory (cell_at cells_from k)) 0 plan.cells i i 0
              within (let e : 0 + i ≡ i = omega arith in e)
              ∙ cell_zero original plan p place table file is (program_name ∷ args) i within
              ∙ sym (get_or-replicate plan.cells i 0 0 within));
        };
      }

      rests : RunFacts its entry (IsOffPages its) IsHere (HasShortForms parts.list place) (KeptIn its entry s0) s0 t0
      unfolding image_of
      rests =
          let base = is.code.base in
          let valid = original_valid original plan p place table file is args input given read in
          let leads = given_of original plan in
          let are_opened = opened original args input leads is.taken.sound is.given valid entry_among in
          let by_cases = by_case original args input leads is.taken.sound is.given valid entry_among in
          let holds_text = text_is_held original args input is.taken.sound is.given in
          record {
            text = text_is;
            first_valid = valid;
            second_valid = file_valid original plan p place table file is args input given read;
            fetches = fetches;
            begins = begins_at;
            simulates = make its (codes_of cells_from dead plan.snips) (code_base original plan) p place
                surroundings text_is (graph_is original plan) refl placed table_for
                (cases_for text graph p (landings_of text graph plan.snips p) (foreign_of text graph p) table is.code.leads
                (omega (arith, base, base_aligned)) (λ k. (is.code.laid.aligned k).1)) (omega (arith, base))
                (rw base off_noted);
            keeping = keeps_what_lives its entry s0 text_is fetches begins_at are_opened by_cases is.code.exact
                (λ k d l. (is.workable.good k d l).are_ops);
            opened = are_opened;
            by_case = by_cases;
            opens = are_tables its refl text_is (cased its text_is (graph_is original plan));
            by_table = by_table its entry s0 refl refl text_is valid fetches holds_text begins_at entry_among;
            begin = 0;
            soon = omega arith;
            first = linked;
            early = λ j below. absurd (omega (arith, below));
          }

      answers : (n : ℕ) → IsUntouched (pages_of notes) s0 n → Answered its entry (HasShortForms parts.list place) s0 t0 n
      answers n untouched = edits_answer its parts (code_base original plan) p place surroundings entry s0 t0 n rests untouched

-- the graph of the view is that of the edit
pub edits_run_alike : PiecesMakeImages → PiecesFit → EditsRunAlike
unfolding view_of entered_of
edits_run_alike make fits original plan p place table file is =
    let all = answers original plan p place table file is make fits in
    let short = small_short original plan p place table file is fits in
    record {
      alike = λ args input given read. record {
        answered = λ n untouched.
            let now = all args input given read n untouched in
            let last : n ≤ n = omega arith in
            search (now.moments n, now.answers n last, now.cells n last, now.over n last);
        stops = λ m untouched.
            let n = visits_by (notes_on original plan p) (start_of file args input) m in
            (all args input given read n untouched).stops m refl;
        leads = λ n untouched apart. (all args input given read n untouched).leads apart;
      };
      steps = λ args input given read. record {
        soon = λ untouched m least. (all args input given read 0 untouched).soon m least;
        bounded = λ n untouched. (all args input given read (suc n) untouched).bounded n (omega arith);
      };
      stores = λ args input given read n untouched watched m k first next.
          let sparing = (all args input given read (suc n) untouched).spared n (omega arith) m k first next watched in
          record {
            spills = sparing.spills;
            first = λ small. sparing.first (small.0, short small.1, small.2);
            alone = λ small. sparing.alone (small.0, short small.1, small.2);
            few = λ small. sparing.few (small.0, short small.1, small.2);
          };
    }
