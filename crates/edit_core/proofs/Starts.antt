-- How a written file starts: with the words of the tables, of the cells and of the editor's page, with its code, and
-- otherwise with the memory of its original.
use Rattle.edit_core.proofs.Common.{◌≡◌, ℕ, zero, suc, ◌+◌, ◌-◌, ◌*◌, ◌^◌, ◌<◌, ◌≤◌, ◌⊎◌, inl, inr, Bool, true, false, cond, List, [], ◌∷◌, ◌++◌, length, length-append, map, replicate, drop, Some, None, refl, ap, ◌∙◌, arith, find, range_with_len, cases_Bool, cases_lt, cond_both, nat_tests, append_assoc, length-replicate, Words, Mapping, mappings, accepted-program, kept, mapping_added, Region, region_of, IsApart, IsApartFromAll, Span, start_memory, stack_region, memory_word, TableAt, Placement, EditSetup, EditorData, pages_of, cell_at, Plan, append-nil, drop-replicate, length-drop, take-replicate, Memory, covers, region_at, empty_heap, heap_room, heap_start, HasTable, table_word, IsEditorData, IsTableIn, editor_page, page_size, nat_eq, sym, and_assoc, has_flag, accepted, not_executable, is_code, AreBytes, IsValid, AreArguments, start_of, bit_and, loads_inside, IsSameOutside, slice_index, list_any, slice_get_within, get_or_from_slice_get, big_number, words_bytes, length-words_bytes, fetch_of, list_any-append, code_of, fetch_from, IsBeside, IsEdit, cells_at, cells_base, code_base, code_segment, if_any, page_segment, table_at}
use Rattle.std.specs.Int.Bits.{and_zero_r}
use Rattle.elf32_write.proofs.FileBytes.{words-bytes}
use Rattle.v8_memory.specs.Regions as regions
use Rattle.v8_process.specs.Fetched.{IsFirstCode}
use Rattle.v8_process.specs.Alike.{AreSameMappings, span_of}
use Rattle.v8_process.proofs.Alike.{starts_alike}
use Rattle.v8_process.proofs.Arguments.{arguments_fit}
use Rattle.v8_process.proofs.Fetched.{code-from, code_is_fetched}
use Rattle.v8_process.proofs.Valid.{mappings_have_room, starts_valid}
use Rattle.code_runs.specs.Ours.{HasNot, HasWordAt, IsAmongWords, IsIn, IsOurs}
use Rattle.code_runs.specs.Page.{page_word}
use Rattle.addr_translate.proofs.Regions.{regions_stand}
use Rattle.layout.specs.Running.{HasCode}
use Rattle.edit_core.specs.Written.{TablesMatch, added, cases_table, first_table, graph_in, notes_on, second_table, segment_size, table_base, tables_size, text_of}
use Rattle.edit_core.proofs.Fronts.{any-map, any_fails, by_any, past_any}
use Rattle.edit_core.proofs.Mapped.{original_covers, word_among}
use Rattle.edit_core.proofs.Steps.{segment_is}
use Rattle.edit_core.proofs.Tables.{cases_word, second_word}

-- the words that new code stores: eight of the page, and the cells
abbrev words_from : ℕ → ℕ → ℕ → List ℕ → List ℕ
words_from base from count more = map (cell_at base) (range_with_len from count) ++ more

abbrev own_words : ℕ → ℕ → List ℕ
own_words base cells = words_from (page_word 0) 0 8 (words_from base 0 cells [])

-- one of some words, by its address
pub record IsWordOf (base count a : ℕ) : Type 0 where
  pub from : base ≤ a
  pub to : a + 4 ≤ base + 4 * count

word_of : (base from count a : ℕ) (more : List ℕ) → IsAmongWords (words_from base from count more) a
    → IsWordOf base (from + count) a ⊎ IsAmongWords more a
word_of base from zero a more among = inr among
word_of base from (suc n) a more (inl is) = inl (omega (arith, is))
word_of base from (suc n) a more (inr among) =
    elim (word_of base (from + 1) n a more among) [ inl is ↦ inl (omega (arith, is.from, is.to)) | inr is ↦ inr is ]

among_words : (base from count word : ℕ) (more : List ℕ) → from ≤ word → word < from + count
    → IsAmongWords (words_from base from count more) (cell_at base word)
among_words base from zero word more above below = absurd (omega (arith, above, below))
among_words base from (suc n) word more above below = elim (cases_lt from word) [
  | inl later ↦ inr (among_words base (from + 1) n word more (omega (arith, later)) (omega (arith, below)))
  | inr here ↦ inl (omega (arith, here, above))
]

-- an own word is one of the page or a cell
own_either : (base cells a : ℕ) → IsAmongWords (own_words base cells) a → IsWordOf (page_word 0) 8 a ⊎ IsWordOf base cells a
own_either base cells a among = elim (word_of (page_word 0) 0 8 a _ among) [
  | inl here ↦ inl here
  | inr more ↦ elim (word_of base 0 cells a [] more) [ inl is ↦ inr (omega (arith, is.from, is.to)) | inr x ↦ absurd x ]
]

pub cell_is_own : (base cells cell : ℕ) → cell < cells → IsAmongWords (own_words base cells) (cell_at base cell)
cell_is_own base cells cell l =
    inr (inr (inr (inr (inr (inr (inr (inr (among_words base 0 cells cell [] (omega arith) (omega (arith, l))))))))))

abbrev pub frame : Words → ℕ → ℕ → TableAt → EditorData
frame text base cells tables = record {
  table = first_table text tables;
  halves = second_table text tables;
  cases = cases_table text tables;
  stored = own_words base cells;
}

-- ---- pages behind that of the cells

module _ (original : List ℕ) (plan : Plan) (p : Placement) where
  abbrev behind_spans : List Span
  behind_spans =
      record { from = table_base original plan; count = segment_size (text_of original plan) (graph_in original plan) }
      ∷ record { from = code_base original plan; count = 4 * length p.code }
      ∷ record { from = editor_page; count = page_size } ∷ []

  spans_are : pages_of (notes_on original plan p)
      ≡ if_any plan.cells (record { from = cells_base original plan; count = 4 * plan.cells }) ++ behind_spans
  spans_are = any-map (λ segment. record { from = segment.start; count = segment.length }) plan.cells _ _

  behind_in : (a : ℕ) → IsIn behind_spans a → IsIn (pages_of (notes_on original plan p)) a
  behind_in a is = rw spans_are (by_any (λ xs. IsIn xs a) plan.cells _ _ (λ _. is) (λ _. inr is))

  -- the pages of the notes: that of the cells, the tables', the code's and the editor's
  pub is_framed : (table : TableAt) (g : EditSetup) → g.notes ≡ notes_on original plan p
      → table.base ≡ table_base original plan
      → TablesMatch (text_of original plan) (graph_in original plan) plan.snips p table
      → IsEditorData g (frame (text_of original plan) (cells_base original plan) plan.cells table)
  is_framed table g same base leads =
      let text = text_of original plan in
      let last = length-drop (tables_size text) table.bytes in
      let size = segment_is text (graph_in original plan) plan.snips p table leads in
      let part_in : (part : TableAt) → table.base ≤ part.base
      → part.base + length part.bytes ≤ table.base + length table.bytes → IsTableIn g (own_words _ plan.cells) part =
      λ part above below. record {
        within = λ a from to. rw same (behind_in a (inl (omega (arith, from, to, above, below, base, size))));
        apart = λ a among. elim (own_either (cells_base original plan) plan.cells a among) [
          | inl is ↦ inr (omega (arith, is.from, below, leads.low))
          | inr is ↦ inl (omega (arith, is.to, base, above))
        ];
      } in
      record {
        stored = rw same (record {
          first = inl refl;
          within = λ a among. elim (own_either (cells_base original plan) plan.cells a among) [
            | inl is ↦ behind_in a (inr (inr (inl (is.from, omega (arith, is.to)))))
            | inr is ↦ rw spans_are (by_any (λ xs. IsIn xs a) plan.cells _ _ (λ e. absurd (omega (arith, e, is.from, is.to)))
                (λ _. inl (is.from, is.to)))
          ];
        });
        page = λ n l. among_words (page_word 0) 0 8 n _ (omega arith) (omega (arith, l));
        table = part_in (second_table text table) (omega (arith, leads.second.size)) (omega (arith, leads.second.size, size));
        cases = part_in (cases_table text table) (omega arith) (omega (arith, last, size));
        whole = leads.second.whole;
      }

-- ---- regions

-- where none of some mappings has the word, what is behind them does
found_behind : (ms ns : List Mapping) (r : Region) (a : ℕ) → find (λ m. covers a 4 (region_of m)) ms ≡ None
    → find (covers a 4) (map region_of (ms ++ ns) ++ r ∷ []) ≡ find (covers a 4) (map region_of ns ++ r ∷ [])
found_behind [] ns r a none = refl
found_behind (m ∷ ms) ns r a none = let rest = found_behind ms ns r a in grind (arith, rest, none)

-- where these bytes are found is no such word: no first mapping has it, the others are apart from the bytes
has_not : (ms ns : List Mapping) (r : Region) (a from count : ℕ) → 0 < count
    → find (λ m. covers a 4 (region_of m)) ms ≡ None
    → IsApartFromAll (map span_of ns) (record { from = from; count = count }) → covers a 4 r ≡ false
    → HasNot a (find (covers from count) (map region_of (ms ++ ns) ++ r ∷ []))
has_not [] [] r a from count some none apart last =
    cond_both (covers from count r) (Some r) None (HasNot a) (λ _. last) (λ _. tt)
has_not [] (n ∷ ns) r a from count some none apart last =
    let here : IsApart (span_of n) (record { from = from; count = count }) = apart.0 in
    cond_both (covers from count (region_of n)) (Some (region_of n)) _ (HasNot a) (λ found. grind (arith, nat_tests))
    (λ _. has_not [] ns r a from count some none apart.1 last)
has_not (m ∷ ms) ns r a from count some none apart last =
    cond_both (covers from count (region_of m)) (Some (region_of m)) _ (HasNot a) (λ _. grind (arith, none))
    (λ _. has_not ms ns r a from count some (grind (arith, none)) apart last)

within : (a : ℕ) (r : Region) → r.start ≤ a → a + 4 ≤ r.start + r.size → covers a 4 r ≡ true
within a r from to = grind (arith, nat_tests)

-- a region that ends below an address, or begins above it, has no word there
outside : (a : ℕ) (r : Region) → (a < r.start) ⊎ (r.start + r.size < a + 4) → covers a 4 r ≡ false
outside a r beside = grind (arith, nat_tests)

beside_region : (r : Region) (a : ℕ) → (a < r.start) ⊎ (r.start + r.size ≤ a) → fetch_from (r ∷ []) a ≡ None
beside_region r a beside = grind (arith, nat_tests)

-- ---- what is kept is no code, and otherwise as it was

-- a flag other than PF_X stays, where the text loses its leave to be executed
flag_kept : (flag flags : ℕ) (code : Bool) → bit_and 0xfffffffe flag ≡ flag
    → has_flag flag flags ≡ has_flag flag (cond code (not_executable flags) flags)
flag_kept flag flags true other =
    ap (λ n. nat_eq n flag) (sym (and_assoc flag flags 0xfffffffe ∙ ap (bit_and flags) other))
flag_kept flag flags false other = refl

all_kept : (ms : List Mapping) → AreSameMappings ms (map kept ms)
all_kept [] = tt
all_kept (m ∷ ms) =
    let readable = flag_kept 4 m.flags (is_code m) refl in
    let writable = flag_kept 2 m.flags (is_code m) refl in
    (record { start = refl; length = refl; readable = readable; writable = writable; first = refl }, all_kept ms)

none_kept : (ms : List Mapping) → list_any (λ m. regions.is_code (region_of m)) (map kept ms) ≡ false
none_kept [] = refl
none_kept (m ∷ ms) =
    let flag = ap (λ (n : ℕ). nat_eq n 1) (and_assoc 1 m.flags 0xfffffffe ∙ and_zero_r m.flags) in
    elim (cases_Bool (is_code m)) [ inl is ↦ rw (is, flag, none_kept ms) refl | inr is ↦ rw (is, is, none_kept ms) refl ]

-- ---- a written file

module _ (original : List ℕ) (plan : Plan) (p : Placement) (place : ℕ → ℕ → ℕ) (table : TableAt) (file : List ℕ)
    (is : IsEdit original plan p place table file) (texts : List (List ℕ)) where
  abbrev text : Words
  text = text_of original plan

  abbrev cells_from : ℕ
  cells_from = cells_base original plan

  abbrev memory : Memory
  memory = start_memory file texts

  abbrev cells : Mapping
  cells = mapping_added (cells_at cells_from plan.cells)

  abbrev tables : Mapping
  tables = mapping_added (table_at table)

  abbrev its_code : Mapping
  its_code = mapping_added (code_segment original plan p)

  abbrev after : List Region
  after = region_of tables ∷ region_of its_code ∷ region_of (mapping_added page_segment) ∷ stack_region texts ∷ []

  -- nothing that is kept has words above the original
  found_past : (a : ℕ) → cells_from ≤ a
      → find (covers a 4) memory.regions ≡ find (covers a 4) (if_any plan.cells (region_of cells) ++ after)
  found_past a above =
      let none = original_covers original a above in
      let its = map mapping_added (added original plan p table) in
      let behind = found_behind (map kept (mappings original)) its (stack_region texts) a none in
      rw (is.mapped, behind, any-map mapping_added plan.cells, any-map region_of plan.cells) (simp append_assoc)

  -- a word of the region that covers it first
  word_at : (a : ℕ) (m : Mapping) → find (covers a 4) memory.regions ≡ Some (region_of m)
      → (region_of m).readable ≡ true → (a + 4 ≤ heap_start) ⊎ (heap_start + heap_room ≤ a)
      → HasWordAt a (region_of m).writable memory
  word_at a m at readable away =
      let whole : (region_of m).size ≤ length (region_of m).bytes =
      simp (length-append, length-replicate) (omega arith) in
      search arith

  -- ---- the tables

  -- each word of a part can be loaded, and not stored
  table_part : (part : TableAt) → table.base ≤ part.base → part.base + length part.bytes ≤ table.base + length table.bytes
      → ((a : ℕ) → part.base ≤ a → a + 4 ≤ part.base + length part.bytes → table_word table a ≡ table_word part a)
      → HasTable part memory
  table_part part above below same a from to aligned =
      let base = is.code.base in
      let found : (a : ℕ) → table.base ≤ a → a + 4 ≤ table.base + length table.bytes
      → find (covers a 4) memory.regions ≡ Some (region_of tables) = λ a from to.
      let low = outside a (region_of cells) (inr (omega (arith, base, from))) in
      let past = past_any (covers a 4) plan.cells (region_of cells) after (λ _. low) in
      cc (found_past a (omega (arith, base, from)), past, within a (region_of tables) from to) in
      let none : length table.bytes - length table.bytes ≡ 0 = omega arith in
      let stands = regions_stand memory table (region_of tables) refl (cc (none, append-nil table.bytes)) refl
      (λ a from to. cc (outside a empty_heap (inl (omega (arith, to, is.code.leads.low))), found a from to)) in
      let begin : table.base ≤ a = omega (arith, from, above) in
      let end : a + 4 ≤ table.base + length table.bytes = omega (arith, to, below) in (
        word_at a tables (found a begin end) refl (inl (omega (arith, end, is.code.leads.low))),
        stands.same a begin end aligned ∙ same a from to,
      )

  pub has_table : HasTable (second_table text table) memory
  has_table =
      let leads = is.code.leads in
      table_part (second_table text table) (omega arith) (omega (arith, leads.size, leads.second.size))
      (λ a from to. second_word text table a from (omega (arith, to, leads.second.size)) (omega (arith, leads.size)))

  -- and so can the words with the pieces of Case edges
  pub has_cases : HasTable (cases_table text table) memory
  has_cases =
      let long = length-drop (tables_size text) table.bytes in
      table_part (cases_table text table) (omega arith) (omega (arith, is.code.leads.size, long))
      (λ a from _. cases_word text table a from)

  -- ---- the words that are stored

  -- they have regions, and nothing that is kept, nor the stack, has them
  abbrev IsOwn : ℕ → Type 0
  IsOwn a = HasWordAt a true memory × ((cells_from ≤ a) × (covers a 4 (stack_region texts) ≡ false))

  page_own : (a : ℕ) → IsWordOf (page_word 0) 8 a → IsOwn a
  page_own a of =
      let page = region_of (mapping_added page_segment) in
      let above : cells_from ≤ a = omega (arith, (accepted-program original is.taken.sound).below, of.from) in
      let cells_low = outside a (region_of cells) (inr (omega (arith, is.code.leads.low, is.code.base, of.from))) in
      let table_low = outside a (region_of tables) (inr (omega (arith, is.code.leads.low, of.from))) in
      let code_low = outside a (region_of its_code) (inr (omega (arith, is.code.laid.low, of.from))) in
      let past = past_any (covers a 4) plan.cells (region_of cells) after (λ _. cells_low) in
      let found : find (covers a 4) memory.regions ≡ Some page =
      cc (found_past a above, past, table_low, code_low, within a page of.from (omega (arith, of.to))) in (
        word_at a (mapping_added page_segment) found refl (inr (omega (arith, of.from))),
        (above, outside a (stack_region texts) (inr (omega (arith, of.from)))),
      )

  cell_found : (a : ℕ) → IsWordOf cells_from plan.cells a → find (covers a 4) memory.regions ≡ Some (region_of cells)
  cell_found a of =
      found_past a of.from ∙ by_any (λ rs. find (covers a 4) rs ≡ Some (region_of cells)) plan.cells _ _
      (λ e. absurd (omega (arith, e, of.from, of.to))) (λ _. let here = within a (region_of cells) of.from of.to in cc)

  cell_own : (a : ℕ) → IsWordOf cells_from plan.cells a → IsOwn a
  cell_own a of =
      let low : a + 4 ≤ 2 ^ 31 = omega (arith, is.code.base, of.to, is.code.leads.low) in
      (word_at a cells (cell_found a of) refl (inl low), (of.from, outside a (stack_region texts) (inl (omega (arith, low)))))

  pages_are : map span_of (map mapping_added (added original plan p table)) ≡ pages_of (notes_on original plan p)
  pages_are =
      let size = segment_is text (graph_in original plan) plan.snips p table is.code.leads in
      rw (any-map mapping_added plan.cells, any-map span_of plan.cells, spans_are original plan p) (cc (is.code.base, size))

  pub owned : IsOurs (pages_of (notes_on original plan p)) (own_words cells_from plan.cells) memory
  owned =
      let own : (a : ℕ) → IsAmongWords (own_words cells_from plan.cells) a → IsOwn a =
      λ a among. elim (own_either cells_from plan.cells a among) [ inl of ↦ page_own a of | inr of ↦ cell_own a of ] in
      record {
        words = λ a among. (own a among).0;
        alone = λ a from count among some apart.
            let is_own = own a among in
            rw is.mapped (has_not (map kept (mappings original)) _ _ a from count some
            (original_covers original a is_own.1.0) (rw pages_are apart) is_own.1.1);
      }

  -- the cells begin as zeros
  pub cell_zero : (cell : ℕ) → cell < plan.cells → memory_word memory (cell_at cells_from cell) ≡ 0
  unfolding memory_word
  cell_zero cell l =
      let a = cell_at cells_from cell in
      let at = a - cells_from in
      let of : IsWordOf cells_from plan.cells a = omega (arith, l) in
      let found : region_at memory a 4 ≡ Some (region_of cells) =
      cc (outside a empty_heap (inl (omega (arith, of.to, is.code.base, is.code.leads.low))), cell_found a of) in
      let none : 4 * plan.cells - 0 ≡ 4 * plan.cells = omega arith in
      let zeros = take-replicate {X = ℕ} 4 (4 * plan.cells - at) 0 (omega (arith, l)) in
      rw (found, none, drop-replicate {X = ℕ} at (4 * plan.cells) 0, zeros) refl

  -- ---- memory is the same but for the pages, and the first states are valid

  pub memory_alike : IsSameOutside (pages_of (notes_on original plan p)) (start_memory original texts) memory
  memory_alike = rw pages_are at (starts_alike original file _ _ is.mapped (all_kept (mappings original)) texts)

  module _ (input : List ℕ) (given : AreArguments texts) (read : AreBytes input) where
    pub original_valid : IsValid (start_of original texts input)
    original_valid =
        let room = mappings_have_room original (accepted original is.taken.sound).segment_file in
        starts_valid original texts input is.given given.bytes read room (arguments_fit texts given)

    pub file_valid : IsValid (start_of file texts input)
    file_valid =
        let room = mappings_have_room file (loads_inside file is.loads) in
        starts_valid file texts input is.bytes given.bytes read room (arguments_fit texts given)

  -- ---- the code can be fetched, and nothing else

  abbrev before : List Mapping
  before = map kept (mappings original) ++ (if_any plan.cells cells ++ tables ∷ [])

  none_before : list_any (λ m. regions.is_code (region_of m)) before ≡ false
  none_before =
      let none = any_fails (λ (m : Mapping). regions.is_code (region_of m)) plan.cells cells (λ _. refl) in
      simp (list_any-append, none_kept (mappings original), none)

  mapped : mappings file ≡ before ++ its_code ∷ mapping_added page_segment ∷ []
  mapped = simp (is.mapped, any-map, append_assoc)

  -- each word of the code is fetched at its place
  fetched : (n : ℕ) → n < length p.code → fetch_of memory (code_base original plan + 4 * n) ≡ Some (slice_index p.code n)
  fetched n inside =
      let base = (accepted-program original is.taken.sound).base in
      let none : 4 * length p.code - length (words_bytes p.code) ≡ 0 = omega (arith, length-words_bytes p.code) in
      let first : IsFirstCode file its_code =
      record { before = before; after = _; mapped = mapped; none_before = none_before; executable = refl } in
      code_is_fetched file texts its_code first (omega (arith, base)) (words-bytes p.code) n (omega (arith, inside))
      ∙ ap (λ bytes. Some (big_number 4 (drop (4 * n) bytes)))
      (ap (λ (n : ℕ). words_bytes p.code ++ replicate n 0) none ∙ append-nil (words_bytes p.code))
      ∙ ap (λ w. Some w) (word_among p.code n inside is.code.words)

  pub has_code : HasCode (code_base original plan) p.code memory
  unfolding fetch_of
  has_code n word at = cc (fetched n (slice_get_within p.code n word at), get_or_from_slice_get p.code n word 0 at)

  pub only_code : (a : ℕ) → IsBeside (code_base original plan) p.code a → fetch_from (code_of memory) a ≡ None
  only_code a beside =
      let code : code_of memory ≡ region_of its_code ∷ [] =
      rw mapped (code-from before (mapping_added page_segment ∷ []) (stack_region texts ∷ []) its_code none_before refl) in
      cc (code, beside_region (region_of its_code) a beside)
