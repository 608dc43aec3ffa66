-- Cells in one loaded segment with leave to be read can be read at each moment of a run.
use Rattle.eel.proofs.Common.{◌≡◌, ℕ, zero, suc, ◌+◌, ◌*◌, ◌^◌, ◌≤◌, ◌==◌, ◌⊎◌, Bool, true, false, nat_lt, cond, List, [], ◌∷◌, ◌++◌, map, Option, Some, None, Result, Ok, if◌then◌else◌, refl, ap, sym, ◌∙◌, subst, arith, list_any, option_map, load_fault, mappings, Notes, Ending, State, run, start_of, words_at, holds_cells, nat_tests, ◌&&◌, ◌||◌, not, nat_le, ◌%◌, find, and_from, and_parts, eq-eqb, le-leb, leb-true, ltb-false, or_parts, map-range_with_len_more, descends_from, is_last_page, leaves_room, mapping_of, segment_of, program_name, stack_region, start_memory, cell_at, length_told, AreMapped}
use Rattle.std.specs.Int.{from_be_bytes, w32}
use Rattle.elf32_sparc.specs.declared.header.ProgramHeader.{ProgramHeader}
use Rattle.elf32_sparc.specs.declared.program.Segment.{Segment}
use Rattle.elf32_sparc.specs.Header.{end_of, has_flag, loadable, program_headers}
unfoldable use Rattle.elf32_sparc.specs.FileFault.{has_disorder, has_memory_outside_a_run}
use Rattle.elf32_sparc.proofs.Loadable.{loadable_file}
use Rattle.v8_decode.specs.declared.Instr.{Instr}
use Rattle.v8_decode.specs.Words.{decode_of}
use Rattle.v8_memory.specs.Regions.{Memory, Region, all_written, covers, fetch_of, is_heap_end, bytes_at, part_of, with_heap_end, written}
use Rattle.v8_memory.specs.declared.fault.MemFault.{MemFault}
use Rattle.v8_memory.specs.Calls.{Loads, load_of}
use Rattle.v8_memory.specs.Segments.{heap_room, heap_start, region_of}
use Rattle.v8_memory.proofs.Same.{find-written}
use Rattle.v8_step.specs.Step.{act, on_word, step_of, unless_ended}
use Rattle.v8_step.specs.Judged.{judged_by}
use Rattle.code_runs.specs.Code.{CanLoad}
use Rattle.code_runs.specs.StoredWords.{memory_word, word_in}
use Rattle.v8_step.proofs.Kept.{none_near}
use Rattle.v8_step.proofs.KeptOutside.{kept_act}
use Rattle.code_runs.proofs.StoredWords.{shape}
use Rattle.notes.specs.Rules.{AreNotes}
use Rattle.eel.specs.Cells.{KeepCells, has_cells}

-- ---- a word that may be read, away from all addresses that the heap can take

record IsReadable (a : ℕ) (m : Memory) : Type 0 where
  start : m.heap.start ≡ heap_start
  size : m.heap.size ≤ heap_room
  away : (a + 4 ≤ heap_start) ⊎ (heap_start + heap_room ≤ a)
  region : Region
  at : find (covers a 4) m.regions ≡ Some region
  readable : region.readable ≡ true

abbrev Keeps : ℕ → Memory → Memory → Type 0
Keeps a m n = IsReadable a m → IsReadable a n

keeps_write : (a b : ℕ) (bytes : List ℕ) (m : Memory) → Keeps a m (all_written b bytes m)
keeps_write a b bytes m h =
    let heap = shape b bytes m.heap in
    record {
      start = heap.start ∙ h.start;
      size = subst (λ z. z ≤ heap_room) (sym heap.size) h.size;
      away = h.away;
      region = written b bytes h.region;
      at = find-written a 4 b bytes m.regions ∙ ap (option_map (written b bytes)) h.at;
      readable = (shape b bytes h.region).readable ∙ h.readable;
    }

keeps_heap : (a : ℕ) (m : Memory) (end : ℕ) → is_heap_end end ≡ true → Keeps a m (with_heap_end m end)
keeps_heap a m end is h = record {
  start = h.start;
  size = (let start = h.start in grind (arith, nat_tests, is, start));
  away = h.away;
  region = h.region;
  at = h.at;
  readable = h.readable;
}

keeps_act : (a : ℕ) (s : State) (x : Instr) → Keeps a s.memory (act s x).memory
keeps_act a s x =
    kept_act [] (Keeps a) (λ m h. h) (λ m n o h k is. k (h is)) (λ b bytes m some apart. keeps_write a b bytes m)
    (keeps_heap a) s.memory s x (λ h. h) (none_near (judged_by s x))

keeps_step : (a : ℕ) (s : State) → Keeps a s.memory (step_of s).memory
unfolding step_of
keeps_step a s = go s.ending (fetch_of s.memory s.pc)
  where
    go : (e : Option Ending) (word : Option ℕ) → Keeps a s.memory (unless_ended s e (on_word s word)).memory
    go None (Some word) = keeps_act a s (decode_of word)
    go _ _ = λ h. h

stays : (a : ℕ) (s0 : State) (n : ℕ) → IsReadable a s0.memory → IsReadable a (run s0 n).memory
stays a s0 zero h = h
stays a s0 (suc n) h = keeps_step a (run s0 n) (stays a s0 n h)

-- the heap has no such word
heap_without : (a start size : ℕ) → start ≡ heap_start → size ≤ heap_room
    → (a + 4 ≤ heap_start) ⊎ (heap_start + heap_room ≤ a) → (nat_le start a && nat_le (a + 4) (start + size)) ≡ false
heap_without a start size at few away = grind (arith, nat_tests, at, few, away)

can_load : (a : ℕ) (m : Memory) → IsReadable a m → CanLoad m a
can_load a m h = record {
  region = h.region;
  at =
      ap (λ b. cond b (Some m.heap) (find (covers a 4) m.regions))
      (heap_without a m.heap.start m.heap.size h.start h.size h.away)
      ∙ h.at;
  readable = h.readable;
}

-- ---- the segment that has the cells

module _ (file : List ℕ) (base count : ℕ) where
  abbrev holds : ProgramHeader → Bool
  holds h = holds_cells base count (mapping_of file h)

  -- what a segment that holds the cells is
  holder : (h : ProgramHeader) → holds h ≡ true
      → (h.p_vaddr ≤ base) × (base + 4 * count ≤ h.p_vaddr + h.p_memsz) × (has_flag 4 h.p_flags ≡ true)
  holder h is =
      let parts = and_parts _ _ is in
      let ends = and_parts _ _ parts.0 in (leb-true _ _ ends.0, leb-true _ _ ends.1, parts.1)

  -- one of the headers does
  abbrev AnyHolds : List ProgramHeader → Type 0
  AnyHolds hs = list_any (holds_cells base count) (map (mapping_of file) hs) ≡ true

  module _ (a : ℕ) (from : base ≤ a) (to : a + 4 ≤ base + 4 * count) where
    not_covered : (start size : ℕ) → start + size ≤ a → (nat_le start a && nat_le (a + 4) (start + size)) ≡ false
    not_covered start size past = grind (arith, nat_tests, past)

    -- a segment lies in the program's half, or is the last page
    abbrev leaves : ProgramHeader → Bool
    leaves h = leaves_room h && not (is_last_page h)

    away_from_heap : (h : ProgramHeader) → h.p_vaddr ≤ base → base + 4 * count ≤ h.p_vaddr + h.p_memsz
        → leaves h ≡ false → (a + 4 ≤ heap_start) ⊎ (heap_start + heap_room ≤ a)
    away_from_heap h first last inside = grind (arith, nat_tests, inside, first, last, from, to)

    -- what follows of it, where the headers begin behind the end of others: the first region that has the word may be read
    record IsFound (end : ℕ) (rs : List Region) : Type 0 where
      above : end ≤ base
      away : (a + 4 ≤ heap_start) ⊎ (heap_start + heap_room ≤ a)
      region : Region
      at : find (covers a 4) rs ≡ Some region
      readable : region.readable ≡ true

    found : (end : ℕ) (hs : List ProgramHeader) (rest : List Region) → descends_from end hs ≡ false
        → list_any leaves hs ≡ false → AnyHolds hs → IsFound end (map region_of (map (mapping_of file) hs) ++ rest)
    found end [] rest order inside any = absurd (cc any)
    found end (h ∷ hs) rest order inside any =
        let ordered = or_parts (nat_lt h.p_vaddr end) (descends_from (end_of h) hs) order in
        let leave = or_parts (leaves h) (list_any leaves hs) inside in
        go (ltb-false h.p_vaddr end ordered.0) leave.0 (found (end_of h) hs rest ordered.1 leave.1) (holds h) refl any
      where
        own : Region
        own = region_of (mapping_of file h)

        others : List Region
        others = map region_of (map (mapping_of file) hs) ++ rest

        go : end ≤ h.p_vaddr → leaves h ≡ false → (AnyHolds hs → IsFound (end_of h) others) → (b : Bool) → holds h ≡ b
            → (b || list_any (holds_cells base count) (map (mapping_of file) hs)) ≡ true → IsFound end (own ∷ others)
        go after leaves later true is any =
            let (first, last, readable) = holder h is in
            record {
              above = omega (arith, after, first);
              away = away_from_heap h first last leaves;
              region = own;
              at =
                  ap (λ b. cond b (Some own) (find (covers a 4) others))
                  (and_from (nat_le h.p_vaddr a) (nat_le (a + 4) (h.p_vaddr + h.p_memsz))
                  (le-leb _ _ (omega (arith, first, from))) (le-leb _ _ (omega (arith, last, to))));
              readable = readable;
            }
        go after leaves later false is any =
            let next = later any in
            let end = next.above in
            record {
              above = omega (arith, after, end);
              away = next.away;
              region = next.region;
              at =
                  ap (λ b. cond b (Some own) (find (covers a 4) others))
                  (not_covered h.p_vaddr h.p_memsz (omega (arith, end, from)))
                  ∙ next.at;
              readable = next.readable;
            }

-- ---- the file

cells_readable : (file : List ℕ) (texts : List (List ℕ)) (base count a : ℕ) → load_fault file ≡ None
    → list_any (holds_cells base count) (mappings file) ≡ true → base ≤ a → a + 4 ≤ base + 4 * count
    → IsReadable a (start_memory file texts)
unfolding mappings has_disorder has_memory_outside_a_run
cells_readable file texts base count a loads any from to =
    let good = loadable_file file loads in
    let first =
    found file base count a from to 0 (loadable (program_headers file)) (stack_region texts ∷ []) good.segment_order
    good.segment_room any in
    record {
      start = refl;
      size = omega arith;
      away = first.away;
      region = first.region;
      at = first.at;
      readable = first.readable;
    }

pub cells_kept : (file : List ℕ) (args : List (List ℕ)) (input : List ℕ) (notes : Notes) → load_fault file ≡ None
    → AreMapped file notes → KeepCells notes (start_of file args input)
unfolding start_of
cells_kept file args input notes loads mapped = λ n k within.
    can_load (cell_at notes.base k) (run (start_of file args input) n).memory
    (stays (cell_at notes.base k) (start_of file args input) n
    (cells_readable file (program_name ∷ args) notes.base notes.cells (cell_at notes.base k) loads
    (mapped (omega (arith, within))) (omega arith) (omega (arith, within))))

-- ---- what the program reads of segments and of memory

any_segment : (file : List ℕ) (base count : ℕ) (hs : List ProgramHeader)
    → list_any (has_cells base count) (map segment_of hs) ≡ list_any (holds_cells base count) (map (mapping_of file) hs)
any_segment file base count [] = refl
any_segment file base count (h ∷ hs) =
    ap (λ b. holds_cells base count (mapping_of file h) || b) (any_segment file base count hs)

pub segments_mapped : (file : List ℕ) (base count : ℕ) (segments : List Segment)
    → segments ≡ map segment_of (loadable (program_headers file))
    → list_any (has_cells base count) segments ≡ list_any (holds_cells base count) (mappings file)
unfolding mappings
segments_mapped file base count segments are =
    ap (list_any (has_cells base count)) are ∙ any_segment file base count (loadable (program_headers file))

pub words_more : (base count : ℕ) (m : Memory)
    → words_at base (count + 1) m ≡ words_at base count m ++ memory_word m (cell_at base count) ∷ []
words_more base count m = map-range_with_len_more (λ k. memory_word m (cell_at base k)) 0 count count (omega arith)

pub word_loaded : (m : Memory) (a : ℕ) (result : Result ℕ MemFault) → a % 4 ≡ 0 → CanLoad m a
    → Loads (from_be_bytes w32) (load_of m 4 a) result → result ≡ Ok (memory_word m a)
unfolding bytes_at memory_word
word_loaded m a result aligned can loads =
    let bytes : load_of m 4 a ≡ Ok (part_of can.region a 4) =
    rw (eq-eqb (a % 4) 0 aligned, can.at, can.readable) refl in
    subst (λ (read : Result (List ℕ) MemFault). Loads (from_be_bytes w32) read result) bytes loads
    ∙ sym (ap (λ (r : Option Region). Ok (word_in a r)) can.at)

-- ---- how many there are, and what a dump tells of the original

pub few_cells : (notes : Notes) → AreNotes notes → notes.cells ≤ 2 ^ 23
few_cells notes are = let few = are.cells in grind (arith, nat_tests, few)

pub no_length : (notes : Notes) → notes.version ≡ 1 → length_told notes ≡ 0
no_length notes one = ap (λ (version : ℕ). if version == 1 then 0 else notes.length) one
