-- What is mapped for a program that starts.
use Rattle.v8_process.proofs.Common.{◌≡◌, ℕ, ◌+◌, ◌-◌, ◌^◌, ◌≤◌, ◌⊎◌, true, false, not, ◌&&◌, nat_lt, nat_le, List, [], ◌∷◌, ◌++◌, length, map, replicate, All, None, refl, sym, subst, ap, ◌∙◌, arith, list_any, or_parts, or_left, and_from, ltb-false, le-leb, nat_tests, append-nil, map-append, All-nil, All-cons, All-head, All-tail, All-push, ProgramHeader, e_entry, program_headers, loadable, end_of, Mapping, mapping_of, mappings, segment_of, mappings-room, Region, Memory, region_of, IsPlan, mapping_of_plan, memory_of, Span, are_apart, heap_span, is_apart, is_apart_from, mappings_apart, span_of_mapping, segment_mapping, stack_mapping, program_name, stack_start, stack_end, first_sp, stack_region, start_memory, start_of, FitsStack}
use Rattle.std.proofs.lemmas.Simd.{map-map}
use Rattle.elf32_sparc.specs.declared.program.Segment.{Segment}
use Rattle.elf32_sparc.specs.FileFault.{load_fault, descends_from, has_disorder, has_memory_outside_a_run, leaves_room, is_last_page}
use Rattle.elf32_sparc.proofs.Loadable.{loadable_file}
use Rattle.v8_memory.specs.declared.memory.RegionPlan as declared
use Rattle.v8_step.specs.Run.{first_state}
use Rattle.v8_process.proofs.Valid.{stack-count}

-- ---- the mappings of a file that can be run can be made

abbrev Ends : Mapping → Type 0
Ends m = m.start + m.length ≤ 2 ^ 32

-- a segment ends below the heap, or is the last page
lies : (h : ProgramHeader) → (leaves_room h && not (is_last_page h)) ≡ false
    → (h.p_vaddr + h.p_memsz ≤ 0x80000000) ⊎ (h.p_vaddr ≡ 0xfffff000)
lies h none = grind (arith, nat_tests)

ends : (file : List ℕ) (h : ProgramHeader) → (leaves_room h && not (is_last_page h)) ≡ false → Ends (mapping_of file h)
ends file h none = grind (arith, nat_tests)

each_ends : (file : List ℕ) (hs : List ProgramHeader) → list_any (λ h. leaves_room h && not (is_last_page h)) hs ≡ false
    → All Ends (map (mapping_of file) hs)
each_ends file [] none = All-nil Ends
each_ends file (h ∷ hs) none =
    let parts = or_parts (leaves_room h && not (is_last_page h)) (list_any (λ h. leaves_room h && not (is_last_page h)) hs) none in
    All-cons Ends (mapping_of file h) (map (mapping_of file) hs) (ends file h parts.0) (each_ends file hs parts.1)

mappings-end : (file : List ℕ) → has_memory_outside_a_run (program_headers file) ≡ false → All Ends (mappings file)
unfolding mappings has_memory_outside_a_run
mappings-end file none = each_ends file (loadable (program_headers file)) none

mappings-planned : (file : List ℕ) → load_fault file ≡ None → All IsPlan (mappings file)
mappings-planned file none n d below =
    let ok = loadable_file file none in
    record {
      end = mappings-end file ok.segment_room n d below;
      room = mappings-room (length file) file ok.segment_file n d below;
    }

-- ---- and so can the stack

stack-planned : (stack : List ℕ) → length stack ≡ stack_end - stack_start → IsPlan (stack_mapping stack)
stack-planned stack count = record { end = omega arith; room = omega (arith, count) }

-- what is true of each value is true where it comes from
All-unmap : {X Y : Type 0} (P : X → Type 0) (f : Y → X) (ys : List Y) → All P (map f ys) → All (λ y. P (f y)) ys
All-unmap P f [] h = All-nil (λ y. P (f y))
All-unmap P f (y ∷ ys) h =
    All-cons (λ y. P (f y)) y ys (All-head P (f y) (map f ys) h)
    (All-unmap P f ys (All-tail P (f y) (map f ys) h))

-- ---- all that is mapped

segments-mapped : (file : List ℕ)
    → map (segment_mapping file) (map segment_of (loadable (program_headers file))) ≡ mappings file
unfolding mappings
segments-mapped file = map-map (segment_mapping file) segment_of (loadable (program_headers file))

-- the plans of the segments and of the stack
pub record ArePlans (file : List ℕ) (all : List (List ℕ)) (plans : List declared.RegionPlan) : Type 0 where
  pub mapped : map mapping_of_plan plans ≡ mappings file ++ stack_mapping (stack_region all).bytes ∷ []

-- those of what was read and made
pub plans-mapped : (file : List ℕ) (all : List (List ℕ)) (segments : List Segment) (stack : List ℕ)
    (plans : List declared.RegionPlan) → segments ≡ map segment_of (loadable (program_headers file))
    → stack ≡ (stack_region all).bytes
    → map mapping_of_plan plans ≡ map (segment_mapping file) segments ++ stack_mapping stack ∷ []
    → ArePlans file all plans
plans-mapped file all segments stack plans read made planned = record {
  mapped = rw (planned, read, segments-mapped file, made);
}

pub plans-fit : (file : List ℕ) (all : List (List ℕ)) (plans : List declared.RegionPlan) → ArePlans file all plans
    → load_fault file ≡ None → FitsStack all → All (λ plan. IsPlan (mapping_of_plan plan)) plans
plans-fit file all plans are none fits =
    All-unmap IsPlan mapping_of_plan plans
    (subst (All IsPlan) (sym are.mapped)
    (All-push IsPlan (mappings file) (stack_mapping (stack_region all).bytes) (mappings-planned file none)
    (stack-planned (stack_region all).bytes (stack-count all fits))))

-- ---- no two of them have a common address

beside_heap : (h : ProgramHeader) (file : List ℕ)
    → (h.p_vaddr + h.p_memsz ≤ 0x80000000) ⊎ (h.p_vaddr ≡ 0xfffff000)
    → is_apart heap_span (span_of_mapping (mapping_of file h)) ≡ true
beside_heap h file lies = grind (arith, nat_tests)

beside_stack : (h : ProgramHeader) (file stack : List ℕ)
    → (h.p_vaddr + h.p_memsz ≤ 0x80000000) ⊎ (h.p_vaddr ≡ 0xfffff000)
    → is_apart (span_of_mapping (mapping_of file h)) (span_of_mapping (stack_mapping stack)) ≡ true
beside_stack h file stack lies = grind (arith, nat_tests)

-- what ends before the segments do begin, and is no part of the stack
apart_from_rest : (file stack : List ℕ) (x : Span) (end : ℕ) (hs : List ProgramHeader) → x.from + x.count ≤ end
    → descends_from end hs ≡ false → is_apart x (span_of_mapping (stack_mapping stack)) ≡ true
    → is_apart_from x (map span_of_mapping (map (mapping_of file) hs ++ stack_mapping stack ∷ [])) ≡ true
apart_from_rest file stack x end [] ends up beside =
    and_from (is_apart x (span_of_mapping (stack_mapping stack))) true beside refl
apart_from_rest file stack x end (h ∷ hs) ends up beside =
    let parts = or_parts (nat_lt h.p_vaddr end) (descends_from (end_of h) hs) up in
    let above : end ≤ h.p_vaddr = ltb-false h.p_vaddr end parts.0 in
    and_from (is_apart x (span_of_mapping (mapping_of file h)))
    (is_apart_from x (map span_of_mapping (map (mapping_of file) hs ++ stack_mapping stack ∷ [])))
    (or_left (nat_le (x.from + x.count) h.p_vaddr) (nat_le (h.p_vaddr + h.p_memsz) x.from)
    (le-leb _ _ (omega (arith, ends, above))))
    (apart_from_rest file stack x (end_of h) hs (omega (arith, ends, above)) parts.1 beside)

segments_apart : (file stack : List ℕ) (end : ℕ) (hs : List ProgramHeader) → descends_from end hs ≡ false
    → list_any (λ h. leaves_room h && not (is_last_page h)) hs ≡ false
    → are_apart (map span_of_mapping (map (mapping_of file) hs ++ stack_mapping stack ∷ [])) ≡ true
segments_apart file stack end [] up none = refl
segments_apart file stack end (h ∷ hs) up none =
    let order = or_parts (nat_lt h.p_vaddr end) (descends_from (end_of h) hs) up in
    let room = or_parts (leaves_room h && not (is_last_page h)) (list_any (λ h. leaves_room h && not (is_last_page h)) hs) none in
    and_from
    (is_apart_from (span_of_mapping (mapping_of file h))
    (map span_of_mapping (map (mapping_of file) hs ++ stack_mapping stack ∷ [])))
    (are_apart (map span_of_mapping (map (mapping_of file) hs ++ stack_mapping stack ∷ [])))
    (apart_from_rest file stack (span_of_mapping (mapping_of file h)) (end_of h) hs (omega arith) order.1
    (beside_stack h file stack (lies h room.0)))
    (segments_apart file stack (end_of h) hs order.1 room.1)

heap_apart : (file stack : List ℕ) (hs : List ProgramHeader)
    → list_any (λ h. leaves_room h && not (is_last_page h)) hs ≡ false
    → is_apart_from heap_span (map span_of_mapping (map (mapping_of file) hs ++ stack_mapping stack ∷ [])) ≡ true
heap_apart file stack [] none = refl
heap_apart file stack (h ∷ hs) none =
    let room = or_parts (leaves_room h && not (is_last_page h)) (list_any (λ h. leaves_room h && not (is_last_page h)) hs) none in
    and_from (is_apart heap_span (span_of_mapping (mapping_of file h)))
    (is_apart_from heap_span (map span_of_mapping (map (mapping_of file) hs ++ stack_mapping stack ∷ [])))
    (beside_heap h file (lies h room.0)) (heap_apart file stack hs room.1)

pub mapped_apart : (file stack : List ℕ) → load_fault file ≡ None
    → mappings_apart (mappings file ++ stack_mapping stack ∷ []) ≡ true
unfolding mappings has_memory_outside_a_run has_disorder
mapped_apart file stack none =
    let ok = loadable_file file none in
    let hs = loadable (program_headers file) in
    and_from (is_apart_from heap_span (map span_of_mapping (map (mapping_of file) hs ++ stack_mapping stack ∷ [])))
    (are_apart (map span_of_mapping (map (mapping_of file) hs ++ stack_mapping stack ∷ [])))
    (heap_apart file stack hs ok.segment_room) (segments_apart file stack 0 hs ok.segment_order ok.segment_room)

pub plans-apart : (file : List ℕ) (all : List (List ℕ)) (plans : List declared.RegionPlan) → ArePlans file all plans
    → load_fault file ≡ None → mappings_apart (map mapping_of_plan plans) ≡ true
plans-apart file all plans are none =
    ap mappings_apart are.mapped ∙ mapped_apart file (stack_region all).bytes none

-- ---- the memory

no_zeros : (n : ℕ) (bytes : List ℕ) → length bytes ≡ n → bytes ++ replicate (n - length bytes) 0 ≡ bytes
no_zeros n bytes count = let none : n - length bytes ≡ 0 = omega arith in rw none (append-nil bytes)

stack-mapped : (all : List (List ℕ)) → FitsStack all
    → region_of (stack_mapping (stack_region all).bytes) ≡ stack_region all
stack-mapped all fits = rw (no_zeros (stack_end - stack_start) (stack_region all).bytes (stack-count all fits))

regions-made : (file : List ℕ) (all : List (List ℕ)) (plans : List declared.RegionPlan) → ArePlans file all plans
    → FitsStack all → map region_of (map mapping_of_plan plans) ≡ (start_memory file all).regions
regions-made file all plans are fits =
    rw are.mapped (map-append region_of (mappings file) (stack_mapping (stack_region all).bytes ∷ [])
    ∙ ap (λ (r : Region). map region_of (mappings file) ++ r ∷ []) (stack-mapped all fits))

pub plans-made : (file : List ℕ) (all : List (List ℕ)) (plans : List declared.RegionPlan) → ArePlans file all plans
    → FitsStack all → memory_of (map mapping_of_plan plans) ≡ start_memory file all
plans-made file all plans are fits = rw (regions-made file all plans are fits)

-- ---- the state

pub started : (file : List ℕ) (args : List (List ℕ)) (input : List ℕ) (memory : Memory) (entry sp : ℕ)
    → memory ≡ start_memory file (program_name ∷ args) → entry ≡ e_entry file
    → sp ≡ first_sp (program_name ∷ args) → first_state memory entry sp input ≡ start_of file args input
unfolding start_of
started file args input memory entry sp loaded at top = rw (loaded, at, top)
