-- That a written file can be run.
use Rattle.elf32_write.proofs.Common.{sections_at, whole_header, word_at, half_at, ◌<◌, filter, get_or, carried_headers, All-nil, All-cons, ◌≡◌, ℕ, zero, suc, ◌+◌, ◌^◌, ◌≤◌, ◌⊎◌, inl, inr, max, Bool, false, not, cond, nat_lt, nat_le, nat_eq, List, [], ◌∷◌, ◌++◌, map, Some, None, refl, ap, ◌∙◌, arith, All, fold, list_any, or_parts, or_from, and_parts, eqb-true, le-ltb, nat_tests, ProgramHeader, end_of, leaves_file, descends_from, is_aligned, segment_of, segment_end, NoneHolds, carried_on, ◌*◌, ◌%◌, ◌&&◌, length, length-append, sum_by, length-map, sum_by-cons, length-filter, count_by-le-length, e_phoff, e_phnum, program_headers, is_loadable, loadable, has_bytes_outside, image_of, accepted, next_page, AddedSegment, segments_end, added_header, added_headers, is_carried, delta_in, original_end, segment_headers, written, CanWrite, is_text, ei_version, e_version, list_any_none, list_any-append, All-map, All-filter, or_cases, not-false, and_left, first_that_holds, header_rows, load_rows, load_fault, leaves_room, is_last_page, is_short, has_other_magic, has_other_class, has_other_order, has_other_version, has_other_type, has_other_machine, has_other_sizes, has_bad_table, has_memory_outside, has_memory_outside_a_run, has_disorder, has_misaligned, memory_size, ◌||◌, highest_end, Accepted, HeaderAccepted, CanLoad, IsInReach, Ascend, FileLoads}
use Rattle.elf32_sparc.specs.declared.fault.FileFault.{FileFault}
use Rattle.elf32_write.proofs.Powers.{IsPower, power_of_two, power_divides, shifted, power-4096, greatest_power, greatest_above}
use Rattle.elf32_write.proofs.Segments.{segments_end-from, few-segment_headers, delta-to, notes-beyond}
use Rattle.elf32_write.proofs.Fields.{segments-fields}
use Rattle.elf32_write.proofs.WrittenParts.{written_stands, HeaderFacts, header_facts, same_magic, same_byte}
use Rattle.elf32_write.proofs.Carried.{loadable-carried, loadable-segment_headers}

-- No test holds.

pub passes : (rows : List (FileFault × Bool)) → NoneHolds rows → first_that_holds rows ≡ None
passes [] none = refl
passes (row ∷ rows) none = ap (λ b. cond b (Some row.0) (first_that_holds rows)) none.0 ∙ passes rows none.1

-- Of the entries that are carried on.

pub passed : (p : ProgramHeader → Bool) (hs : List ProgramHeader) → list_any p hs ≡ false → All (λ h. p h ≡ false) hs
passed p [] none = All-nil (λ h. p h ≡ false)
passed p (h ∷ hs) none = let parts = or_parts (p h) (list_any p hs) none in All-cons (λ g. p g ≡ false) h hs parts.0 (passed p hs parts.1)

pub none_of_both : (p : ProgramHeader → Bool) (xs ys : List ProgramHeader) → All (λ h. p h ≡ false) xs → list_any p ys ≡ false → list_any p (xs ++ ys) ≡ false
none_of_both p xs ys first second = rw (list_any-append p xs ys, list_any_none p xs first, second) refl

-- Bytes inside the file.

pub carried-inside : (delta size new : ℕ) → delta + size ≤ new → (h : ProgramHeader) → leaves_file size h ≡ false → leaves_file new (carried_on delta h) ≡ false
carried-inside delta size new fits h none = grind (arith, nat_tests)

-- Order.

pub ends-below : (hs : List ProgramHeader) (n top : ℕ) → fold (λ end segment. max end (segment_end segment)) n (map segment_of hs) ≤ top → (n ≤ top) × All (λ h. end_of h ≤ top) hs
ends-below [] n top le = (le, All-nil (λ h. end_of h ≤ top))
ends-below (h ∷ hs) n top le =
    let later = ends-below hs (max n (h.p_vaddr + h.p_memsz)) top le in
    let here = later.0 in
    (omega arith, All-cons (λ g. end_of g ≤ top) h hs (omega arith) later.1)

pub in_order : (delta : ℕ) (hs added : List ProgramHeader) (end top : ℕ) → end ≤ top → All (λ h. end_of h ≤ top) hs → descends_from end hs ≡ false → ((e : ℕ) → e ≤ top → descends_from e added ≡ false) → descends_from end (map (carried_on delta) hs ++ added) ≡ false
in_order delta [] added end top below ends order then = then end below
in_order delta (h ∷ hs) added end top below ends order then =
    let parts = or_parts (nat_lt h.p_vaddr end) (descends_from (end_of h) hs) order in
    or_from _ _ parts.0 (in_order delta hs added (end_of h) top (ends zero h (omega arith)) (λ k d under. ends (suc k) d (omega arith)) parts.1 then)

-- Alignment.

pub align_of : (h : ProgramHeader) → not (is_aligned h) ≡ false → (h.p_align ≡ 0) ⊎ IsPower h.p_align
align_of h holds =
    elim (or_cases (nat_eq h.p_align 0) _ (not-false (is_aligned h) holds)) [
      | inl none ↦ inl (eqb-true h.p_align 0 none)
      | inr both ↦ inr (power_of_two h.p_align (and_parts _ (nat_le h.p_align (2 ^ 20)) (and_parts _ _ both).0).0)
    ]

pub carried-aligned : (delta : ℕ) → IsPower delta → delta ≤ 2 ^ 20 → (h : ProgramHeader) → h.p_align ≤ delta → not (is_aligned h) ≡ false → not (is_aligned (carried_on delta h)) ≡ false
carried-aligned delta power small h below holds = elim (align_of h holds) [
  | inl none ↦ rw none refl
  | inr align ↦
      rw (shifted h.p_align delta h.p_offset (power_divides h.p_align delta align power below)
      (power_divides h.p_align (2 ^ 32) align (32, refl) (omega arith))) holds
]

-- ---- the text

texts_load : (hs : List ProgramHeader) → length (filter is_text hs) ≤ length (loadable hs)
texts_load [] = omega arith
texts_load (h ∷ hs) = grind (arith, nat_tests, texts_load hs)

some_text : (original : List ℕ) → Accepted original → 1 ≤ length (loadable (program_headers original))
some_text original ok =
    let texts = texts_load (program_headers original) in
    let count = length-filter is_text (program_headers original) in
    let some = ok.some_text in grind (arith, nat_tests)

top_beyond : (hs : List ProgramHeader) (top : ℕ) → 1 ≤ length hs → list_any leaves_room hs ≡ false → All (λ h. end_of h ≤ top) hs → 0x1000 ≤ top
top_beyond [] top some room ends = omega arith
top_beyond (h ∷ hs) top some room ends = let e : end_of h ≤ top = ends zero h (omega arith) in grind (arith, nat_tests)

-- ---- the segments that are added

no_fault : (p : ProgramHeader → Bool) (Q : AddedSegment → Type 0) → ((offset : ℕ) (s : AddedSegment) → Q s → p (added_header (next_page offset) s) ≡ false)
    → (end : ℕ) (added : List AddedSegment) → All Q added → list_any p (added_headers end added) ≡ false
no_fault p Q each end [] all = refl
no_fault p Q each end (s ∷ added) all =
    or_from _ _ (each end s (all zero s (omega arith)))
    (no_fault p Q each (next_page end + length s.bytes) added (λ k d below. all (suc k) d (omega arith)))

added-inside : (new end : ℕ) (added : List AddedSegment) → segments_end end added ≤ new → All (λ s. length s.bytes ≤ s.memsz) added → list_any (leaves_file new) (added_headers end added) ≡ false
added-inside new end [] inside fits = refl
added-inside new end (s ∷ added) inside fits =
    let rest = segments_end-from (next_page end + length s.bytes) added in
    let room : length s.bytes ≤ s.memsz = fits zero s (omega arith) in
    let later = added-inside new (next_page end + length s.bytes) added inside (λ k d below. fits (suc k) d (omega arith)) in
    grind (arith, nat_tests, rest, room, later, inside)

placed_all : (end : ℕ) (added : List AddedSegment) → 0x1000 ≤ end → Ascend end added → All IsInReach added → All (λ s. (0x1000 ≤ s.vaddr) × IsInReach s) added
placed_all end [] above order reached = All-nil (λ s. (0x1000 ≤ s.vaddr) × IsInReach s)
placed_all end (s ∷ added) above order reached =
    let from = order.0 in
    All-cons (λ r. (0x1000 ≤ r.vaddr) × IsInReach r) s added (omega arith, reached zero s (omega arith))
    (placed_all (s.vaddr + s.memsz) added (omega arith) order.1 (λ k d below. reached (suc k) d (omega arith)))

in_room : (offset : ℕ) (s : AddedSegment) → (0x1000 ≤ s.vaddr) × IsInReach s → (leaves_room (added_header offset s) && not (is_last_page (added_header offset s))) ≡ false
in_room offset s placed = grind (arith, nat_tests)

added-order : (end from below : ℕ) (added : List AddedSegment) → below ≤ from → Ascend from added → descends_from below (added_headers end added) ≡ false
added-order end from below [] le order = refl
added-order end from below (s ∷ added) le order =
    or_from _ _ (le-ltb s.vaddr below (omega (arith, order.0)))
    (added-order (next_page end + length s.bytes) (s.vaddr + s.memsz) (s.vaddr + s.memsz) added (omega arith) order.1)

at_page : (offset : ℕ) (s : AddedSegment) → s.vaddr % 4096 ≡ 0 → not (is_aligned (added_header (next_page offset) s)) ≡ false
at_page offset s whole =
    let page : next_page offset % 4096 ≡ 0 = omega arith in
    rw (power-4096, whole, page) refl

memory-all : (delta end : ℕ) (hs : List ProgramHeader) (added : List AddedSegment) (n : ℕ)
    → fold (λ a h. a + h.p_memsz) n (map (carried_on delta) hs ++ added_headers end added) ≡ fold (λ a h. a + h.p_memsz) n hs + sum_by (λ s. s.memsz) added
memory-all delta end [] [] n = omega arith
memory-all delta end [] (s ∷ added) n =
    omega (arith, memory-all delta (next_page end + length s.bytes) [] added (n + s.memsz), sum_by-cons (λ s. s.memsz) s added)
memory-all delta end (h ∷ hs) added n = memory-all delta end hs added (n + h.p_memsz)

sum_fits : (sum more : ℕ) → nat_lt (128 * 2 ^ 20) sum ≡ false → more ≤ 1152 * 2 ^ 20 → nat_lt (1280 * 2 ^ 20) (sum + more) ≡ false
sum_fits sum more fits few = grind (arith, nat_tests)

-- ---- the header of the file

some_headers : (original : List ℕ) (added : List AddedSegment) → Accepted original → 1 ≤ length (segment_headers original added)
some_headers original added ok =
    let carried = carried_headers (delta_in original) (program_headers original) in
    let loads = simp length-map at (ap length (loadable-carried (delta_in original) (program_headers original))) in
    simp length-append (omega (arith, loads, length-filter is_loadable carried, count_by-le-length is_loadable carried, some_text original ok))

good_table : (phnum phoff size : ℕ) → 1 ≤ phnum → phnum ≤ 72 → phoff ≡ 52 → 4096 ≤ size → ((nat_eq phnum 0 || nat_lt 80 phnum) || nat_lt size (phoff + 32 * phnum)) ≡ false
good_table phnum phoff size some few place long = grind (arith, nat_tests)

by_rows : (original : List ℕ) (added : List AddedSegment) (entry : ℕ) (notes new : List ℕ) → CanWrite original added notes → HeaderFacts original added entry (sections_at original added notes) new → 4096 ≤ length new
    → NoneHolds (load_rows (length new) (program_headers new)) → load_fault new ≡ None
unfolding load_fault is_short has_other_magic has_other_class has_other_order has_other_version has_other_type has_other_machine has_other_sizes has_bad_table word_at half_at
by_rows original added entry notes new can facts long loads =
    let ok : Accepted original = accepted original can.sound in
    let few = few-segment_headers original added notes can in
    let some = some_headers original added ok in
    let w = facts.words in
    let z = facts.sizes in
    let entries = z.1.1.0 (omega (arith, few)) in
    let old = whole_header original ok in
    let h : HeaderAccepted 80 new = record {
      short = le-ltb (length new) 52 (omega arith);
      magic = rw (same_magic new original (omega arith) (omega arith) facts.ident) ok.header.magic;
      «class» = rw (same_byte new original 4 (omega arith) facts.ident) ok.header.«class»;
      order = rw (same_byte new original 5 (omega arith) facts.ident) ok.header.order;
      version = or_from (not (nat_eq (ei_version new) 1)) (not (nat_eq (e_version new) 1))
          (rw (same_byte new original 6 (omega arith) facts.ident) (or_parts _ _ ok.header.version).0) (rw (w.0 (omega arith)) refl);
      kind = rw (facts.kinds.0 (omega arith)) refl;
      machine = rw (facts.kinds.1.0 (omega arith)) refl;
      header_size = rw (z.0 (omega arith), z.1.0 (omega arith)) refl;
      headers = good_table (e_phnum new) (e_phoff new) (length new) (omega (arith, entries, some)) (omega (arith, entries, few)) (w.1.1.0 (omega arith)) long;
    } in
    passes (header_rows 80 new ++ load_rows (length new) (program_headers new))
    (h.short, (h.magic, (h.«class», (h.order, (h.version, (h.kind, (h.machine, (h.header_size, (h.headers, loads)))))))))

-- ---- the program headers

entries_pass : (original : List ℕ) (added : List AddedSegment) (notes : List ℕ) (new : ℕ) → CanWrite original added notes → CanLoad added
    → segments_end (original_end original) added ≤ new → NoneHolds (load_rows new (segment_headers original added))
unfolding has_bytes_outside has_memory_outside has_memory_outside_a_run has_disorder has_misaligned memory_size image_of
entries_pass original added notes new can loads within =
    let hs = loadable (program_headers original) in
    let delta = delta_in original in
    let end = original_end original in
    let ok : Accepted original = accepted original can.sound in
    let from = segments_end-from end added in
    let top = highest_end (image_of original).segments in
    let is = loadable-segment_headers original added loads.filled in
    let ends = (ends-below hs 0 top (omega arith)).1 in
    let leaves : ProgramHeader → Bool = λ h. leaves_room h && not (is_last_page h) in
    let strays : ProgramHeader → Bool = λ h. not (is_aligned h) in
    let inside = passed (leaves_file (length original)) (program_headers original) ok.segment_file in
    let placed = placed_all top added (top_beyond hs top (some_text original ok) ok.segment_room ends) can.above loads.reached in
    let align = passed strays hs ok.align in
    let power = greatest_power hs 4096 (12, refl) (λ k d below. align_of (get_or hs k d) (align k d below)) in
    let below = (greatest_above hs 4096).1 in
    let each = λ (k : ℕ) (d : ProgramHeader) (lt : k < length (program_headers original)). carried-inside delta (length original) new (omega (arith, from, within)) (get_or (program_headers original) k d) (inside k d lt) in
    let bytes : has_bytes_outside new (segment_headers original added) ≡ false =
    none_of_both (leaves_file new) (carried_headers delta (program_headers original)) (added_headers end added)
    (All-map (λ h. leaves_file new h ≡ false) (carried_on delta) _ (All-filter is_carried (λ h. leaves_file new (carried_on delta h) ≡ false) _ each))
    (added-inside new end added within can.fits) in
    let room : has_memory_outside_a_run (segment_headers original added) ≡ false =
    rw is (none_of_both leaves (map (carried_on delta) hs) (added_headers end added)
    (All-map (λ h. leaves h ≡ false) (carried_on delta) hs (λ k d lt. and_left _ _ (passed leaves_room hs ok.segment_room k d lt)))
    (no_fault leaves (λ s. (0x1000 ≤ s.vaddr) × IsInReach s) (λ offset s. in_room (next_page offset) s) end added placed)) in
    let order : has_disorder (segment_headers original added) ≡ false =
    rw is (in_order delta hs (added_headers end added) 0 top (omega arith) ends ok.segment_order (λ e le. added-order end top e added le can.above)) in
    let straight : has_misaligned (segment_headers original added) ≡ false =
    rw is (none_of_both strays (map (carried_on delta) hs) (added_headers end added)
    (All-map (λ h. strays h ≡ false) (carried_on delta) hs (λ k d lt. carried-aligned delta power (delta-to original added notes can) (get_or hs k d) (below k d lt) (align k d lt)))
    (no_fault strays (λ s. s.vaddr % 4096 ≡ 0) at_page end added loads.pages)) in
    let memory : nat_lt (1280 * 2 ^ 20) (memory_size (segment_headers original added)) ≡ false = rw (is, memory-all delta end hs added 0) (sum_fits _ _ ok.memory_large loads.memory) in
    (bytes, (room, (order, (straight, (memory, tt)))))

-- ---- the file

pub file_loads : FileLoads
file_loads original added entry notes can are loads =
    let s = written_stands original added entry notes can in
    let facts = header_facts original added entry notes can in
    by_rows original added entry notes _ can facts (omega (arith, s.whole, notes-beyond original added))
    (rw (facts.entries (segments-fields original added entry notes can are)) (entries_pass original added notes _ can loads (omega (arith, s.whole))))
