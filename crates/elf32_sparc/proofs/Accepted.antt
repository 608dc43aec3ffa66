-- What is true of a file without a fault.
use Rattle.elf32_sparc.proofs.Common.{◌≡◌, ℕ, zero, suc, ◌+◌, ◌-◌, ◌*◌, ◌/◌, ◌%◌, ◌^◌, ◌<◌, ◌≤◌, max, Bool, true, false, not, ◌&&◌, cond, nat_lt, nat_le, nat_eq, List, [], ◌∷◌, ◌++◌, length, map, drop, Option, Some, None, refl, sym, ap, ◌∙◌, arith, fold, list_any, option_map_or, or_parts, and_parts, ltb-false, ltb-true, leb-true, eqb-true, not-false, false≢true, IsText, ProgramHeader, FileFault, e_entry, program_headers, is_loadable, loadable, end_of, is_text, text_header, text_count, first_that_holds, header_rows, entry_rows, fault, leaves_room, is_misshapen, is_word_address, word_count, is_short, has_other_magic, has_other_class, has_other_order, has_other_version, has_other_type, has_other_machine, has_other_sizes, has_bad_table, has_dynamic, has_bytes_outside, has_memory_outside, has_disorder, has_misaligned, has_misshapen_text, has_large_text, has_other_entry, memory_size, memory_bytes, segment_of, segment_end, highest_end, words_of, text_from, word_number}
pub use Rattle.elf32_sparc.proofs.ThreeWords.{no_fault}

-- no row holds
abbrev pub NoneHolds : List (FileFault × Bool) → Type 0
NoneHolds [] = Unit {0}
NoneHolds (row ∷ rows) = (row.1 ≡ false) × NoneHolds rows

passed_by : (rows : List (FileFault × Bool)) (f : FileFault) (b : Bool) → (first_that_holds rows ≡ None → NoneHolds rows) → cond b (Some f) (first_that_holds rows) ≡ None → (b ≡ false) × NoneHolds rows
passed_by rows f true later found = cc
passed_by rows f false later none = (refl, later none)

pub none_holds : (rows : List (FileFault × Bool)) → first_that_holds rows ≡ None → NoneHolds rows
none_holds [] none = tt
none_holds (row ∷ rows) none = passed_by rows row.0 row.1 (none_holds rows) none

-- the header of a file that may have so many program headers
pub record HeaderAccepted (most : ℕ) (file : List ℕ) : Type 0 where
  pub short : is_short file ≡ false
  pub magic : has_other_magic file ≡ false
  pub «class» : has_other_class file ≡ false
  pub order : has_other_order file ≡ false
  pub version : has_other_version file ≡ false
  pub kind : has_other_type file ≡ false
  pub machine : has_other_machine file ≡ false
  pub header_size : has_other_sizes file ≡ false
  pub headers : has_bad_table most file ≡ false

-- the header's rows, and those after them
pub header_accepted : (most : ℕ) (file : List ℕ) (rows : List (FileFault × Bool)) → NoneHolds (header_rows most file ++ rows) → HeaderAccepted most file × NoneHolds rows
header_accepted most file rows all = assumption

pub record Accepted (file : List ℕ) : Type 0 where
  pub header : HeaderAccepted 64 file
  pub dynamic : has_dynamic (program_headers file) ≡ false
  pub segment_file : has_bytes_outside (length file) (program_headers file) ≡ false
  pub segment_room : has_memory_outside (program_headers file) ≡ false
  pub segment_order : has_disorder (program_headers file) ≡ false
  pub align : has_misaligned (program_headers file) ≡ false
  pub some_text : nat_eq (text_count (program_headers file)) 0 ≡ false
  pub one_text : nat_lt 1 (text_count (program_headers file)) ≡ false
  pub text_shape : has_misshapen_text (program_headers file) ≡ false
  pub text_large : has_large_text (program_headers file) ≡ false
  pub entry : has_other_entry (e_entry file) (program_headers file) ≡ false
  pub memory_large : nat_lt (128 * 2 ^ 20) (memory_size (program_headers file)) ≡ false

pub accepted : (file : List ℕ) → fault file ≡ None → Accepted file
unfolding fault
accepted file none =
    let rows = entry_rows (length file) (e_entry file) (program_headers file) in
    let all = header_accepted 64 file rows (none_holds (header_rows 64 file ++ rows) none) in assumption

-- The text.

pub has_text : (file : List ℕ) → Accepted file → text_header (program_headers file) ≡ None → ⊥
unfolding has_other_entry
has_text file ok none = false≢true (sym ok.entry ∙ ap (λ o. not (option_map_or (is_word_address (e_entry file)) o false)) none)

-- a header that is no text, or that is one and is kept, before others
at_header : (p : ProgramHeader → Bool) (x h : ProgramHeader) (rest : List ProgramHeader) (later : Option ProgramHeader) (text keep : Bool) → (text ≡ true → keep ≡ true) → (later ≡ Some h → list_any p rest ≡ false → p h ≡ false) → cond text (Some x) later ≡ Some h → list_any p (cond keep (x ∷ rest) rest) ≡ false → p h ≡ false
at_header p x h rest later true true kept after found none =
    let same : x ≡ h = cc in
    ap p (sym same) ∙ (or_parts (p x) (list_any p rest) none).0
at_header p x h rest later true false kept after found none = absurd (false≢true (kept refl))
at_header p x h rest later false true kept after found none = after found (or_parts (p x) (list_any p rest) none).1
at_header p x h rest later false false kept after found none = after found none

-- what is true of no segment is not true of the text
pub text_passes : (p : ProgramHeader → Bool) (hs : List ProgramHeader) (h : ProgramHeader) → text_header hs ≡ Some h → list_any p (loadable hs) ≡ false → p h ≡ false
text_passes p [] h found none = cc
text_passes p (x ∷ hs) h found none =
    at_header p x h (loadable hs) (text_header hs) (is_text x) (is_loadable x) (λ is. (and_parts _ _ (and_parts _ _ is).0).0) (text_passes p hs h) found none

pub length-words_of : (count : ℕ) (bytes : List ℕ) → length (words_of count bytes) ≡ count
length-words_of zero bytes = refl
length-words_of (suc count) bytes = ap suc (length-words_of count (drop 4 bytes))

pub record IsFit (file : List ℕ) (h : ProgramHeader) : Type 0 where
  pub text : IsText (text_from file h)
  pub starts : h.p_vaddr ≤ e_entry file
  pub aligned : (e_entry file - h.p_vaddr) % 4 ≡ 0
  pub entry : word_number (text_from file h) (e_entry file) < length (text_from file h).words

pub text_is_fit : (file : List ℕ) (h : ProgramHeader) → Accepted file → text_header (program_headers file) ≡ Some h → IsFit file h
unfolding has_misshapen_text has_large_text has_other_entry has_memory_outside text_from
text_is_fit file h ok found =
    let shape : is_misshapen h ≡ false = ap (λ o. option_map_or is_misshapen o false) (sym found) ∙ ok.text_shape in
    let large : nat_lt (2 ^ 20) (word_count h) ≡ false = ap (λ o. option_map_or (λ g. nat_lt (2 ^ 20) (word_count g)) o false) (sym found) ∙ ok.text_large in
    let address : is_word_address (e_entry file) h ≡ true = not-false _ (ap (λ o. not (option_map_or (is_word_address (e_entry file)) o false)) (sym found) ∙ ok.entry) in
    let room : leaves_room h ≡ false = text_passes leaves_room (program_headers file) h found ok.segment_room in
    let aligned : h.p_vaddr % 4 ≡ 0 = eqb-true _ _ (not-false _ (or_parts _ _ shape).0) in
    let some : 4 ≤ h.p_memsz = ltb-false h.p_memsz 4 (or_parts (not (nat_eq (h.p_vaddr % 4) 0)) (nat_lt h.p_memsz 4) shape).1 in
    let few : h.p_memsz / 4 ≤ 2 ^ 20 = ltb-false _ _ large in
    let above : 0x1000 ≤ h.p_vaddr = ltb-false _ _ (or_parts _ _ room).0 in
    let below : h.p_vaddr + h.p_memsz ≤ 0x80000000 = ltb-false 0x80000000 (end_of h) (or_parts (nat_lt h.p_vaddr 0x1000) (nat_lt 0x80000000 (end_of h)) room).1 in
    let starts : h.p_vaddr ≤ e_entry file = leb-true _ _ (and_parts _ _ (and_parts _ _ address).0).0 in
    let whole : (e_entry file - h.p_vaddr) % 4 ≡ 0 = eqb-true _ _ (and_parts _ _ (and_parts _ _ address).0).1 in
    let inside : (e_entry file - h.p_vaddr) / 4 < h.p_memsz / 4 = ltb-true ((e_entry file - h.p_vaddr) / 4) (word_count h) (and_parts (nat_le h.p_vaddr (e_entry file) && nat_eq ((e_entry file - h.p_vaddr) % 4) 0) (nat_lt ((e_entry file - h.p_vaddr) / 4) (word_count h)) address).1 in
    let count : length (words_of (h.p_memsz / 4) (memory_bytes file h)) ≡ h.p_memsz / 4 = length-words_of _ _ in
    record {
      text = record { aligned = aligned; above = above; some = omega arith; few = rw count few; below = omega arith };
      starts = starts;
      aligned = whole;
      entry = rw count inside;
    }

-- The segments.

-- one header more, that is a segment or not
end_below : (h : ProgramHeader) (hs : List ProgramHeader) (n : ℕ) (keep : Bool) → n ≤ 0x80000000 → ((m : ℕ) → m ≤ 0x80000000 → list_any leaves_room hs ≡ false → fold (λ end segment. max end (segment_end segment)) m (map segment_of hs) ≤ 0x80000000) → list_any leaves_room (cond keep (h ∷ hs) hs) ≡ false → fold (λ end segment. max end (segment_end segment)) n (map segment_of (cond keep (h ∷ hs) hs)) ≤ 0x80000000
end_below h hs n true below later none =
    let parts = or_parts (leaves_room h) (list_any leaves_room hs) none in
    let ends : h.p_vaddr + h.p_memsz ≤ 0x80000000 = ltb-false 0x80000000 (end_of h) (or_parts (nat_lt h.p_vaddr 0x1000) (nat_lt 0x80000000 (end_of h)) parts.0).1 in
    later (max n (h.p_vaddr + h.p_memsz)) (omega arith) parts.1
end_below h hs n false below later none = later n below none

pub ends_below : (hs : List ProgramHeader) (n : ℕ) → n ≤ 0x80000000 → list_any leaves_room (loadable hs) ≡ false → fold (λ end segment. max end (segment_end segment)) n (map segment_of (loadable hs)) ≤ 0x80000000
ends_below [] n below none = below
ends_below (h ∷ hs) n below none = end_below h (loadable hs) n (is_loadable h) below (λ m. ends_below hs m) none

pub segments_end_below : (file : List ℕ) → Accepted file → highest_end (map segment_of (loadable (program_headers file))) ≤ 0x80000000
unfolding has_memory_outside
segments_end_below file ok = ends_below (program_headers file) 0 (omega arith) ok.segment_room
