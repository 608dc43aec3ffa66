-- The fields of a file of bytes fit their words, and its mappings have room for their bytes.
use Rattle.elf32_sparc.proofs.Common.{◌≡◌, ℕ, zero, suc, ◌+◌, ◌^◌, ◌<◌, ◌≤◌, true, false, nat_lt, nat_le, unwrap_or, List, [], ◌∷◌, length, map, drop, slice_index, All, arith, list_any, and_parts, cond_both, or_parts, ltb-false, length-take, All-nil, All-cons, All-head, All-tail, All-drop, ProgramHeader, word_at, program_headers, is_load, is_loadable, loadable, leaves_file, has_bytes_outside, file_bytes, mapping_of, mappings}
use Rattle.byteorder.specs.Numbers.{big_from-lt}

pub byte_below : (file : List ℕ) → All (λ b. b < 256) file → (k : ℕ) → slice_index file k < 256
byte_below [] h k = omega arith
byte_below (b ∷ file) h zero = All-head (λ n. n < 256) b file h
byte_below (b ∷ file) h (suc k) = byte_below file (All-tail (λ n. n < 256) b file h) k

pub word_at-range : (file : List ℕ) (at : ℕ) → All (λ b. b < 256) file → word_at file at < 2 ^ 32
unfolding word_at
word_at-range file at h =
    cond_both (nat_le (at + 4) (length file)) _ _ (λ o. unwrap_or o 0 < 2 ^ 32)
    (λ _. big_from-lt 0 4 (drop at file) (byte_below (drop at file) (All-drop (λ b. b < 256) at file h)))
    (λ _. omega arith)

-- ---- mappings have room for their bytes

room_for : (size : ℕ) (file : List ℕ) (h : ProgramHeader) → is_loadable h ≡ true → leaves_file size h ≡ false
    → length (file_bytes file h) ≤ h.p_memsz
room_for size file h loads inside =
    let some : is_load h ≡ true = (and_parts (is_load h) (nat_lt 0 h.p_memsz) loads).0 in
    let fits : h.p_filesz ≤ h.p_memsz = ltb-false h.p_memsz h.p_filesz (or_parts _ _ (rw some at inside)).0 in
    omega (arith, length-take h.p_filesz (drop h.p_offset file))

kept_room : (size : ℕ) (file : List ℕ) (hs : List ProgramHeader) → list_any (leaves_file size) hs ≡ false
    → All (λ m. length m.first ≤ m.length) (map (mapping_of file) (loadable hs))
kept_room size file [] none = All-nil (λ m. length m.first ≤ m.length)
kept_room size file (h ∷ hs) none =
    let parts = or_parts (leaves_file size h) (list_any (leaves_file size) hs) none in
    cond_both (is_loadable h) _ _ (λ hs. All (λ m. length m.first ≤ m.length) (map (mapping_of file) hs))
    (λ e. All-cons (λ m. length m.first ≤ m.length) _ _ (room_for size file h e parts.0) (kept_room size file hs parts.1))
    (λ _. kept_room size file hs parts.1)

-- where no entry leaves the file
pub mappings-room : (size : ℕ) (file : List ℕ) → has_bytes_outside size (program_headers file) ≡ false
    → All (λ m. length m.first ≤ m.length) (mappings file)
unfolding mappings has_bytes_outside
mappings-room size file none = kept_room size file (program_headers file) none
