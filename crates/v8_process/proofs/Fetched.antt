-- Which words a program fetches before its first step.
use Rattle.v8_process.proofs.Common.{◌≡◌, ℕ, zero, suc, ◌+◌, ◌-◌, ◌*◌, ◌/◌, ◌%◌, ◌<◌, ◌≤◌, Bool, true, false, not, ◌&&◌, cond, nat_le, nat_eq, Option, Some, None, List, [], ◌∷◌, ◌++◌, length, map, take, drop, replicate, slice_index, get_or, refl, sym, ap, ◌∙◌, arith, w32, from_be_bytes, filter, list_any, or_parts, or_from, and_from, le-leb, eq-eqb, get_or-take, get_or-drop, drop-drop, All-take, All-drop, ProgramHeader, program_headers, has_flag, is_loadable, loadable, text_header, Mapping, mapping_of, mappings, file_bytes, memory_bytes, words_of, text_from, text_of, no_text, image_of, Region, covers, is_code, word_in, fetch_from, fetch_of, region_of, AreBytes, start_memory, stack_region}
use Rattle.std.specs.Option.{option_map_or}
use Rattle.std.proofs.Math.Bool.{and_assoc}
use Rattle.byteorder.specs.Endian.{big_number}
use Rattle.eel_base.specs.CodeText.{address_of}
use Rattle.elf32_sparc.proofs.Accepted.{Accepted, accepted, has_text, IsFit, length-words_of, text_is_fit}
use Rattle.elf32_sparc.proofs.Padding.{padded}
use Rattle.v8_process.specs.Fetched.{IsFirstCode, CodeIsFetched, TextIsFetched}

-- ---- the code of the memory in which a file starts

-- the first four bytes make the same word by either definition
word_of-bytes : (bytes : List ℕ) → from_be_bytes w32 (take 4 bytes) ≡ big_number 4 bytes
word_of-bytes bytes =
    rw (
      get_or-take 4 bytes 0 0 (omega arith),
      get_or-take 4 bytes 1 0 (omega arith),
      get_or-take 4 bytes 2 0 (omega arith),
      get_or-take 4 bytes 3 0 (omega arith),
    ) (omega arith)

word_in-region : (r : Region) (k : ℕ) → word_in (r.start + k) r ≡ big_number 4 (drop k r.bytes)
word_in-region r k =
    let here : r.start + k - r.start ≡ k = omega arith in
    ap (λ (at : ℕ). from_be_bytes w32 (take 4 (drop at r.bytes))) here ∙ word_of-bytes (drop k r.bytes)

-- the code begins with the first mapping that is code
pub code-from : (before after : List Mapping) (rest : List Region) (code : Mapping)
    → list_any (λ m. is_code (region_of m)) before ≡ false → is_code (region_of code) ≡ true
    → filter is_code (map region_of (before ++ code ∷ after) ++ rest)
    ≡ region_of code ∷ filter is_code (map region_of after ++ rest)
code-from [] after rest code none is = rw is
code-from (m ∷ before) after rest code none is =
    let parts = or_parts (is_code (region_of m)) (list_any (λ z. is_code (region_of z)) before) none in
    rw parts.0 (code-from before after rest code parts.1 is)

fetched-first : (r : Region) (others : List Region) (k : ℕ) → r.start % 4 ≡ 0 → 4 * k + 4 ≤ r.size
    → fetch_from (r ∷ others) (r.start + 4 * k) ≡ Some (big_number 4 (drop (4 * k) r.bytes))
fetched-first r others k aligned inside =
    let address : ℕ = r.start + 4 * k in
    let multiple : nat_eq (address % 4) 0 ≡ true = eq-eqb (address % 4) 0 (omega arith) in
    let covered : covers address 4 r ≡ true =
    and_from (nat_le r.start address) (nat_le (address + 4) (r.start + r.size))
    (le-leb r.start address (omega arith)) (le-leb (address + 4) (r.start + r.size) (omega arith)) in
    rw (multiple, covered) (ap Some (word_in-region r (4 * k)))

pub code_is_fetched : CodeIsFetched
unfolding fetch_of
code_is_fetched file texts code first aligned bytes k inside =
    let stack : List Region = stack_region texts ∷ [] in
    let others : List Region = filter is_code (map region_of first.after ++ stack) in
    rw (first.mapped, code-from first.before first.after stack code first.none_before first.executable)
    (fetched-first (region_of code) others k aligned inside)

-- ---- the text is the first code of a file

record IsFirstOf (ms : List Mapping) (code : Mapping) : Type 0 where
  before : List Mapping
  after : List Mapping
  is : ms ≡ before ++ code ∷ after
  none_before : list_any (λ m. is_code (region_of m)) before ≡ false
  executable : is_code (region_of code) ≡ true

-- one header more: it is loaded or not, and then code or not
first-with : (file : List ℕ) (x h : ProgramHeader) (hs : List ProgramHeader) (later : Option ProgramHeader)
    (loads code : Bool) → is_code (region_of (mapping_of file x)) ≡ code
    → (later ≡ Some h → IsFirstOf (map (mapping_of file) hs) (mapping_of file h))
    → cond (loads && code) (Some x) later ≡ Some h
    → IsFirstOf (map (mapping_of file) (cond loads (x ∷ hs) hs)) (mapping_of file h)
first-with file x h hs later true true is after found =
    let same : x ≡ h = cc in
    record {
      before = [];
      after = map (mapping_of file) hs;
      is = ap (λ (z : ProgramHeader). mapping_of file z ∷ map (mapping_of file) hs) same;
      none_before = refl;
      executable = ap (λ (z : ProgramHeader). is_code (region_of (mapping_of file z))) (sym same) ∙ is;
    }
first-with file x h hs later true false is after found =
    let first : IsFirstOf (map (mapping_of file) hs) (mapping_of file h) = after found in
    record {
      before = mapping_of file x ∷ first.before;
      after = first.after;
      is = ap (λ (ms : List Mapping). mapping_of file x ∷ ms) first.is;
      none_before = or_from (is_code (region_of (mapping_of file x)))
          (list_any (λ m. is_code (region_of m)) first.before) is first.none_before;
      executable = first.executable;
    }
first-with file x h hs later false code is after found = after found

text-first : (file : List ℕ) (hs : List ProgramHeader) (h : ProgramHeader) → text_header hs ≡ Some h
    → IsFirstOf (map (mapping_of file) (loadable hs)) (mapping_of file h)
text-first file [] h found = absurd (cc)
text-first file (x ∷ hs) h found =
    let code : Bool = is_code (region_of (mapping_of file x)) in
    let parts = and_assoc (is_loadable x) (has_flag 1 x.p_flags) (not (has_flag 2 x.p_flags)) in
    first-with file x h (loadable hs) (text_header hs) (is_loadable x) code refl (text-first file hs h)
    (ap (λ (b : Bool). cond b (Some x) (text_header hs)) (sym parts) ∙ found)

text-code : (file : List ℕ) (h : ProgramHeader) → text_header (program_headers file) ≡ Some h
    → IsFirstCode file (mapping_of file h)
unfolding mappings
text-code file h found =
    let first : IsFirstOf (map (mapping_of file) (loadable (program_headers file))) (mapping_of file h) =
    text-first file (program_headers file) h found in
    record {
      before = first.before;
      after = first.after;
      mapped = first.is;
      none_before = first.none_before;
      executable = first.executable;
    }

-- ---- its words

word_of-words : (count : ℕ) (bytes : List ℕ) (k : ℕ) → k < count
    → slice_index (words_of count bytes) k ≡ big_number 4 (drop (4 * k) bytes)
word_of-words zero bytes k inside = absurd (omega arith)
word_of-words (suc count) bytes zero inside = refl
word_of-words (suc count) bytes (suc k) inside =
    let next : 4 + 4 * k ≡ 4 * suc k = omega arith in
    word_of-words count (drop 4 bytes) k (omega arith)
    ∙ ap (big_number 4) (drop-drop (4 * k) 4 bytes)
    ∙ ap (λ (at : ℕ). big_number 4 (drop at bytes)) next

-- zeros after some bytes change no number
number-padded : (bytes : List ℕ) (count at : ℕ)
    → big_number 4 (drop at (bytes ++ replicate count 0)) ≡ big_number 4 (drop at bytes)
number-padded bytes count at = rw (byte 0, byte 1, byte 2, byte 3) refl
  where
    more : List ℕ
    more = bytes ++ replicate count 0

    byte : (i : ℕ) → get_or (drop at more) i 0 ≡ get_or (drop at bytes) i 0
    byte i = get_or-drop at more i 0 ∙ padded bytes count (at + i) ∙ sym (get_or-drop at bytes i 0)

-- the words of the text that a header gives
header-fetched : (file : List ℕ) (texts : List (List ℕ)) (h : ProgramHeader) → Accepted file
    → text_header (program_headers file) ≡ Some h → AreBytes file
    → let text = text_from file h in
    (k : ℕ) → k < length text.words
    → fetch_of (start_memory file texts) (address_of text k) ≡ Some (slice_index text.words k)
unfolding text_from
header-fetched file texts h ok found bytes k inside =
    let fit : IsFit file h = text_is_fit file h ok found in
    let count = length-words_of (h.p_memsz / 4) (memory_bytes file h) in
    let first : List ℕ = file_bytes file h in
    let rest = All-drop (λ b. b < 256) h.p_offset file bytes in
    code_is_fetched file texts (mapping_of file h) (text-code file h found) fit.text.aligned
    (All-take (λ b. b < 256) h.p_filesz (drop h.p_offset file) rest) k (omega arith)
    ∙ ap (λ (w : ℕ). Some w) (number-padded first (h.p_memsz - length first) (4 * k)
    ∙ sym (number-padded first (h.p_memsz - h.p_filesz) (4 * k))
    ∙ sym (word_of-words (h.p_memsz / 4) (memory_bytes file h) k (omega arith)))

text-fetched : (file : List ℕ) (texts : List (List ℕ)) (found : Option ProgramHeader) → Accepted file
    → text_header (program_headers file) ≡ found → AreBytes file
    → let text = option_map_or (text_from file) found no_text in
    (k : ℕ) → k < length text.words
    → fetch_of (start_memory file texts) (address_of text k) ≡ Some (slice_index text.words k)
text-fetched file texts None ok found bytes k inside = absurd (has_text file ok found)
text-fetched file texts (Some h) ok found bytes k inside = header-fetched file texts h ok found bytes k inside

pub text_is_fetched : TextIsFetched
unfolding image_of text_of
text_is_fetched file texts sound bytes k inside =
    text-fetched file texts (text_header (program_headers file)) (accepted file sound) refl bytes k inside
