-- The state in which a file starts is valid.
use Rattle.v8_process.proofs.Common.{◌≡◌, ℕ, suc, ◌+◌, ◌-◌, ◌*◌, ◌^◌, ◌<◌, ◌≤◌, true, nat_lt, get_or, List, [], ◌∷◌, ◌++◌, length, map, drop, replicate, flat_map, All, refl, ap, ◌∙◌, arith, w32, to_be_bytes, list_all, and_parts, ltb-true, length-append, length-replicate, flat_map-cons, All-nil, All-cons, All-head, All-tail, All-append, All-map, All-take, All-drop, All-replicate, All-same, ProgramHeader, e_entry, program_headers, loadable, Mapping, mapping_of, mappings, word_at-range, mappings-room, region_of, AreBytes, program_name, strings, pointers, stack_start, stack_end, rounded_up, rounded_down, strings_address, argument_words, argument_size, first_sp, words_address, stack_top, stack_region, start_memory, start_of, HasRoom, MappingsHaveRoom, FitsStack, StartsValid}
use Rattle.v8_step.specs.Valid.{IsValidRegion, IsValidMemory}
use Rattle.v8_step.proofs.ValidFirst.{empty_heap-valid, first_state-valid}
use Rattle.v8_step.proofs.ValidNumbers.{high_first-bytes, flat_map-bytes}

-- ---- the regions of the file

region_of-valid : (m : Mapping) → AreBytes m.first → HasRoom m → IsValidRegion (region_of m)
region_of-valid m h room = record {
  count =
      length-append m.first (replicate (m.length - length m.first) 0)
      ∙ ap (λ (z : ℕ). length m.first + z) (length-replicate (m.length - length m.first) 0) ∙ omega arith;
  bytes =
      All-append (λ b. b < 256) m.first (replicate (m.length - length m.first) 0) h
      (All-replicate (λ b. b < 256) (m.length - length m.first) 0 (omega arith));
}

first-bytes : (file : List ℕ) → AreBytes file → All (λ m. AreBytes m.first) (mappings file)
unfolding mappings
first-bytes file h =
    All-map (λ m. AreBytes m.first) (mapping_of file) (loadable (program_headers file))
    (λ n d below. bytes_of_header (get_or (loadable (program_headers file)) n d))
  where
    bytes_of_header : (header : ProgramHeader) → AreBytes (mapping_of file header).first
    bytes_of_header header =
        All-take (λ b. b < 256) header.p_filesz (drop header.p_offset file)
        (All-drop (λ b. b < 256) header.p_offset file h)

regions-valid : (ms : List Mapping) → All (λ m. AreBytes m.first) ms → All HasRoom ms
    → All IsValidRegion (map region_of ms)
regions-valid ms h room =
    All-map IsValidRegion region_of ms
    (λ n d below. region_of-valid (get_or ms n d) (h n d below) (room n d below))

pub mappings_have_room : MappingsHaveRoom
mappings_have_room file inside = mappings-room (length file) file inside

-- ---- the bytes of the stack

small-bytes : (bytes : List ℕ) → list_all (λ b. nat_lt b 256) bytes ≡ true → AreBytes bytes
small-bytes [] h = All-nil (λ b. b < 256)
small-bytes (b ∷ bytes) h =
    let parts = and_parts (nat_lt b 256) (list_all (λ b. nat_lt b 256) bytes) h in
    All-cons (λ b. b < 256) b bytes (ltb-true b 256 parts.0) (small-bytes bytes parts.1)

program_name-bytes : AreBytes program_name
program_name-bytes = small-bytes program_name refl

strings-bytes : (texts : List (List ℕ)) → All AreBytes texts → AreBytes (strings texts)
strings-bytes [] h = All-nil (λ b. b < 256)
strings-bytes (text ∷ texts) h =
    All-same (λ b. b < 256) _ _ (flat_map-cons (λ (z : List ℕ). z ++ 0 ∷ []) text texts)
    (All-append (λ b. b < 256) (text ++ 0 ∷ []) (strings texts)
    (All-append (λ b. b < 256) text (0 ∷ []) (All-head AreBytes text texts h)
    (All-cons (λ b. b < 256) 0 [] (omega arith) (All-nil (λ b. b < 256))))
    (strings-bytes texts (All-tail AreBytes text texts h)))

zeros-bytes : (n : ℕ) → AreBytes (replicate n 0)
zeros-bytes n = All-replicate (λ b. b < 256) n 0 (omega arith)

stack_top-bytes : (texts : List (List ℕ)) → All AreBytes texts → AreBytes (stack_top texts)
stack_top-bytes texts h =
    let words : List ℕ = flat_map (to_be_bytes w32) (argument_words texts) in
    let between : ℕ = strings_address texts - (words_address texts + argument_size texts) in
    let above : ℕ = stack_end - strings_address texts - length (strings texts) in
    All-append (λ b. b < 256) (words ++ replicate between 0 ++ strings texts) (replicate above 0)
    (All-append (λ b. b < 256) (words ++ replicate between 0) (strings texts)
    (All-append (λ b. b < 256) words (replicate between 0)
    (flat_map-bytes (to_be_bytes w32) (high_first-bytes 4) (argument_words texts)) (zeros-bytes between))
    (strings-bytes texts h))
    (zeros-bytes above)

-- ---- how many they are

length-words : (words : List ℕ) → length (flat_map (to_be_bytes w32) words) ≡ 4 * length words
length-words [] = refl
length-words (w ∷ words) =
    let rest = length-words words in
    ap length (flat_map-cons (to_be_bytes w32) w words) ∙ omega arith

length-pointers : (address : ℕ) (texts : List (List ℕ)) → length (pointers address texts) ≡ length texts
length-pointers address [] = refl
length-pointers address (text ∷ texts) = ap suc (length-pointers (address + length text + 1) texts)

length-argument_words : (texts : List (List ℕ)) → length (argument_words texts) ≡ length texts + 5
length-argument_words texts =
    let some = length-pointers (strings_address texts) texts in
    ap suc (length-append (pointers (strings_address texts) texts) (0 ∷ 0 ∷ 0 ∷ 0 ∷ [])) ∙ omega arith

-- the parts of the stack fill it
filled : (start end long strings_long words_long sp : ℕ) → strings_long ≤ long
    → long + words_long + 72 ≤ end - start → sp ≤ end - long - 64 - words_long
    → end - long - 64 - words_long ≤ sp + 7
    → (sp + 64 - start)
    + (words_long + (end - long - (sp + 64 + words_long)) + strings_long
    + (end - (end - long) - strings_long))
    ≡ end - start
filled start end long strings_long words_long sp a b c d = omega arith

five_parts : (first second third fourth fifth : List ℕ)
    → length (first ++ (second ++ third ++ fourth ++ fifth))
    ≡ length first + (length second + length third + length fourth + length fifth)
five_parts first second third fourth fifth = simp length-append

rounded_up-least : (n : ℕ) → n ≤ rounded_up n
rounded_up-least n = omega arith

rounded_down-most : (n : ℕ) → rounded_down n ≤ n
rounded_down-most n = omega arith

rounded_down-near : (n : ℕ) → n ≤ rounded_down n + 7
rounded_down-near n = omega arith

pub stack-count : (texts : List (List ℕ)) → FitsStack texts
    → length (stack_region texts).bytes ≡ stack_end - stack_start
stack-count texts fits =
    five_parts (replicate below 0) (flat_map (to_be_bytes w32) (argument_words texts)) (replicate between 0)
    (strings texts) (replicate above 0)
    ∙ sizes _ _ _ _ (length-replicate below 0)
    (length-words (argument_words texts) ∙ ap (λ (z : ℕ). 4 * z) (length-argument_words texts))
    (length-replicate between 0) (length-replicate above 0)
    ∙ filled stack_start stack_end (rounded_up (length (strings texts))) (length (strings texts))
    (argument_size texts) (first_sp texts) (rounded_up-least (length (strings texts))) fits
    (rounded_down-most (strings_address texts - 64 - argument_size texts))
    (rounded_down-near (strings_address texts - 64 - argument_size texts))
  where
    below : ℕ
    below = words_address texts - stack_start

    between : ℕ
    between = strings_address texts - (words_address texts + argument_size texts)

    above : ℕ
    above = stack_end - strings_address texts - length (strings texts)

    sizes : (a b c d : ℕ) → a ≡ below → b ≡ argument_size texts → c ≡ between → d ≡ above
        → a + (b + c + length (strings texts) + d)
        ≡ below + (argument_size texts + between + length (strings texts) + above)
    sizes a b c d e f g h = rw (e, f, g, h)

stack-valid : (texts : List (List ℕ)) → All AreBytes texts → FitsStack texts
    → IsValidRegion (stack_region texts)
stack-valid texts h fits = record {
  count = stack-count texts fits;
  bytes =
      All-append (λ b. b < 256) (replicate (words_address texts - stack_start) 0) (stack_top texts)
      (zeros-bytes (words_address texts - stack_start)) (stack_top-bytes texts h);
}

-- ---- the state

first_sp-range : (texts : List (List ℕ)) → first_sp texts < 2 ^ 32
first_sp-range texts = near (rounded_up (length (strings texts))) (argument_size texts) (first_sp texts)
    (rounded_down-most (strings_address texts - 64 - argument_size texts))
  where
    near : (long words_long sp : ℕ) → sp ≤ stack_end - long - 64 - words_long → sp < 2 ^ 32
    near long words_long sp h = omega arith

memory-valid : (file : List ℕ) (texts : List (List ℕ)) → AreBytes file → All AreBytes texts
    → All HasRoom (mappings file) → FitsStack texts → IsValidMemory (start_memory file texts)
memory-valid file texts h k room fits = record {
  heap = empty_heap-valid;
  regions =
      All-append IsValidRegion (map region_of (mappings file)) (stack_region texts ∷ [])
      (regions-valid (mappings file) (first-bytes file h) room)
      (All-cons IsValidRegion (stack_region texts) [] (stack-valid texts k fits) (All-nil IsValidRegion));
}

pub starts_valid : StartsValid
unfolding start_of
starts_valid file args input h k i room fits =
    let texts : List (List ℕ) = program_name ∷ args in
    let all : All AreBytes texts = All-cons AreBytes program_name args program_name-bytes k in
    first_state-valid (start_memory file texts) (e_entry file) (first_sp texts) input
    (memory-valid file texts h all room fits) (word_at-range file 24 h) (first_sp-range texts) i
