-- The bytes of the program, part by part.
use Rattle.workload.proofs.Common.{◌≡◌, ℕ, zero, suc, ◌+◌, ◌-◌, ◌*◌, ◌<◌, List, [], ◌++◌, length, map, refl, ap, arith, w32, to_be_bytes, flat_map, range_with_len, length-map, Instr, word_of, stirred, routine_from, routines_from, call_of, exit_code, routine_code, caller_code, code_of, bytes_of, header_words, generated, length-append, append_assoc, map-append, length-flat_map}
use Rattle.std.proofs.lemmas.List.FromFn.{length-range_with_len}
use Rattle.std.proofs.lemmas.Grind.{flat_map-append}

abbrev pub code_bytes : List Instr → List ℕ
code_bytes code = bytes_of (map word_of code)

code_bytes-append : (xs ys : List Instr) → code_bytes (xs ++ ys) ≡ code_bytes xs ++ code_bytes ys
code_bytes-append xs ys =
    rw (map-append word_of xs ys) (flat_map-append (to_be_bytes w32) (map word_of xs) (map word_of ys))

-- a piece more of what is left to add
pub moved : (now next whole words : List ℕ) (piece rest all : List Instr) → words ≡ map word_of piece
    → next ≡ now ++ bytes_of words → all ≡ piece ++ rest → now ++ code_bytes all ≡ whole → next ++ code_bytes rest ≡ whole
moved now next whole words piece rest all is added parts before =
    rw (added, is, append_assoc, ← code_bytes-append piece rest, ← parts) before

pub one_call : (count routine : ℕ) → routine < count
    → flat_map (call_of count) (range_with_len routine (count - routine)) ++ exit_code
    ≡ call_of count routine ++ (flat_map (call_of count)
    (range_with_len (routine + 1) (count - (routine + 1))) ++ exit_code)
one_call count routine below =
    let more : count - routine ≡ suc (count - (routine + 1)) = omega arith in
    rw more refl

pub one_routine : (count done x next : ℕ) → done < count → next ≡ stirred (stirred x)
    → flat_map routine_code (routines_from (count - done) x)
    ≡ routine_code (routine_from x) ++ flat_map routine_code (routines_from (count - (done + 1)) next)
one_routine count done x next below is =
    let more : count - done ≡ suc (count - (done + 1)) = omega arith in
    rw (more, is) refl

-- ---- the whole file

pub length-routines : (count x : ℕ) → length (routines_from count x) ≡ count
length-routines zero x = refl
length-routines (suc count) x = ap suc (length-routines count (stirred (stirred x)))

pub length-caller : (count : ℕ) → length (caller_code count) ≡ 2 * count + 2
length-caller count =
    let calls = length-flat_map (call_of count) 2 (λ i. refl) (range_with_len 0 count) in
    let both = length-append (flat_map (call_of count) (range_with_len 0 count)) exit_code in
    omega (arith, calls, length-range_with_len 0 count, both)

-- there are nine words for each routine, and two
pub word_count : (number count : ℕ)
    → length (map word_of (code_of (routines_from count number) count)) ≡ 9 * count + 2
word_count number count =
    let rs = routines_from count number in
    let bodies = length-flat_map routine_code 7 (λ r. refl) rs in
    let routines = length-routines count number in
    let words = length-map (code_of rs count) word_of in
    let both = length-append (caller_code count) (flat_map routine_code rs) in
    omega (arith, bodies, routines, words, length-caller count, both)

pub whole : (number count size : ℕ) (start first second third : List ℕ) → size ≡ 4 * (9 * count + 2) → start ≡ []
    → first ≡ start ++ bytes_of (header_words size) → second ≡ first ++ code_bytes (caller_code count)
    → third ≡ second ++ code_bytes (flat_map routine_code (routines_from count number))
    → third ≡ generated number count
unfolding generated
whole number count size start first second third is empty a b c =
    let caller = caller_code count in
    let bodies = flat_map routine_code (routines_from count number) in
    let headers = header_words (4 * (9 * count + 2)) in
    rw (c, b, a, empty, is, word_count number count)
    (rw (flat_map-append (to_be_bytes w32) headers (map word_of (caller ++ bodies)), code_bytes-append caller bodies)
    (append_assoc (bytes_of headers) (code_bytes caller) (code_bytes bodies)))
