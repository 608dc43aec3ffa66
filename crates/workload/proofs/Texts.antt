-- The text of the generated file: as an editor reads it, and in the memory in which a run starts.
use Rattle.workload.proofs.Common.{◌≡◌, ℕ, zero, suc, ◌+◌, ◌-◌, ◌*◌, ◌^◌, ◌<◌, ◌≤◌, true, List, [], ◌∷◌, ◌++◌, length, map, drop, Some, refl, ap, sym, ◌∙◌, arith, ◌/◌, ◌%◌, w32, to_be_bytes, flat_map, range_with_len, lt-ltb, length-map, big_number, big_number-reads_back, Instr, word_of, fetch_of, start_memory, Routine, first_word, call_of, exit_code, routine_code, caller_code, code_of, bytes_of, file_of, routines_from, generated, stirred, image_of, drawn, replicate, append-nil, take_all, drop-drop, words_of, text_from, text_of, GeneratedHoldsItsCode}
use Rattle.v8_decode.specs.declared.Instr.TheVariants as i
use Rattle.v8_decode.specs.Ranges.{is_in_range}
use Rattle.v8_encode.specs.Code.{has_word}
use Rattle.v8_encode.proofs.Decoded.{decode_of-word_of}
use Rattle.elf32_sparc.specs.Mapping.{Mapping, mappings}
use Rattle.v8_step.proofs.ValidNumbers.{flat_map-bytes, high_first-bytes}
use Rattle.v8_process.specs.Fetched.{IsFirstCode}
use Rattle.v8_process.proofs.Fetched.{code_is_fetched}
use Rattle.workload.proofs.Headers.{HeaderFacts, header_facts, length-bytes_of}
use Rattle.workload.proofs.Faults.{loads, text_is_first}
use Rattle.workload.proofs.Ways.{Stand, AreDrawn}
use Rattle.eel_base.specs.CodeText.{Words}
use Rattle.workload.proofs.Made.{word_count}

pub are_drawn : (count x : ℕ) → AreDrawn (routines_from count x)
are_drawn zero x = tt
are_drawn (suc count) x = (
  record { more = drawn x % 16; turns = omega arith; few = omega arith; small = omega arith },
  are_drawn count (stirred (stirred x)),
)

-- ---- each instruction of the program has a word

pub record IsFit (x : Instr) : Type 0 where
  pub range : is_in_range x ≡ true
  pub has : has_word x ≡ true
  pub small : word_of x < 2 ^ 32

abbrev pub AreFit : List Instr → Type 0
AreFit [] = Unit {0}
AreFit (x ∷ xs) = IsFit x × AreFit xs

fit-append : (xs ys : List Instr) → AreFit xs → AreFit ys → AreFit (xs ++ ys)
fit-append [] ys a b = b
fit-append (x ∷ xs) ys a b = (a.0, fit-append xs ys a.1 b)

fit : {x : Instr} {Rest : Type 0} → is_in_range x ≡ true → has_word x ≡ true → word_of x < 2 ^ 32 → Rest
    → IsFit x × Rest
fit range has small rest = (record { range = range; has = has; small = small }, rest)

fit-routines : (rs : List Routine) → AreDrawn rs → AreFit (flat_map routine_code rs)
fit-routines [] drawn = tt
fit-routines (r ∷ rs) drawn =
    let turns = drawn.0.turns in
    let few = drawn.0.few in
    let small = drawn.0.small in
    fit-append (routine_code r) (flat_map routine_code rs)
    (fit refl (lt-ltb r.turns (2 ^ 12) (omega arith)) (omega arith)
    (fit refl (lt-ltb r.amount (2 ^ 12) (omega arith)) (omega arith)
    (fit refl refl (omega arith) (fit refl refl (omega arith) (fit refl refl (omega arith)
    (fit refl refl (omega arith) (fit refl refl (omega arith) tt)))))))
    (fit-routines rs drawn.1)

fit-calls : (count n more : ℕ) → n + more ≤ count → count ≤ 100000
    → AreFit (flat_map (call_of count) (range_with_len n more) ++ exit_code)
fit-calls count n zero within few = fit refl refl (omega arith) (fit refl refl (omega arith) tt)
fit-calls count n (suc more) within few =
    fit refl (lt-ltb (first_word count n - 2 * n) (2 ^ 29) (omega arith)) (omega arith)
    (fit refl refl (omega arith) (fit-calls count (n + 1) more (omega arith) few))

fit-code : (rs : List Routine) (count : ℕ) → AreDrawn rs → count ≤ 100000 → AreFit (code_of rs count)
fit-code rs count drawn few =
    fit-append (caller_code count) (flat_map routine_code rs) (fit-calls count 0 count (omega arith) few)
    (fit-routines rs drawn)

-- ---- the file's one segment

abbrev segment : List ℕ → Mapping
segment ws = record { start = 0x10054; length = 4 * length ws; flags = 5; first = bytes_of ws }

module _ (ws : List ℕ) (some : 1 ≤ length ws) (few : length ws ≤ 2 ^ 20) where
  facts : HeaderFacts ws
  facts = header_facts ws (omega arith)

  mapped : mappings (file_of ws) ≡ segment ws ∷ []
  unfolding mappings
  mapped =
      rw (facts.entries, loads (4 * length ws) (omega arith) (omega arith))
      (rw (take_all (4 * length ws) (bytes_of ws) (omega (arith, length-bytes_of ws))) refl)

  first_code : IsFirstCode (file_of ws) (segment ws)
  first_code = record { before = []; after = []; mapped = mapped; none_before = refl; executable = refl }

  -- no zeros follow
  whole : (bytes : List ℕ) (size : ℕ) → size ≡ 0 → bytes ++ replicate size 0 ≡ bytes
  whole bytes size none = rw none (append-nil bytes)

  fetched : (texts : List (List ℕ)) (k : ℕ) → k < length ws
      → fetch_of (start_memory (file_of ws) texts) (0x10054 + 4 * k) ≡ Some (big_number 4 (drop (4 * k) (bytes_of ws)))
  fetched texts k inside =
      code_is_fetched (file_of ws) texts (segment ws) first_code refl
      (flat_map-bytes (to_be_bytes w32) (high_first-bytes 4) ws) k (omega arith)
      ∙ ap (λ bytes. Some (big_number 4 (drop (4 * k) bytes)))
      (whole (bytes_of ws) (4 * length ws - length (bytes_of ws)) (omega (arith, length-bytes_of ws)))

  text_read : text_of (file_of ws) ≡ record { start = 0x10054; words = words_of (length ws) (bytes_of ws) }
  unfolding text_of text_from
  text_read =
      let quarter : 4 * length ws / 4 ≡ length ws = omega arith in
      let all = take_all (4 * length ws) (bytes_of ws) (omega (arith, length-bytes_of ws)) in
      rw (facts.entries, text_is_first (4 * length ws) (omega arith) (omega arith), quarter, all)
      (rw (whole (bytes_of ws) (4 * length ws - 4 * length ws) (omega arith)) refl)

  module _ (count : ℕ) (size : length ws ≡ 9 * count + 2) (texts : List (List ℕ)) where
    stand_from : (code : List Instr) (k : ℕ) → AreFit code → k + length code ≡ length ws
        → drop (4 * k) (bytes_of ws) ≡ bytes_of (map word_of code)
        → Stand count (start_memory (file_of ws) texts) (0x10054 + 4 * k) code
    stand_from [] k fit all is = tt
    stand_from (x ∷ code) k fit all is =
        let more : k + suc (length code) ≡ length ws = all in
        let next : 4 * suc k ≡ 4 * k + 4 = omega arith in
        let rest : drop (4 * suc k) (bytes_of ws) ≡ bytes_of (map word_of code) =
        ap (λ n. drop n (bytes_of ws)) next ∙ sym (drop-drop 4 (4 * k) (bytes_of ws)) ∙ ap (drop 4) is in (
          record {
            fetched = fetched texts k (omega (arith, more))
                ∙ ap (λ bytes. Some (big_number 4 bytes)) is
                ∙ ap (λ (w : ℕ). Some w) (big_number-reads_back 4 (word_of x)
                (bytes_of (map word_of code)) fit.0.small);
            decodes = decode_of-word_of x fit.0.range fit.0.has;
            inside = record { aligned = omega arith; above = omega arith; below = omega (arith, more, size) };
          },
          (let next : 0x10054 + 4 * k + 4 ≡ 0x10054 + 4 * suc k = omega arith in
              rw next (stand_from code (suc k) fit.1 (omega (arith, more)) rest)),
        )

-- the whole text stands there
pub text_stands : (rs : List Routine) (count : ℕ) (texts : List (List ℕ)) → AreDrawn rs → 1 ≤ count → count ≤ 100000
    → length (map word_of (code_of rs count)) ≡ 9 * count + 2
    → Stand count (start_memory (file_of (map word_of (code_of rs count))) texts) 0x10054 (code_of rs count)
text_stands rs count texts drawn some few size =
    let ws = map word_of (code_of rs count) in
    let long = length-map (code_of rs count) word_of in
    stand_from ws (omega arith) (omega arith) count size texts (code_of rs count) 0 (fit-code rs count drawn few)
    (omega arith) refl

-- the words of bytes that are those of words
words_back : (code : List Instr) → AreFit code
    → words_of (length (map word_of code)) (bytes_of (map word_of code)) ≡ map word_of code
words_back [] fit = refl
words_back (x ∷ code) fit =
    cc (big_number-reads_back 4 (word_of x) (bytes_of (map word_of code)) fit.0.small, words_back code fit.1)

pub generated_holds_its_code : GeneratedHoldsItsCode
unfolding image_of generated
generated_holds_its_code number count some few =
    let code = code_of (routines_from count number) count in
    let size = word_count number count in
    let fit = fit-code (routines_from count number) count (are_drawn count number) few in
    let is : text_of (file_of (map word_of code)) ≡ record { start = 0x10054; words = map word_of code } =
    text_read (map word_of code) (omega arith) (omega arith)
    ∙ ap (λ ws. record { start = 0x10054; words = ws }) (words_back code fit) in
    record { text = is; size = ap (λ (t : Words). length t.words) is ∙ size }
