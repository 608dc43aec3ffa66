-- Registers stay words, bytes make words, and words make bytes.
use Rattle.v8_step.proofs.Common.{◌≢◌, ℕ, zero, suc, ◌^◌, ◌<◌, List, [], ◌∷◌, take, drop, slice_index, flat_map, sym, ◌∙◌, arith, length-set, get_or-set_other, w8, w16, w32, to_be_bytes, from_be_bytes, bytes_high_first, nat_tests, All-nil, All-cons, All-head, All-tail, All-set, All-append, All-take, All-drop, All-same, AreRegisters, place_of, register_in, register_set, frame_registers, frame_of, frame_bytes, registers_from, with_frame, place_of-below, word_of, extended, AreBytes}
use Rattle.std.proofs.lemmas.List.Concat.{flat_map-cons}

-- ---- registers

-- no register but %g0 stands at the first place
place_some : (window r : ℕ) → place_of window (suc r) ≢ 0
place_some window r = grind (arith, nat_tests)

pub register_set-valid : (registers : List ℕ) (window r value : ℕ) → AreRegisters registers → value < 2 ^ 32
    → AreRegisters (register_set registers window r value)
register_set-valid registers window zero value h k = h
register_set-valid registers window (suc r) value h k = record {
  count = length-set registers (place_of window (suc r)) value ∙ h.count;
  zero =
      get_or-set_other registers (place_of window (suc r)) 0 value 0 (λ e. place_some window r (sym e)) ∙ h.zero;
  words = All-set (λ n. n < 2 ^ 32) registers (place_of window (suc r)) value k h.words;
}

pub register_in-range : (registers : List ℕ) (window r : ℕ) → AreRegisters registers
    → register_in registers window r < 2 ^ 32
register_in-range registers window zero h = omega arith
register_in-range registers window (suc r) h =
    h.words (place_of window (suc r)) 0 (rw h.count (place_of-below window (suc r)))

-- ---- words from bytes

pub byte-range : (bytes : List ℕ) (k : ℕ) → AreBytes bytes → slice_index bytes k < 256
byte-range [] k h = omega arith
byte-range (b ∷ bytes) zero h = All-head (λ n. n < 256) b bytes h
byte-range (b ∷ bytes) (suc k) h = byte-range bytes k (All-tail (λ n. n < 256) b bytes h)

pub word_of-range : (bytes : List ℕ) → AreBytes bytes → word_of bytes < 2 ^ 32
word_of-range bytes h =
    omega (arith, byte-range bytes 0 h, byte-range bytes 1 h, byte-range bytes 2 h, byte-range bytes 3 h)

pub half-range : (bytes : List ℕ) → AreBytes bytes → from_be_bytes w16 bytes < 2 ^ 16
half-range bytes h = omega (arith, byte-range bytes 0 h, byte-range bytes 1 h)

pub single-range : (bytes : List ℕ) → AreBytes bytes → from_be_bytes w8 bytes < 2 ^ 8
single-range bytes h = omega (arith, byte-range bytes 0 h)

pub extended_8-range : (n : ℕ) → n < 2 ^ 8 → extended 8 n < 2 ^ 32
extended_8-range n h = grind (arith, nat_tests)

pub extended_16-range : (n : ℕ) → n < 2 ^ 16 → extended 16 n < 2 ^ 32
extended_16-range n h = grind (arith, nat_tests)

-- ---- bytes from words

pub high_first-bytes : (count n : ℕ) → AreBytes (bytes_high_first count n)
high_first-bytes zero n = All-nil (λ b. b < 256)
high_first-bytes (suc count) n = All-cons (λ b. b < 256) _ _ (low count) (high_first-bytes count n)
  where
    low : (k : ℕ) → slice_index (bytes_high_first (suc k) n) 0 < 256
    low zero = omega arith
    low (suc k) = omega arith

pub flat_map-bytes : (f : ℕ → List ℕ) → ((n : ℕ) → AreBytes (f n)) → (ns : List ℕ) → AreBytes (flat_map f ns)
flat_map-bytes f h [] = All-nil (λ b. b < 256)
flat_map-bytes f h (n ∷ ns) =
    All-same (λ b. b < 256) _ _ (flat_map-cons f n ns)
    (All-append (λ b. b < 256) (f n) (flat_map f ns) (h n) (flat_map-bytes f h ns))

-- ---- frames

pub frame_bytes-bytes : (registers : List ℕ) (window : ℕ) → AreBytes (frame_bytes registers window)
frame_bytes-bytes registers window =
    flat_map-bytes (to_be_bytes w32) (high_first-bytes 4) (frame_of registers window)

registers_from-valid : (rs registers : List ℕ) (window : ℕ) (bytes : List ℕ) → AreRegisters registers → AreBytes bytes
    → AreRegisters (registers_from registers window rs bytes)
registers_from-valid [] registers window bytes h k = h
registers_from-valid (r ∷ rs) registers window bytes h k =
    registers_from-valid rs (register_set registers window r (word_of (take 4 bytes))) window (drop 4 bytes)
    (register_set-valid registers window r _ h (word_of-range (take 4 bytes) (All-take (λ b. b < 256) 4 bytes k)))
    (All-drop (λ b. b < 256) 4 bytes k)

pub with_frame-valid : (registers : List ℕ) (window : ℕ) (bytes : List ℕ) → AreRegisters registers → AreBytes bytes
    → AreRegisters (with_frame registers window bytes)
with_frame-valid registers window bytes h k = registers_from-valid frame_registers registers window bytes h k
