-- Instructions that have words.
use Rattle.jump_code.proofs.Common.{◌≡◌, ℕ, zero, suc, ◌+◌, ◌/◌, ◌%◌, ◌^◌, ◌<◌, true, List, [], ◌∷◌, length, map, refl, ap, ◌∙◌, arith, Op2, Instr, Says, StandIn, HasWords, words_of, nat_lt, has_word, op2_fits, Region, long_jump, translate_target, IsApart, link}
use Rattle.std.proofs.lemmas.Bool.{and_from, lt-ltb}
use Rattle.v8_decode.specs.Ranges.{op2_in_range, is_in_range}
use Rattle.v8_decode.specs.Words.{decode_of}
use Rattle.v8_encode.specs.Encoding.{word_of}
use Rattle.v8_encode.proofs.Decoded.{decode_of-word_of}

abbrev pub Fit : List Instr → Type 0
Fit [] = Unit {0}
Fit (x ∷ xs) = (is_in_range x ≡ true) × (has_word x ≡ true) × Fit xs

-- their words stand for them
pub words_mean : (code : List Region) (a : ℕ) (xs : List Instr) → Fit xs → HasWords code a (words_of xs)
    → StandIn code a xs
words_mean code a [] f h = tt
words_mean code a (x ∷ xs) f h =
    let says : Says code a x = record { word = word_of x; fetched = h.0; decodes = decode_of-word_of x f.0 f.1 } in
    (says, words_mean code (a + 4) xs f.2 h.1)

pub decoded : (xs : List Instr) → Fit xs → map decode_of (words_of xs) ≡ xs
decoded [] f = refl
decoded (x ∷ xs) f =
    ap (λ z. z ∷ map decode_of (words_of xs)) (decode_of-word_of x f.0 f.1)
    ∙ ap (λ (z : List Instr). x ∷ z) (decoded xs f.2)

pub lt : (n m : ℕ) → n < m → nat_lt n m ≡ true
lt n m h = lt-ltb n m h

pub link_fits : (rd address : ℕ) → rd < 32 → address < 2 ^ 32 → Fit (link rd address)
link_fits zero address low short = tt
link_fits (suc r) address low short =
    let l = lt (suc r) 32 low in
    let both_registers = and_from (nat_lt (suc r) 32) _ l (and_from (nat_lt (suc r) 32) true l refl) in
    let high = lt (address / 1024) (2 ^ 22) (omega arith) in
    (l, high, (both_registers, lt (address % 1024) 4096 (omega arith), tt))

-- a JMPL
pub find_fits : (x y rd rs1 : ℕ) (op2 : Op2) (table address : ℕ) → IsApart x rd rs1 op2 → IsApart y rd rs1 op2
    → op2_fits op2 ≡ true → op2_in_range op2 ≡ true → table < 2 ^ 32 → address < 2 ^ 32
    → Fit (translate_target x y rd rs1 op2 table address)
find_fits x y rd rs1 op2 table address a b fits low near short =
    let lx = lt x 32 a.below in
    let ly = lt y 32 b.below in
    let x_only = and_from (nat_lt x 32) true lx refl in
    let y_only = and_from (nat_lt y 32) true ly refl in
    let y_by_x = and_from (nat_lt y 32) _ ly x_only in
    let y_by_y = and_from (nat_lt y 32) _ ly y_only in
    let at_both = and_from (nat_lt x 32) (nat_lt y 32) lx ly in
    let at_either = and_from (nat_lt y 32) (nat_lt x 32) ly lx in
    let y_there = and_from (nat_lt y 32) _ ly at_both in
    let x_there = and_from (nat_lt x 32) _ lx at_either in
    let sum = and_from (nat_lt x 32) _ lx (and_from (nat_lt rs1 32) _ (lt rs1 32 a.rs1_below) low) in
    let high = lt (table / 1024) (2 ^ 22) (omega arith) in
    let links = link_fits rd address a.rd_below short in
    assumption (x_only, y_only, y_by_x, y_by_y, y_there, x_there, sum, fits, lx, high, links)

pub long_jump_fits : (to : ℕ) → to < 2 ^ 32 → Fit (long_jump to)
long_jump_fits to short =
    let high = lt (to / 1024) (2 ^ 22) (omega arith) in
    (refl, refl, (refl, high, (refl, lt (to % 1024) 4096 (omega arith), (refl, refl, tt))))

pub as_many : (xs : List Instr) → length (words_of xs) ≡ length xs
as_many [] = refl
as_many (x ∷ xs) = ap suc (as_many xs)
