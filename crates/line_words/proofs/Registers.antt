-- The names of registers.
use Rattle.std.proofs.Common.{◌≡◌, ℕ, zero, suc, ◌+◌, ◌<◌, Bool, true, List, get_or, map, Option, Some, None, refl, ap, sym, ◌∙◌, arith}
use Rattle.std.specs.List.{find, range_with_len}
use Rattle.std.specs.Str.{bytes_eq}
use Rattle.std.proofs.lemmas.Bool.Decides.{nat_tests}
use Rattle.std.proofs.lemmas.List.FromFn.{get_or-map-range_with_len}
use Rattle.std.proofs.lemmas.Slice.Eq.{bytes_eq-Decides}
use Rattle.line_words.specs.Words.{register_of}
use Rattle.line_words.specs.Registers.{register_text}

all_back : map (λ reg. register_of (register_text reg)) (range_with_len 0 32) ≡ map Some (range_with_len 0 32)
unfolding register_of
all_back = refl

-- names that are written are read
pub register_back : (reg : ℕ) → reg < 32 → register_of (register_text reg) ≡ Some reg
register_back reg small =
    sym (get_or-map-range_with_len (λ r. register_of (register_text r)) 0 32 reg reg None small (omega arith))
    ∙ ap (λ (found : List (Option ℕ)). get_or found reg None) all_back
    ∙ get_or-map-range_with_len Some 0 32 reg reg None small (omega arith)

found_one : (test : ℕ → Bool) (from count x : ℕ) → find test (range_with_len from count) ≡ Some x
    → (test x ≡ true) × (x < from + count)
found_one test from zero x h = absurd (cc h)
found_one test from (suc count) x h = grind (arith, nat_tests, found_one test (from + 1) count x)

-- and no other word is
pub register_read : (word : List ℕ) (reg : ℕ) → register_of word ≡ Some reg → (word ≡ register_text reg) × (reg < 32)
unfolding register_of
register_read word reg h =
    let found = found_one (λ r. bytes_eq word (register_text r)) 0 32 reg h in
    ((bytes_eq-Decides word (register_text reg)).0 found.0, omega arith)
