-- What the conditions say of a comparison.
use Rattle.std.proofs.Common.{◌≡◌, ◌+◌, ◌-◌, ◌^◌, ◌<◌, ℕ, Bool, true, false, ◌&&◌, ◌||◌, not, nat_lt, nat_le, ◌==◌, refl, ap, ◌∙◌, arith}
use Rattle.v8_alu.specs.Alu.{codes_of, difference_overflows}
use Rattle.v8_alu.specs.Code.{compared_codes}
use Rattle.v8_alu.specs.Numbers.{differ, is_negative, wrapped}

pub equal : (a b : ℕ) → a < 2 ^ 32 → b < 2 ^ 32 → (compared_codes a b).z ≡ (a == b)
equal a b ha hb = grind arith

-- the codes of a logical operation's value
pub with_zero : (a : ℕ) → a < 2 ^ 32 → compared_codes a 0 ≡ codes_of a false false
with_zero a fits =
    ap (λ d. codes_of d (difference_overflows a 0 d) (nat_lt a 0)) value
    ∙ ap (λ v. codes_of a v (nat_lt a 0)) (same (is_negative a)) ∙ ap (λ c. codes_of a false c) none
  where
    value : wrapped (2 ^ 33 + a - (0 + 0)) ≡ a
    value = omega arith

    same : (b : Bool) → (differ b false && differ b b) ≡ false
    same true = refl
    same false = refl

    none : nat_lt a 0 ≡ false
    none = grind arith

pub less : (a b : ℕ) → a < 2 ^ 32 → b < 2 ^ 32
    → differ (compared_codes a b).n (compared_codes a b).v ≡ nat_lt (wrapped (a + 2 ^ 31)) (wrapped (b + 2 ^ 31))
less a b ha hb = grind arith

pub at_most : (a b : ℕ) → a < 2 ^ 32 → b < 2 ^ 32
    → ((compared_codes a b).z || differ (compared_codes a b).n (compared_codes a b).v)
    ≡ not (nat_lt (wrapped (b + 2 ^ 31)) (wrapped (a + 2 ^ 31)))
at_most a b ha hb = grind arith

pub at_most_unsigned : (a b : ℕ) → a < 2 ^ 32 → b < 2 ^ 32
    → ((compared_codes a b).c || (compared_codes a b).z) ≡ nat_le a b
at_most_unsigned a b ha hb = grind arith
