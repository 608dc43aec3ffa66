-- Small facts about tests.
use Rattle.flows.proofs.Common.{◌≡◌, ℕ, Bool, true, false, not, arith, ◌==◌, differ}

pub true_or_false : (b : Bool) {P : Type 0} → b ≡ true → b ≡ false → P
true_or_false b p q = absurd (cc)

pub not_twice : (b : Bool) → not (not b) ≡ b
not_twice b = grind arith

pub eqb_swap : (a v : ℕ) → (a == v) ≡ (v == a)
eqb_swap a v = grind arith

pub differ_same : (p q : Bool) → p ≡ true → q ≡ true → differ p q ≡ false
differ_same p q a b = grind arith

pub differ_equal : (p q : Bool) → differ p q ≡ false → p ≡ q
differ_equal p q h = grind arith
