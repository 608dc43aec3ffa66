-- Sums of integers.
use Rattle.flows.proofs.Common.{◌≡◌, ℕ, zero, suc, ◌<◌, ◌⊎◌, inl, inr, refl, sym, arith, ℤ, pos, negsuc, ◌+ℤ◌, ◌-ℤ◌, ◌*ℤ◌, neg_ℤ, nat_abs, ints, cases_eq, total}
use lib.IntN.{suc_ℤ-*ℤ, pred_ℤ-*ℤ, zero-*ℤ, *ℤ-zero}
use native.Mathlib.Nat.{mul-pos}

-- ---- products
pub mul_add : (k a b : ℤ) → k *ℤ (a +ℤ b) ≡ k *ℤ a +ℤ k *ℤ b
mul_add (pos zero) a b = omega (arith, ints, zero-*ℤ (a +ℤ b), zero-*ℤ a, zero-*ℤ b)
mul_add (pos (suc n)) a b = omega (arith, ints, mul_add (pos n) a b, suc_ℤ-*ℤ (pos n) (a +ℤ b), suc_ℤ-*ℤ (pos n) a, suc_ℤ-*ℤ (pos n) b)
mul_add (negsuc zero) a b = omega (arith, ints, zero-*ℤ (a +ℤ b), zero-*ℤ a, zero-*ℤ b, pred_ℤ-*ℤ (pos zero) (a +ℤ b), pred_ℤ-*ℤ (pos zero) a, pred_ℤ-*ℤ (pos zero) b)
mul_add (negsuc (suc n)) a b = omega (arith, ints, mul_add (negsuc n) a b, pred_ℤ-*ℤ (negsuc n) (a +ℤ b), pred_ℤ-*ℤ (negsuc n) a, pred_ℤ-*ℤ (negsuc n) b)

pub zero_or_not : (a : ℤ) → (a ≡ pos 0) ⊎ (0 < nat_abs a)
zero_or_not a = grind arith

abs-neg_pos : (n : ℕ) → 0 < n → 0 < nat_abs (neg_ℤ (pos n))
abs-neg_pos n h = grind arith

pub abs-mul_pos : (x y : ℤ) → 0 < nat_abs x → 0 < nat_abs y → 0 < nat_abs (x *ℤ y)
abs-mul_pos (pos a) (pos b) p q = mul-pos p q
abs-mul_pos (pos a) (negsuc b) p q = abs-neg_pos _ (mul-pos p q)
abs-mul_pos (negsuc a) (pos b) p q = abs-neg_pos _ (mul-pos p q)
abs-mul_pos (negsuc a) (negsuc b) p q = mul-pos p q

-- a product that is 0 has a factor that is 0
pub factor_zero : (a b : ℤ) → 0 < nat_abs b → a *ℤ b ≡ pos 0 → a ≡ pos 0
factor_zero a b h e = elim (zero_or_not a) [ inl z ↦ z | inr p ↦ absurd (let q = rw e at (abs-mul_pos a b p h) in omega arith) ]

-- ---- sums
pub total_same : (n : ℕ) (f h : ℕ → ℤ) → ((e : ℕ) → e < n → f e ≡ h e) → total n f ≡ total n h
total_same zero f h s = refl
total_same (suc n) f h s = cc (total_same n f h (λ e l. s e (omega arith)), s n (omega arith))

pub total_zero : (n : ℕ) (f : ℕ → ℤ) → ((e : ℕ) → e < n → f e ≡ pos 0) → total n f ≡ pos 0
total_zero zero f s = refl
total_zero (suc n) f s = cc (total_zero n f (λ e l. s e (omega arith)), s n (omega arith))

pub total_add : (n : ℕ) (f h : ℕ → ℤ) → total n (λ e. f e +ℤ h e) ≡ total n f +ℤ total n h
total_add zero f h = refl
total_add (suc n) f h = let r = total_add n f h in omega (arith, ints, r)

pub total_sub : (n : ℕ) (f h : ℕ → ℤ) → total n (λ e. f e -ℤ h e) ≡ total n f -ℤ total n h
total_sub zero f h = refl
total_sub (suc n) f h = let r = total_sub n f h in omega (arith, ints, r)

pub total_scale : (n : ℕ) (k : ℤ) (f : ℕ → ℤ) → total n (λ e. k *ℤ f e) ≡ k *ℤ total n f
total_scale zero k f = sym (*ℤ-zero k)
total_scale (suc n) k f = let r = total_scale n k f in let d = mul_add k (total n f) (f n) in omega (arith, ints, r, d)

-- all terms but one are 0
pub total_one : (n : ℕ) (f : ℕ → ℤ) (h : ℕ) → h < n → ((e : ℕ) → e < n → (e ≡ h → ⊥) → f e ≡ pos 0) → total n f ≡ f h
total_one zero f h l a = absurd (omega arith)
total_one (suc n) f h l a = elim (cases_eq n h) [
  | inl c ↦ let z = total_zero n f (λ e b. a e (omega arith) (λ d. omega arith)) in rw (← c) (omega (arith, ints, z))
  | inr c ↦ omega (arith, ints, total_one n f h (omega arith) (λ e b d. a e (omega arith) d), a n (omega arith) c)
]

-- one term is another
pub total_change : (n : ℕ) (f k : ℕ → ℤ) (h : ℕ) → h < n → ((e : ℕ) → e < n → (e ≡ h → ⊥) → f e ≡ k e) → total n f +ℤ k h ≡ total n k +ℤ f h
total_change zero f k h l a = absurd (omega arith)
total_change (suc n) f k h l a = elim (cases_eq n h) [
  | inl c ↦ let z = total_same n f k (λ e b. a e (omega arith) (λ d. omega arith)) in rw (← c) (omega (arith, ints, z))
  | inr c ↦ omega (arith, ints, total_change n f k h (omega arith) (λ e b d. a e (omega arith) d), a n (omega arith) c)
]
