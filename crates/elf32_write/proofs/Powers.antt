-- Powers of two, and what stands a multiple of them further on.
use Rattle.elf32_write.proofs.Common.{◌≡◌, ℕ, zero, suc, ◌+◌, ◌-◌, ◌*◌, ◌/◌, ◌%◌, ◌^◌, ◌≤◌, ◌⊎◌, inl, inr, max, true, nat_eq, List, [], ◌∷◌, sym, ap, ◌∙◌, arith, lit<, All, fold, eqb-true, All-cons, ProgramHeader, is_power_of_two, cases_lt, cases_eq}
use Rattle.std.specs.Int.RustNames.{count_ones}
use Rattle.std.proofs.Math.Nat.{mod-mod_of_dvd, add-mul-mod_self_left, mul-mod_right, div-add-mod, pow-suc, pow-le-pow_right}
use Rattle.std.proofs.lemmas.Nat.{ones_cat, ones_le_self, zero_from_ones, pow-add, pow_pos}
use Rattle.std.proofs.lemmas.Nat.Gcd.{dvd_of_mod-eq-zero}

abbrev pub IsPower : ℕ → Type 0
IsPower n = (k : ℕ) × (n ≡ 2 ^ k)

-- the ones of a number: those of its half, and of its lowest digit
ones_parts : (n : ℕ) → count_ones n ≡ count_ones (n / 2) + count_ones (n % 2)
ones_parts n =
    let e : n ≡ n / 2 * 2 ^ 1 + n % 2 = omega arith in
    ap count_ones e ∙ ones_cat 1 (n / 2) (n % 2) (omega arith)

power_from : (d n : ℕ) → n ≤ d → count_ones n ≡ 1 → IsPower n
power_from zero n few one = let le = ones_le_self n in absurd (omega arith)
power_from (suc d) n few one =
    let parts = ones_parts n in
    let le = ones_le_self n in
    elim (cases_eq (n % 2) 0) [
      | inl even ↦
          let low = ones_le_self (n % 2) in
          let half : IsPower (n / 2) = power_from d (n / 2) (omega arith) (omega arith) in
          (suc half.0, (let h : n / 2 ≡ 2 ^ half.0 = half.1 in rw (pow-suc 2 half.0) (omega arith)))
      | inr odd ↦
          let some : count_ones (n % 2) ≡ 0 → ⊥ = λ e. odd (zero_from_ones (n % 2) e) in
          let half : n / 2 ≡ 0 = zero_from_ones (n / 2) (omega arith) in
          (0, omega arith)
    ]

pub power_of_two : (n : ℕ) → is_power_of_two n ≡ true → IsPower n
power_of_two n holds = power_from n n (omega arith) (eqb-true (count_ones n) 1 holds)

pub power-4096 : is_power_of_two 4096 ≡ true
unfolding count_ones
power-4096 = ap (λ n. nat_eq n 1) (ones_cat 12 1 0 (lit< tt))

-- the lesser of two powers divides the greater
divides : (k f : ℕ) → 2 ^ k ≤ 2 ^ f → 2 ^ f % 2 ^ k ≡ 0
divides k f le = elim (cases_lt f k) [
  | inl more ↦
      let up : 2 ^ suc f ≤ 2 ^ k = pow-le-pow_right {n = 2} (omega arith) {i = suc f} {j = k} (omega arith) in
      absurd (omega (arith, up, pow-suc 2 f, pow_pos f))
  | inr few ↦
      let e : f ≡ k + (f - k) = omega arith in
      ap (λ n. 2 ^ n % 2 ^ k) e ∙ rw (pow-add 2 k (f - k)) (mul-mod_right (2 ^ k) (2 ^ (f - k)))
]

pub power_divides : (a d : ℕ) → IsPower a → IsPower d → a ≤ d → d % a ≡ 0
power_divides a d (k, first) (f, second) le = rw (first, second) (divides k f (rw (← first, ← second) le))

-- an offset is the same modulo what divides the distance and the size of a word
pub shifted : (a d offset : ℕ) → d % a ≡ 0 → 2 ^ 32 % a ≡ 0 → (offset + d) % 2 ^ 32 % a ≡ offset % a
shifted a d offset whole wraps =
    let e : d ≡ a * (d / a) = sym (div-add-mod d a) ∙ ap (λ n. a * (d / a) + n) whole ∙ omega arith in
    mod-mod_of_dvd a (offset + d) (dvd_of_mod-eq-zero a wraps)
    ∙ ap (λ n. (offset + n) % a) e ∙ add-mul-mod_self_left offset a (d / a)

-- The greatest of some alignments, each a power or none.

max_power : (m a : ℕ) → IsPower m → (a ≡ 0) ⊎ IsPower a → IsPower (max m a)
max_power m a power (inl none) = (power.0, (let e : max m a ≡ m = omega arith in e ∙ power.1))
max_power m a power (inr other) = elim (cases_lt m a) [
  | inl more ↦ (other.0, (let e : max m a ≡ a = omega arith in e ∙ other.1))
  | inr few ↦ (power.0, (let e : max m a ≡ m = omega arith in e ∙ power.1))
]

pub greatest_power : (hs : List ProgramHeader) (least : ℕ) → IsPower least → All (λ h. (h.p_align ≡ 0) ⊎ IsPower h.p_align) hs → IsPower (fold (λ most h. max most h.p_align) least hs)
greatest_power [] least power all = power
greatest_power (h ∷ hs) least power all =
    greatest_power hs (max least h.p_align) (max_power least h.p_align power (all zero h (omega arith))) (λ k d below. all (suc k) d (omega arith))

pub greatest_above : (hs : List ProgramHeader) (least : ℕ) → (least ≤ fold (λ most h. max most h.p_align) least hs) × All (λ h. h.p_align ≤ fold (λ most h. max most h.p_align) least hs) hs
greatest_above [] least = (omega arith, λ k d below. absurd (omega arith))
greatest_above (h ∷ hs) least =
    let later = greatest_above hs (max least h.p_align) in
    let here = later.0 in
    (omega arith, All-cons (λ g. g.p_align ≤ fold (λ most g. max most g.p_align) (max least h.p_align) hs) h hs (omega arith) later.1)
