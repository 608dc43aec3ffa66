-- A mask is the mask of the set that it stands for.
use Rattle.std.proofs.Common.{◌≡◌, ℕ, zero, suc, ◌+◌, ◌*◌, ◌%◌, ◌^◌, ◌<◌, Bool, true, false, cond, List, [], ◌∷◌, ◌++◌, length, refl, sym, ap, ◌∙◌, subst, arith}
use Rattle.std.specs.Prelude.{filter}
use Rattle.std.specs.Int.{bit_at}
use Rattle.std.proofs.lemmas.Nat.{mod-pow-add}
use Rattle.std.proofs.lemmas.Nat.Bits.{bit_at-lt}
use Rattle.std.proofs.lemmas.Bool.{eqb-true, eqb-false}
use Rattle.v8_decode.specs.declared.Part.{Part}
use Rattle.v8_decode.specs.declared.Part.TheVariants.{Icc, Y}
use Rattle.v8_decode.specs.declared.sets.RegSet.TheInside.{Inside}
use Rattle.v8_decode.specs.Parts.{registers_from, every_part, members}
use Rattle.v8_decode.specs.Masks.{place_of, is_marked, parts_of}
use Rattle.v8_decode.specs.Private.{mask_of}

-- the parts stand at the places from k on
abbrev pub IsPlacedFrom : ℕ → List Part → Type 0
IsPlacedFrom k [] = Unit {0}
IsPlacedFrom k (p ∷ ps) = (place_of p ≡ k) × IsPlacedFrom (suc k) ps

registers_placed : (k n : ℕ) (ps : List Part) → IsPlacedFrom (k + n) ps → IsPlacedFrom k (registers_from k n ++ ps)
registers_placed k zero ps h = let e : k + 0 ≡ k = omega arith in subst (λ (j : ℕ). IsPlacedFrom j ps) e h
registers_placed k (suc n) ps h =
    let e : k + suc n ≡ suc k + n = omega arith in
    (refl, registers_placed (suc k) n ps (subst (λ (j : ℕ). IsPlacedFrom j ps) e h))

pub every_part_placed : IsPlacedFrom 1 every_part
unfolding every_part
every_part_placed = registers_placed 1 31 (Icc ∷ Y ∷ []) (refl, (refl, tt))

-- the low k + 1 bits are bit k and those below
pub next_bit : (m k : ℕ) → m % 2 ^ suc k ≡ bit_at m k * 2 ^ k + m % 2 ^ k
next_bit m k = let e : suc k ≡ 1 + k = omega arith in ap (λ j. m % 2 ^ j) e ∙ mod-pow-add m 1 k

mask_of-filter : (m k : ℕ) (ps : List Part) → IsPlacedFrom k ps → m % 2 ^ k + mask_of (filter (is_marked m) ps) ≡ m % 2 ^ (k + length ps)
mask_of-filter m k [] h =
    let e : k + 0 ≡ k = omega arith in
    let z : m % 2 ^ k + 0 ≡ m % 2 ^ k = omega arith in
    z ∙ ap (λ j. m % 2 ^ j) (sym e)
mask_of-filter m k (p ∷ ps) h = go (mask_of-filter m (suc k) ps h.1) (is_marked m p) refl
  where
    place : bit_at m (place_of p) ≡ bit_at m k
    place = ap (λ j. bit_at m j) h.0

    power : 2 ^ place_of p ≡ 2 ^ k
    power = ap (λ j. 2 ^ j) h.0

    total : m % 2 ^ (suc k + length ps) ≡ m % 2 ^ (k + suc (length ps))
    total = let e : suc k + length ps ≡ k + suc (length ps) = omega arith in ap (λ j. m % 2 ^ j) e

    go : m % 2 ^ suc k + mask_of (filter (is_marked m) ps) ≡ m % 2 ^ (suc k + length ps) → (b : Bool) → is_marked m p ≡ b
        → m % 2 ^ k + mask_of (cond b (p ∷ filter (is_marked m) ps) (filter (is_marked m) ps)) ≡ m % 2 ^ (k + suc (length ps))
    go rest true e =
        let one : bit_at m k ≡ 1 = sym place ∙ eqb-true _ _ e in
        let step : m % 2 ^ suc k ≡ 1 * 2 ^ k + m % 2 ^ k = next_bit m k ∙ ap (λ b. b * 2 ^ k + m % 2 ^ k) one in
        let sum : m % 2 ^ k + (2 ^ k + mask_of (filter (is_marked m) ps)) ≡ m % 2 ^ suc k + mask_of (filter (is_marked m) ps) = omega arith in
        ap (λ x. m % 2 ^ k + (x + mask_of (filter (is_marked m) ps))) power ∙ sum ∙ rest ∙ total
    go rest false e =
        let not_one : bit_at m (place_of p) ≡ 1 → ⊥ = eqb-false _ _ e in
        let none : bit_at m k ≡ 0 = omega (arith, place, not_one, bit_at-lt m k) in
        let step : m % 2 ^ suc k ≡ 0 * 2 ^ k + m % 2 ^ k = next_bit m k ∙ ap (λ b. b * 2 ^ k + m % 2 ^ k) none in
        let sum : m % 2 ^ k + mask_of (filter (is_marked m) ps) ≡ m % 2 ^ suc k + mask_of (filter (is_marked m) ps) = omega arith in
        sum ∙ rest ∙ total

pub every_part_length : length every_part ≡ 33
unfolding every_part
every_part_length = refl

pub mask_of-parts_of : (m : ℕ) → m < 2 ^ 34 → m % 2 ≡ 0 → mask_of (parts_of m) ≡ m
unfolding members
mask_of-parts_of m below even =
    let low : m % 2 ^ 1 + mask_of (parts_of m) ≡ m % 2 ^ (1 + length every_part) = mask_of-filter m 1 every_part every_part_placed in
    let all : m % 2 ^ (1 + length every_part) ≡ m % 2 ^ 34 = ap (λ n. m % 2 ^ (1 + n)) every_part_length in
    let whole : m % 2 ^ 34 ≡ m = omega arith in
    let none : m % 2 ^ 1 ≡ 0 = even in
    omega arith

pub mask_of-inside : (a : Inside) → a.mask < 2 ^ 34 → a.mask % 2 ≡ 0 → record { mask = mask_of (parts_of a.mask) } ≡ a
mask_of-inside a below even = ap (λ m. record { mask = m }) (mask_of-parts_of a.mask below even)
