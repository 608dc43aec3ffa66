-- The registers that a snippet names.
use Rattle.snippet_code.proofs.Common.{◌≡◌, ℕ, zero, suc, ◌+◌, ◌<◌, ◌≤◌, ◌⊎◌, inl, inr, Bool, true, false, cond, List, [], ◌∷◌, length, refl, ap, ◌∙◌, arith, length-append, nat_lt, range_with_len, nat_tests, Part, Reg, Icc, has, registers, register_count, Op, Keep, Top, named_by, not, ◌&&◌, or_right, filter, filter-append, Y, is_member, registers_from, every_part, members, set_of, is_register, all_off, joined, registers_ascend, registers_count, read_by}
use Rattle.v8_decode.proofs.Members.{has-members, is_same-self}
use Rattle.snippet_code.proofs.Working.{IsRead}

abbrev pub IsReadIn : List Op → ℕ → Type 0
IsReadIn [] q = ⊥
IsReadIn (op ∷ ops) q = IsRead op q ⊎ IsReadIn ops q

first_has : (reg q : ℕ) (ps : List Part) → q ≡ reg → has (Reg reg ∷ ps) (Reg q) ≡ true
first_has reg q ps e = cc (e, is_same-self (Reg reg))

has_read : (ops : List Op) (q : ℕ) → IsReadIn ops q → has (read_by ops) (Reg q) ≡ true
has_read [] q h = absurd h
has_read (Keep cell reg ∷ ops) q (inl h) = first_has reg q (read_by ops) h
has_read (Keep cell reg ∷ ops) q (inr h) = or_right _ _ (has_read ops q h)
has_read (Top cell reg ∷ ops) q (inl h) = first_has reg q (read_by ops) h
has_read (Top cell reg ∷ ops) q (inr h) = or_right _ _ (has_read ops q h)
has_read (op ∷ ops) q (inl h) = absurd h
has_read (op ∷ ops) q (inr h) = has_read ops q h

-- a register that is read is named, but for %g0
pub has_named : (ops : List Op) (q : ℕ) → IsReadIn ops q → 0 < q → q < 32 → has (named_by ops) (Reg q) ≡ true
has_named ops q h some below =
    has-members (has (read_by ops)) (Reg q) ∙ ap (λ b. is_member (Reg q) && b) (has_read ops q h)
    ∙ (let e : ((nat_lt 0 q && nat_lt q 32) && true) ≡ true = grind (arith, nat_tests) in e)

-- ---- no more are named than there are operations

count_from : (f : Part → Bool) (first count : ℕ) → length (filter is_register (filter f (registers_from first count)))
    ≡ length (filter (λ (r : ℕ). f (Reg r)) (range_with_len first count))
count_from f first zero = refl
count_from f first (suc count) =
    go (f (Reg first)) (cc (count_from f (suc first) count, (let e : suc first ≡ first + 1 = omega arith in e)))
  where
    go : (b : Bool) → length (filter is_register (filter f (registers_from (suc first) count)))
        ≡ length (filter (λ (r : ℕ). f (Reg r)) (range_with_len (first + 1) count))
        → length (filter is_register (cond b (Reg first ∷ filter f (registers_from (suc first) count))
        (filter f (registers_from (suc first) count))))
        ≡ length (cond b (first ∷ filter (λ (r : ℕ). f (Reg r)) (range_with_len (first + 1) count))
        (filter (λ (r : ℕ). f (Reg r)) (range_with_len (first + 1) count)))
    go true e = ap suc e
    go false e = e

rest_none : (f : Part → Bool) → length (filter is_register (filter f (Icc ∷ Y ∷ []))) ≡ 0
rest_none f = grind arith

members_count : (f : Part → Bool) → register_count (members f) ≡ length (filter (λ (r : ℕ). f (Reg r)) registers)
unfolding members every_part registers
members_count f =
    ap (λ (z : List Part). length (filter is_register z)) (filter-append f (registers_from 1 31) (Icc ∷ Y ∷ []))
    ∙ ap (λ (z : List Part). length z)
    (filter-append is_register (filter f (registers_from 1 31)) (filter f (Icc ∷ Y ∷ []))) ∙ omega (
      arith,
      length-append (filter is_register (filter f (registers_from 1 31)))
          (filter is_register (filter f (Icc ∷ Y ∷ []))),
      rest_none f,
      count_from f 1 31,
    )

all_true : (xs : List ℕ) → length (filter (λ r. true) xs) ≡ length xs
all_true [] = refl
all_true (x ∷ xs) = ap suc (all_true xs)

and_true : (p : ℕ → Bool) (xs : List ℕ) → filter (λ r. p r && true) xs ≡ filter p xs
and_true p xs = ap (λ (q : ℕ → Bool). filter q xs) (λ i r. same (p r) i)
  where
    same : (b : Bool) → (b && true) ≡ b
    same true = refl
    same false = refl

pub set_few : (ps : List Part) → register_count (set_of ps) ≤ register_count ps
set_few ps =
    let a = all_off ps 0 registers registers_ascend in
    let b = joined (λ (r : ℕ). has ps (Reg r)) (λ r. true) registers in
    let c = registers_count in
    omega (
      arith,
      members_count (has ps),
      all_true registers,
      ap (λ (z : List ℕ). length z) (and_true (λ (r : ℕ). has ps (Reg r)) registers),
      ap (λ (z : List ℕ). length z) (and_true (λ (r : ℕ). not (has ps (Reg r))) registers),
    )

read_few : (ops : List Op) → register_count (read_by ops) ≤ length ops
read_few [] = omega arith
read_few (op ∷ ops) = grind (arith, read_few ops)

pub named_few : (ops : List Op) → register_count (named_by ops) ≤ length ops
named_few ops = omega (arith, set_few (read_by ops), read_few ops)
