-- The records that a memory keeps.
use Rattle.v8_memory.proofs.Common.{◌≡◌, ◌+◌, ◌*◌, ◌%◌, ◌^◌, ◌<◌, ℕ, zero, suc, List, [], ◌∷◌, ◌++◌, length, get_or, slice_set, replicate, inl, refl, ap, subst, arith, pos, map, take, drop, filter, Predecoded, AreKept, IsKept, Region, is_code, written}
use Rattle.v8_decode.specs.declared.Op2.TheVariants.{Reg}
use Rattle.v8_memory.specs.declared.ops.OpCode.TheVariants.{Other}
use Rattle.v8_memory.specs.Ops.{IsSum, operand_in, plain_operand}
use Rattle.v8_memory.proofs.Executable.{filter-written}

pub register_operand : (r : ℕ) → operand_in r (pos 0) ≡ plain_operand (Reg r)
register_operand zero = refl
register_operand (suc r) = refl

-- records that say nothing
pub kept_nothing : (n : ℕ) (x : Predecoded) (code : List Region) (address : ℕ) → x.code ≡ Other → IsSum x.rs2 x.imm
    → AreKept code address (replicate n x)
kept_nothing zero x code address other sum = tt
kept_nothing (suc n) x code address other sum =
    ((sum, inl other), kept_nothing n x code (address + 4) other sum)

-- another record in the place of one
pub kept_set : (code : List Region) (address : ℕ) (kept : List Predecoded) (n : ℕ) (x : Predecoded) → AreKept code address kept
    → IsKept code ((address + 4 * n) % 2 ^ 32) x → AreKept code address (slice_set kept n x)
kept_set code address [] n x h new = tt
kept_set code address (y ∷ kept) zero x h new = (subst (λ a. IsKept code (a % 2 ^ 32) x) (omega arith) new, h.1)
kept_set code address (y ∷ kept) (suc n) x h new =
    (h.0, kept_set code (address + 4) kept n x h.1 (subst (λ a. IsKept code (a % 2 ^ 32) x) (omega arith) new))

-- the record of a word
pub kept_at : (code : List Region) (address : ℕ) (kept : List Predecoded) (n : ℕ) (d : Predecoded) → AreKept code address kept
    → n < length kept → IsKept code ((address + 4 * n) % 2 ^ 32) (get_or kept n d)
kept_at code address [] n d h within = absurd (omega arith)
kept_at code address (x ∷ kept) zero d h within = subst (λ a. IsKept code (a % 2 ^ 32) x) (omega arith) h.0
kept_at code address (x ∷ kept) (suc n) d h within =
    subst (λ a. IsKept code (a % 2 ^ 32) (get_or kept n d)) (omega arith)
    (kept_at code (address + 4) kept n d h.1 (omega arith))

map_in_place : (f : Region → Region) (xs : List Region)
    → take (length xs) (map f xs ++ drop (length (map f xs)) xs) ≡ map f xs
map_in_place f [] = refl
map_in_place f (x ∷ xs) = ap (λ z. f x ∷ z) (map_in_place f xs)

-- a vector that was written through a slice of all its items
pub written_through : (f : Region → Region) (count : ℕ) (items slice new : List Region) → length items ≡ count
    → slice ≡ items → new ≡ map f slice → take count (new ++ drop (length new) items) ≡ map f items
written_through f count items slice new whole same is =
    rw (is, same, ← whole) (map_in_place f items)

-- a write changes no word that has a record
pub kept_written : (address : ℕ) (bytes : List ℕ) (old new : List Region) (first : ℕ) (kept : List Predecoded)
    → new ≡ map (written address bytes) old → AreKept (filter is_code old) first kept
    → AreKept (filter is_code new) first kept
kept_written address bytes old new first kept is h = rw (is, filter-written address bytes old) h
