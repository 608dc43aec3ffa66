-- An operation's outcome depends on what it reads alone.
use Rattle.std.proofs.Common.{◌≡◌, ℕ, ◌⊎◌, inl, inr, Bool, true, false, Result, Ok, Err, refl, subst}
use Rattle.v8_decode.specs.declared.AluOp.{AluOp}
use Rattle.v8_decode.specs.declared.AluOp.TheVariants as ops
use Rattle.v8_decode.specs.Effects.{alu_inputs, writes_y}
use Rattle.v8_alu.specs.declared.Codes.{Codes}
use Rattle.v8_alu.specs.declared.AluOut.{AluOut}
use Rattle.v8_alu.specs.declared.AluTrap.{AluTrap}
use Rattle.v8_alu.specs.Alu.{alu_of, result_of, keeping, trap_on_v}
use Rattle.v8_alu.specs.Alike.{AgreeOn, AreAlike}
pub use Rattle.v8_alu.proofs.Examples.{greatest_quotient}

-- the same as AreAlike of outcomes whose codes are set
abbrev SetAlike : Bool → ℕ → ℕ → Result AluOut AluTrap → Result AluOut AluTrap → Type 0
SetAlike writes y y' (Ok o) (Ok p) = (o.value ≡ p.value) × (o.codes ≡ p.codes) × ((writes ≡ true) ⊎ (y ≡ y') → o.y ≡ p.y)
SetAlike writes y y' (Err trap) (Err trap') = trap ≡ trap'
SetAlike writes y y' (Ok o) (Err e) = ⊥
SetAlike writes y y' (Err d) (Ok p) = ⊥

kept : (y y' : ℕ) → (false ≡ true) ⊎ (y ≡ y') → y ≡ y'
kept y y' (inl e) = absurd (cc)
kept y y' (inr e) = e

same_refl : (writes : Bool) (y : ℕ) (r : Result AluOut AluTrap) → SetAlike writes y y r r
same_refl writes y (Ok o) = (refl, refl, λ _. refl)
same_refl writes y (Err e) = refl

same_at : (writes : Bool) (y y' : ℕ) (f : ℕ → Result AluOut AluTrap) → y ≡ y' → SetAlike writes y y' (f y) (f y')
same_at writes y y' f e = subst (λ z. SetAlike writes y z (f y) (f z)) e (same_refl writes y (f y))

trap_alike : (v : Bool) (value : ℕ) (n z c : Bool) (y y' : ℕ) → SetAlike false y y' (trap_on_v (Ok (record { value = value; codes = record { n = n; z = z; v = v; c = c }; y = y }))) (trap_on_v (Ok (record { value = value; codes = record { n = n; z = z; v = v; c = c }; y = y' })))
trap_alike true value n z c y y' = refl
trap_alike false value n z c y y' = (refl, refl, kept y y')

result_alike : (op : AluOp) (a b : ℕ) (codes codes' : Codes) (y y' : ℕ) → AgreeOn (alu_inputs op) codes codes' y y' → SetAlike (writes_y op) y y' (result_of op a b codes y) (result_of op a b codes' y')
result_alike ops.ADDX a b codes codes' y y' h = subst (λ (z : Codes). SetAlike false y y' (result_of ops.ADDX a b codes y) (result_of ops.ADDX a b z y')) h.0 (refl, refl, kept y y')
result_alike ops.UMUL a b codes codes' y y' h = (refl, refl, λ _. refl)
result_alike ops.SMUL a b codes codes' y y' h = (refl, refl, λ _. refl)
result_alike ops.SUBX a b codes codes' y y' h = subst (λ (z : Codes). SetAlike false y y' (result_of ops.SUBX a b codes y) (result_of ops.SUBX a b z y')) h.0 (refl, refl, kept y y')
result_alike ops.UDIV a b codes codes' y y' h = same_at false y y' (λ z. result_of ops.UDIV a b codes z) h.0
result_alike ops.SDIV a b codes codes' y y' h = same_at false y y' (λ z. result_of ops.SDIV a b codes z) h.0
result_alike ops.TADDccTV a b codes codes' y y' h = trap_alike _ _ _ _ _ y y'
result_alike ops.TSUBccTV a b codes codes' y y' h = trap_alike _ _ _ _ _ y y'
result_alike ops.MULScc a b codes codes' y y' h = subst (λ (z : Codes). SetAlike true y y' (result_of ops.MULScc a b codes y) (result_of ops.MULScc a b z y')) h.0 (same_at true y y' (λ z. result_of ops.MULScc a b codes z) h.1.0)
result_alike op a b codes codes' y y' h = (refl, refl, kept y y')

kept_codes : (codes codes' : Codes) → (false ≡ true) ⊎ (codes ≡ codes') → codes ≡ codes'
kept_codes codes codes' (inl e) = absurd (cc)
kept_codes codes codes' (inr e) = e

keeping_alike : (sets writes : Bool) (codes codes' : Codes) (y y' : ℕ) (r q : Result AluOut AluTrap) → SetAlike writes y y' r q → AreAlike sets writes codes codes' y y' (keeping sets codes r) (keeping sets codes' q)
keeping_alike true writes codes codes' y y' (Ok o) (Ok p) h = (h.0, (λ _. h.1), h.2)
keeping_alike true writes codes codes' y y' (Err d) (Err e) h = h
keeping_alike false writes codes codes' y y' (Ok o) (Ok p) h = (h.0, kept_codes codes codes', h.2)
keeping_alike false writes codes codes' y y' (Err d) (Err e) h = h
keeping_alike sets writes codes codes' y y' r q h = h

pub alu_of-alike : (op : AluOp) (sets : Bool) (a b : ℕ) (codes codes' : Codes) (y y' : ℕ) → AgreeOn (alu_inputs op) codes codes' y y' → AreAlike sets (writes_y op) codes codes' y y' (alu_of op sets a b codes y) (alu_of op sets a b codes' y')
unfolding alu_of
alu_of-alike op sets a b codes codes' y y' h = keeping_alike sets (writes_y op) codes codes' y y' _ _ (result_alike op a b codes codes' y y' h)
