-- States that agree on the parts that are read agree on the values read, and the same write leaves them so.
use Rattle.two_runs.proofs.Common.{◌≡◌, ℕ, zero, suc, ◌⊎◌, inl, inr, List, [], ◌∷◌, ◌++◌, length, get_or, set, refl, ap, ◌∙◌, arith, slice_index, Op2, Reg, reg, op2_parts, place_of, register_set, State, register_of, operand_of, sum_of, Register, IsAmong, AreSameAt, AgreeOn}
use Rattle.std.proofs.lemmas.Grind.{common_steps}
use Rattle.v8_decode.specs.declared.Op2.TheVariants as o
use Rattle.v8_decode.specs.declared.Part.{Part}

pub same_first : (ps qs : List Part) (s t : State) → AreSameAt (ps ++ qs) s t → AreSameAt ps s t
same_first [] qs s t h = tt
same_first (p ∷ ps) qs s t h = (h.0, same_first ps qs s t h.1)

pub same_rest : (ps qs : List Part) (s t : State) → AreSameAt (ps ++ qs) s t → AreSameAt qs s t
same_rest [] qs s t h = h
same_rest (p ∷ ps) qs s t h = same_rest ps qs s t h.1

pub same_register : (r : ℕ) (s t : State) → s.window ≡ t.window → AreSameAt (reg r) s t
    → register_of s r ≡ register_of t r
same_register zero s t w h = refl
same_register (suc r) s t w h = h.0 ∙ ap (λ k. slice_index t.registers (place_of k (suc r))) w

pub same_operand : (op2 : Op2) (s t : State) → s.window ≡ t.window → AreSameAt (op2_parts op2) s t
    → operand_of s op2 ≡ operand_of t op2
same_operand (o.Reg r) s t w h = same_register r s t w h
same_operand (o.Imm z) s t w h = refl

pub same_inputs : (ps : List Part) (s t : State) → AreSameAt ps s t → AgreeOn ps s.codes t.codes s.y t.y
same_inputs [] s t h = tt
same_inputs (Reg r ∷ ps) s t h = same_inputs ps s t h.1
same_inputs (p ∷ ps) s t h = (h.0, same_inputs ps s t h.1)

pub same_sum : (rs1 : ℕ) (op2 : Op2) (s t : State) → s.window ≡ t.window → AreSameAt (reg rs1) s t
    → AreSameAt (op2_parts op2) s t → sum_of s rs1 op2 ≡ sum_of t rs1 op2
same_sum rs1 op2 s t w h g = rw (same_register rs1 s t w h, same_operand op2 s t w g)

-- ---- writing

-- the same write on both sides leaves the same at a place that it writes, or that was the same
set_alike : (xs ys : List ℕ) (k n v : ℕ) → length xs ≡ length ys → (k ≡ n) ⊎ (get_or xs n 0 ≡ get_or ys n 0)
    → get_or (set xs k v) n 0 ≡ get_or (set ys k v) n 0
set_alike xs ys k n v e h = grind (arith, common_steps)

pub place_one : (rs qs : List ℕ) (w r v n : ℕ) → length rs ≡ length qs
    → IsAmong (Register n) w (reg r) ⊎ (slice_index rs n ≡ slice_index qs n)
    → slice_index (register_set rs w r v) n ≡ slice_index (register_set qs w r v) n
place_one rs qs w zero v n e (inl h) = absurd h
place_one rs qs w zero v n e (inr h) = h
place_one rs qs w (suc r) v n e (inl (inl h)) = set_alike rs qs _ n v e (inl (cc))
place_one rs qs w (suc r) v n e (inl (inr h)) = absurd h
place_one rs qs w (suc r) v n e (inr h) = set_alike rs qs _ n v e (inr h)
