-- What a JMPL does at the original's address.
use Rattle.jump_code.proofs.Common.{◌≡◌, ◌≢◌, ℕ, ◌+◌, ◌%◌, inl, inr, Some, None, refl, ap, sym, ◌∙◌, ◌==◌, Op2, Reg, Imm, wrapped, NoSlot, State, with_register, sum_of, mem_address_not_aligned, delayed, trapped, moved, equal_or_not, jump_acts, jump_traps, jumped}
use Rattle.v8_step.specs.declared.Ending.TheVariants.{Trap}
use Rattle.jump_code.proofs.Blocks.{four, not_four}

module _ (address rd rs1 : ℕ) (op2 : Op2) (s : State) where
  -- the target doesn't depend on the place
  sum_moved : (o : Op2) → sum_of (moved address (wrapped (address + 4)) NoSlot s) rs1 o ≡ sum_of s rs1 o
  sum_moved (Reg r) = refl
  sum_moved (Imm n) = refl

  pub jump_goes : sum_of s rs1 op2 % 4 ≡ 0 → jumped address rd rs1 op2 s ≡ delayed
      (with_register (moved address (wrapped (address + 4)) NoSlot s) rd address) (sum_of s rs1 op2)
  jump_goes e =
      jump_acts (moved address (wrapped (address + 4)) NoSlot s) rd rs1 op2 (sum_of s rs1 op2) refl (sum_moved op2)
      (four (sum_of s rs1 op2) e)

  pub jump_stops : sum_of s rs1 op2 % 4 ≢ 0 → jumped address rd rs1 op2 s ≡ trapped
      (moved address (wrapped (address + 4)) NoSlot s) mem_address_not_aligned
  jump_stops ne =
      jump_traps (moved address (wrapped (address + 4)) NoSlot s) rd rs1 op2 refl
      (ap (λ z. z % 4 == 0) (sum_moved op2) ∙ not_four (sum_of s rs1 op2) ne)

  -- where it goes on, its target is aligned
  pub jump_aligned : (jumped address rd rs1 op2 s).ending ≡ None → sum_of s rs1 op2 % 4 ≡ 0
  jump_aligned live = elim (equal_or_not (sum_of s rs1 op2 % 4) 0) [
    | inl e ↦ e
    | inr ne ↦
        let traps : Some (Trap mem_address_not_aligned) ≡ None = sym (ap (λ (z : State). z.ending) (jump_stops ne)) ∙ live in
        absurd (cc)
  ]
