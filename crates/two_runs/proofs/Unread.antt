-- What an instruction doesn't read tells on nothing that it writes.
use Rattle.two_runs.proofs.Common.{◌≡◌, ◌⊎◌, ℕ, suc, Bool, true, false, None, List, [], ◌∷◌, ◌++◌, length, refl, ◌∙◌, sym, inl, inr, when, writes_y, arith, slice_index, Op2, Instr, reg, op2_parts, pair, pair_set, Icc, Y, AluOut, AluTrap, AreAlike, Result, stored_parts, alu_inputs, reads_all, writes_of, Flags, register_set, length-register_set, State, register_of, operand_of, act, load_step, store_step, ldstub_step, swap_step, alu_step, stored, loaded, StateItem, Register, Codes, YRegister, IsAmong, IsSameAt, AreSameAt, judged_by, nat_tests, holds_of, branch_step, call_step, jump_step}
use Rattle.v8_decode.specs.declared.LoadKind.{LoadKind}
use Rattle.v8_decode.specs.declared.LoadKind.TheVariants as loads
use Rattle.v8_decode.specs.declared.StoreKind.{StoreKind}
use Rattle.v8_decode.specs.declared.StoreKind.TheVariants as stores
use Rattle.v8_decode.specs.Effects.{reads_of, is_conditional}
use Rattle.v8_decode.specs.declared.Instr.TheVariants as i
use Rattle.v8_alu.proofs.Alike.{alu_of-alike}
use Rattle.two_runs.proofs.Reading.{same_first, same_rest, same_inputs, place_one}

length-loaded : (kind : LoadKind) (rs : List ℕ) (w rd : ℕ) (bytes : List ℕ)
    → length (loaded rs w kind rd bytes) ≡ length rs
length-loaded loads.LDD rs w rd bytes = length-register_set _ w (suc rd) _ ∙ length-register_set rs w rd _
length-loaded kind rs w rd bytes = length-register_set rs w rd _

module _ (s : State) (rs : List ℕ) (k : Flags) (y : ℕ) (size : length s.registers ≡ length rs) where
  abbrev pub other : State
  other = record s { registers = rs; codes = k; y = y }

  -- the same but for registers, codes and Y
  abbrev pub IsLike : State → State → Type 0
  IsLike a b = (record b { registers = a.registers; codes = a.codes; y = a.y } ≡ a) × (length a.registers ≡ length b.registers)

  operands_read : (rs1 : ℕ) (op2 : Op2) → AreSameAt (reg rs1 ++ op2_parts op2) s other
      → (register_of s rs1 ≡ register_of other rs1) × (operand_of s op2 ≡ operand_of other op2)
  operands_read rs1 op2 h = grind arith

  stored_read : (kind : StoreKind) (rd : ℕ) → AreSameAt (stored_parts kind rd) s other
      → stored s kind rd ≡ stored other kind rd
  stored_read kind rd h = grind arith

  holds_read : (cond : ℕ) → AreSameAt (when (is_conditional cond) (Icc ∷ [])) s other
      → holds_of cond s.codes ≡ holds_of cond k
  unfolding holds_of
  holds_read cond h = grind (arith, nat_tests)

  pub like_act : (x : Instr) → reads_all x ≡ false → AreSameAt (reads_of x) s other
      → IsLike (act s x) (act other x)
  unfolding act branch_step call_step jump_step load_step store_step ldstub_step swap_step alu_step
  like_act (i.Alu op sets rd rs1 op2) f h =
      grind (
        arith,
        length-register_set,
        operands_read rs1 op2 (same_first (reg rs1 ++ op2_parts op2) (alu_inputs op) s other h),
        alu_of-alike op sets (register_of s rs1) (operand_of s op2) s.codes k s.y y (same_inputs (alu_inputs op) s other (same_rest (reg rs1 ++ op2_parts op2) (alu_inputs op) s other h)),
      )
  like_act (i.Branch cond annul disp) f h = grind (arith, holds_read cond h)
  like_act (i.Call disp) f h = grind (arith, length-register_set s.registers s.window 15 s.pc, length-register_set rs s.window 15 s.pc)
  like_act (i.Jmpl rd rs1 op2) f h = grind (arith, length-register_set, operands_read rs1 op2 h)
  like_act (i.Ticc cond rs1 op2) f h = absurd (cc)
  like_act (i.Save rd rs1 op2) f h = absurd (cc)
  like_act (i.Restore rd rs1 op2) f h = absurd (cc)
  like_act (i.Load kind rd rs1 op2) f h = grind (arith, length-loaded kind, operands_read rs1 op2 h)
  like_act (i.Store kind rd rs1 op2) f h =
      grind (
        arith,
        operands_read rs1 op2 (same_first (reg rs1 ++ op2_parts op2) (stored_parts kind rd) s other h),
        stored_read kind rd (same_rest (reg rs1 ++ op2_parts op2) (stored_parts kind rd) s other h),
      )
  like_act (i.Ldstub rd rs1 op2) f h = grind (arith, length-register_set, operands_read rs1 op2 h)
  like_act (i.Swap rd rs1 op2) f h =
      grind (
        arith,
        length-register_set,
        operands_read rs1 op2 (same_first (reg rs1 ++ op2_parts op2) (reg rd) s other h),
        stored_read stores.ST rd (same_rest (reg rs1 ++ op2_parts op2) (reg rd) s other h),
      )
  like_act x f h = grind (arith, length-register_set)

  pub judged_read : (x : Instr) → reads_all x ≡ false → AreSameAt (reads_of x) s other → judged_by s x ≡ judged_by other x
  judged_read (i.Load kind rd rs1 op2) f h = grind (arith, operands_read rs1 op2 h)
  judged_read (i.Store kind rd rs1 op2) f h =
      grind (arith, operands_read rs1 op2 (same_first (reg rs1 ++ op2_parts op2) (stored_parts kind rd) s other h))
  judged_read (i.Ldstub rd rs1 op2) f h = grind (arith, operands_read rs1 op2 h)
  judged_read (i.Swap rd rs1 op2) f h =
      grind (arith, operands_read rs1 op2 (same_first (reg rs1 ++ op2_parts op2) (reg rd) s other h))
  judged_read (i.Save rd rs1 op2) f h = absurd (cc)
  judged_read (i.Restore rd rs1 op2) f h = absurd (cc)
  judged_read (i.Ticc cond rs1 op2) f h = absurd (cc)
  judged_read x f h = refl

  -- ---- what is written, or was the same, is the same

  placed : (w rd v n : ℕ) → IsAmong (Register n) w (reg rd) ⊎ (slice_index s.registers n ≡ slice_index rs n)
      → slice_index (register_set s.registers w rd v) n ≡ slice_index (register_set rs w rd v) n
  placed w rd v n h = place_one s.registers rs w rd v n size h

  placed_pair : (w rd u v n : ℕ) → IsAmong (Register n) w (pair rd) ⊎ (slice_index s.registers n ≡ slice_index rs n)
      → slice_index (pair_set s.registers w rd u v) n ≡ slice_index (pair_set rs w rd u v) n
  placed_pair w rd u v n h =
      let lengths = length-register_set s.registers w rd u ∙ size ∙ sym (length-register_set rs w rd u) in
      let first = placed w rd u n in
      let second = place_one (register_set s.registers w rd u) (register_set rs w rd u) w (suc rd) v n lengths in
      grind (arith, first, second)

  written_by : StateItem → ℕ → Bool → Bool → Type 0
  written_by (Register n) rd sets writes = IsAmong (Register n) s.window (reg rd)
  written_by Codes rd sets writes = sets ≡ true
  written_by YRegister rd sets writes = writes ≡ true

  among_alu : (item : StateItem) (rd : ℕ) (sets writes : Bool)
      → IsAmong item s.window (reg rd ++ when sets (Icc ∷ []) ++ when writes (Y ∷ [])) → written_by item rd sets writes
  unfolding written_by
  among_alu item rd sets writes h = grind arith

  alu_kept : (sets writes : Bool) (rd : ℕ) (item : StateItem) (r q : Result AluOut AluTrap)
      → AreAlike sets writes s.codes k s.y y r q → (alu_step s rd r).ending ≡ None
      → written_by item rd sets writes ⊎ IsSameAt item s other → IsSameAt item (alu_step s rd r) (alu_step other rd q)
  unfolding alu_step written_by
  alu_kept sets writes rd item r q h live same = grind (arith, placed)

  pub kept_act : (x : Instr) (item : StateItem) → reads_all x ≡ false → AreSameAt (reads_of x) s other
      → (act s x).ending ≡ None → IsAmong item s.window (writes_of x) ⊎ IsSameAt item s other → IsSameAt item (act s x) (act other x)
  unfolding act branch_step call_step jump_step load_step store_step ldstub_step swap_step alu_step
  kept_act (i.Alu op sets rd rs1 op2) item f h live same =
      let p = operands_read rs1 op2 (same_first (reg rs1 ++ op2_parts op2) (alu_inputs op) s other h) in
      rw (← p.0, ← p.1) (alu_kept sets (writes_y op) rd item _ _
      (alu_of-alike op sets (register_of s rs1) (operand_of s op2) s.codes k s.y y
      (same_inputs (alu_inputs op) s other (same_rest (reg rs1 ++ op2_parts op2) (alu_inputs op) s other h))) live
      (elim same [ inl x ↦ inl (among_alu item rd sets (writes_y op) x) | inr x ↦ inr x ]))
  kept_act (i.Branch cond annul disp) item f h live same = grind (arith, holds_read cond h)
  kept_act (i.Call disp) item f h live same = grind (arith, placed s.window 15 s.pc)
  kept_act (i.Jmpl rd rs1 op2) item f h live same = grind (arith, placed, operands_read rs1 op2 h)
  kept_act (i.Ticc cond rs1 op2) item f h live same = absurd (cc)
  kept_act (i.Save rd rs1 op2) item f h live same = absurd (cc)
  kept_act (i.Restore rd rs1 op2) item f h live same = absurd (cc)
  kept_act (i.Load kind rd rs1 op2) item f h live same = grind (arith, placed, placed_pair, operands_read rs1 op2 h)
  kept_act (i.Store kind rd rs1 op2) item f h live same =
      grind (
        arith,
        operands_read rs1 op2 (same_first (reg rs1 ++ op2_parts op2) (stored_parts kind rd) s other h),
        stored_read kind rd (same_rest (reg rs1 ++ op2_parts op2) (stored_parts kind rd) s other h),
      )
  kept_act (i.Ldstub rd rs1 op2) item f h live same = grind (arith, placed, operands_read rs1 op2 h)
  kept_act (i.Swap rd rs1 op2) item f h live same =
      grind (
        arith,
        placed,
        operands_read rs1 op2 (same_first (reg rs1 ++ op2_parts op2) (reg rd) s other h),
        stored_read stores.ST rd (same_rest (reg rs1 ++ op2_parts op2) (reg rd) s other h),
      )
  kept_act x item f h live same = grind (arith, placed)
