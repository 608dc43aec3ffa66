-- Where a step goes that is no transfer: to npc, with the next word after it.
use Rattle.v8_step.proofs.Common.{◌≡◌, ℕ, zero, suc, ◌+◌, ◌-◌, false, None, refl, arith, Instr, Memory, wrapped, State, register_of, NoSlot, load_step, store_step, ldstub_step, swap_step, spill_many, save_step, restore_step, system_call, trap_step, alu_step, trap_number, act}
use Rattle.v8_decode.specs.declared.Instr.TheVariants as i
use Rattle.v8_step.specs.Items.{is_transfer}

-- a live state that was led on to this address
abbrev pub GoesTo : ℕ → State → Type 0
GoesTo npc s = s.ending ≡ None → (s.pc ≡ npc) × (s.npc ≡ wrapped (npc + 4)) × (s.slot ≡ NoSlot)

goes_spills : (n : ℕ) (s : State) → GoesTo s.npc (spill_many n s)
goes_spills zero s = λ e. (refl, refl, refl)
goes_spills (suc n) s =
    λ e. grind (arith, λ (m : Memory). goes_spills n (record s { memory = m; valid = s.valid - 1 }))

goes_call : (s : State) (number a b c : ℕ) → GoesTo s.npc (system_call s number a b c)
unfolding system_call
goes_call s number a b c = λ e. (grind arith, grind arith, grind arith)

goes_trap : (s : State) (number : ℕ) → GoesTo s.npc (trap_step s number)
unfolding trap_step
goes_trap s number = λ e.
    let call = goes_call s (register_of s 1) (register_of s 8) (register_of s 9) (register_of s 10) in
    grind (arith, goes_spills (s.valid - 1) s, call)

pub goes_act : (s : State) (instr : Instr) → is_transfer instr ≡ false → GoesTo s.npc (act s instr)
unfolding act load_step store_step ldstub_step swap_step save_step restore_step alu_step
goes_act s (i.Ticc cond rs1 op2) h = λ e. grind (arith, goes_trap s (trap_number s rs1 op2))
goes_act s instr h = λ e. grind arith
