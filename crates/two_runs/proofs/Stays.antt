-- A step that ends the run leaves pc where it was.
use Rattle.two_runs.proofs.Common.{◌≡◌, ◌≢◌, ℕ, zero, suc, ◌-◌, Option, Some, None, refl, ap, arith, Instr, decode_of, Memory, fetch_of, Ending, State, register_of, branch_step, call_step, jump_step, load_step, store_step, ldstub_step, swap_step, spill_many, save_step, restore_step, system_call, trap_step, act, alu_step, on_word, step_of, trap_number, unless_ended}
use Rattle.v8_decode.specs.declared.Instr.TheVariants as i

-- it goes on, or stands at this address
abbrev pub StaysAt : ℕ → State → Type 0
StaysAt pc t = t.ending ≢ None → t.pc ≡ pc

stays_spills : (n : ℕ) (s : State) → s.ending ≡ None → StaysAt s.pc (spill_many n s)
stays_spills zero s live = λ e. absurd (e live)
stays_spills (suc n) s live =
    λ e. grind (arith, λ (m : Memory). stays_spills n (record s { memory = m; valid = s.valid - 1 }) live)

stays_call : (s : State) (number a b c : ℕ) → s.ending ≡ None → StaysAt s.pc (system_call s number a b c)
unfolding system_call
stays_call s number a b c live = λ e. grind arith

stays_trap : (s : State) (number : ℕ) → s.ending ≡ None → StaysAt s.pc (trap_step s number)
unfolding trap_step
stays_trap s number live = λ e.
    let call = stays_call s (register_of s 1) (register_of s 8) (register_of s 9) (register_of s 10) live in
    grind (arith, stays_spills (s.valid - 1) s live, call)

pub stays_act : (s : State) → s.ending ≡ None → (instr : Instr) → StaysAt s.pc (act s instr)
unfolding act branch_step call_step jump_step load_step store_step ldstub_step swap_step save_step restore_step alu_step
stays_act s live (i.Ticc cond rs1 op2) = λ e. grind (arith, stays_trap s (trap_number s rs1 op2) live)
stays_act s live _ = λ e. grind arith

-- whatever the word
pub ended_stays : (s : State) (o : Option ℕ) → s.ending ≡ None → StaysAt s.pc (on_word s o)
ended_stays s None live = λ e. refl
ended_stays s (Some word) live = stays_act s live (decode_of word)

-- a step that ends the run leaves pc
pub step_stays : (s : State) (d : Ending) → s.ending ≡ None → (step_of s).ending ≡ Some d → (step_of s).pc ≡ s.pc
unfolding step_of
step_stays s d live over =
    let does : step_of s ≡ on_word s (fetch_of s.memory s.pc) =
    ap (λ (e : Option Ending). unless_ended s e (on_word s (fetch_of s.memory s.pc))) live in
    cc (does, ended_stays s (fetch_of s.memory s.pc) live (λ none. absurd (cc)))
