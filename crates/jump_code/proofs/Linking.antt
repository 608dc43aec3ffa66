-- The words of a CALL write its link, as the original's step does.
use Rattle.jump_code.proofs.Common.{◌≡◌, ℕ, ◌+◌, ◌*◌, ◌/◌, ◌%◌, Bool, false, refl, sym, subst, arith, pos, Imm, wrapped, act, step_of, next, State, with_register, count_stores, StandIn, says_step, works_state, says_at, both, none_in_two, two_registers, code_of, call_step, CallsSimulate, address_into, CallsAct, IsAboutToCall}
use Rattle.v8_decode.specs.declared.AluOp.TheVariants as ops
use Rattle.v8_decode.specs.declared.Instr.TheVariants as i
use Rattle.code_runs.proofs.Counted.{no_stores, none_then}
use Rattle.jump_code.proofs.Blocks.{addressed}

pub calls_act : CallsAct
calls_act address s h =
    let low = h.low in
    let c = two_registers s 2 1 15 h.valid h.ready (omega arith) (omega arith) (omega arith) (omega arith) (omega arith)
    (omega arith) in
    let stand : StandIn (code_of s.memory) (s.pc + 4 * 0) (address_into 15 address) =
    subst (λ z. StandIn (code_of s.memory) z (address_into 15 address)) (omega arith) h.words in
    let w = addressed c address (none_in_two c) h.short (omega arith) stand in (
      rw (works_state c 1 address (omega arith) w (both _ refl refl) (omega arith)) at w.path,
      w.silent,
    )

-- the two words store nothing
pub calls_store : (address : ℕ) (s : State) → IsAboutToCall address s → (counted : ℕ → Bool) → count_stores counted s 2 ≡ 0
unfolding act
calls_store address s h counted =
    let high = i.Sethi 15 (address / 1024) in
    let low = i.Alu ops.ADD false 15 15 (Imm (pos (address % 1024))) in
    let s1 : State = next (with_register s 15 (wrapped (1024 * (address / 1024)))) in
    let one : step_of s ≡ next (with_register s 15 (wrapped (1024 * (address / 1024)))) =
    says_step s high h.ready.live h.words.0 in
    none_then counted s s1 1 1 one (no_stores counted s high h.ready.live h.words.0 refl)
    (no_stores counted s1 low h.ready.live (says_at (code_of s.memory) s.npc (s.pc + 4) low (sym h.ready.npc) h.words.1.0) refl)

pub calls_simulate : CallsSimulate
unfolding act call_step
calls_simulate address disp30 s h =
    let k = calls_act address s h in
    record { live = h.ready.live; path = k.0; silent = k.1; memory = refl; stored = calls_store address s h }
