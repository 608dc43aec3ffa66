-- Instructions whose records the memory keeps.
use Rattle.v8_step.proofs.Common.{◌≡◌, ◌+◌, ◌%◌, ◌^◌, ◌<◌, ℕ, zero, suc, ℤ, List, [], Option, Some, None, refl, sym, ap, ◌∙◌, inl, inr, arith, w32, cast_unsigned, Op2, Reg, Instr, decode_of, Predecoded, OpCode, StandsFor, IsSum, instr_by, instr_of, operand_in, plain, plain_operand, fetch_of, Ending, State, operand_of, register_of, act, on_word, puts_by, puts_of, puts_on_word, puts_unless_ended, step_of}
use Rattle.v8_decode.specs.declared.Instr.TheVariants as i
use Rattle.v8_memory.specs.declared.ops.OpCode.TheVariants as c

operand_plain : (s : State) (o : Op2) → operand_of s (plain_operand o) ≡ operand_of s o
operand_plain s (Reg zero) = refl
operand_plain s o = refl

act_plain : (s : State) (x : Instr) → act s (plain x) ≡ act s x
unfolding act
act_plain s (i.Alu op cc rd rs1 op2) = rw (operand_plain s op2)
act_plain s (i.Jmpl rd rs1 op2) = rw (operand_plain s op2)
act_plain s (i.Save rd rs1 op2) = rw (operand_plain s op2)
act_plain s (i.Restore rd rs1 op2) = rw (operand_plain s op2)
act_plain s (i.Load kind rd rs1 op2) = rw (operand_plain s op2)
act_plain s (i.Store kind rd rs1 op2) = rw (operand_plain s op2)
act_plain s (i.WriteY rs1 op2) = rw (operand_plain s op2)
act_plain s (i.Swap rd rs1 op2) = rw (operand_plain s op2)
act_plain s x = refl

puts_plain : (s : State) (x : Instr) (descriptor : ℕ) → puts_by s (plain x) descriptor ≡ puts_by s x descriptor
unfolding puts_by
puts_plain s (i.Ticc cond rs1 op2) descriptor = refl
puts_plain s x descriptor = refl

op_puts : (s : State) (code : OpCode) (x : Predecoded) (descriptor : ℕ) → puts_by s (instr_by code x) descriptor ≡ []
unfolding puts_by
op_puts s c.Sethi x descriptor = refl
op_puts s code x descriptor = refl

pub kept_steps : (s : State) (op : Predecoded) → s.ending ≡ None → StandsFor op (fetch_of s.memory s.pc)
    → act s (instr_of op) ≡ step_of s
unfolding step_of
kept_steps s op going stands = go (fetch_of s.memory s.pc) stands ∙ rw going
  where
    go : (word : Option ℕ) → StandsFor op word → act s (instr_of op) ≡ on_word s word
    go None h = absurd h
    go (Some word) h = ap (act s) h.same ∙ act_plain s (decode_of word)

pub kept_puts : (s : State) (op : Predecoded) (descriptor : ℕ) → StandsFor op (fetch_of s.memory s.pc)
    → puts_of s descriptor ≡ []
unfolding puts_of instr_of
kept_puts s op descriptor stands = ended s.ending (go (fetch_of s.memory s.pc) stands)
  where
    go : (word : Option ℕ) → StandsFor op word → puts_on_word s word descriptor ≡ []
    go None h = absurd h
    go (Some word) h =
        sym (puts_plain s _ descriptor) ∙ ap (λ x. puts_by s x descriptor) (sym h.same) ∙ op_puts s _ op descriptor

    ended : (ending : Option Ending) {bytes : List ℕ} → bytes ≡ [] → puts_unless_ended ending bytes ≡ []
    ended None h = h
    ended (Some ending) h = refl

-- the second operand is the sum of a register and an immediate, one of which is 0
pub operand_sum : (s : State) (r : ℕ) (imm : ℤ) (value : ℕ) → value ≡ register_of s r → value < 2 ^ 32
    → IsSum r imm → (value + cast_unsigned w32 imm) % 2 ^ 32 ≡ operand_of s (operand_in r imm)
operand_sum s zero imm value is below sum = omega (arith, is)
operand_sum s (suc r) imm value is below (inl h) = absurd (omega arith)
operand_sum s (suc r) imm value is below (inr h) = rw h (omega (arith, is))
