-- One step of the machine: what each instruction does. The sections beside the instructions are those of The
-- SPARC Architecture Manual, Version 8.
use Rattle.std.specs.Prelude.{ℕ, ◌*◌, ◌%◌, ◌&&◌, List, [], Option, Some, None, Result, Ok, Err, unwrap_or, ◌==◌, if◌then◌else◌, bit_xor}
use Rattle.v8_decode.specs.declared.Op2.{Op2}
use Rattle.v8_decode.specs.declared.Instr.{Instr}
use Rattle.v8_decode.specs.declared.Instr.TheVariants as i
use Rattle.v8_decode.specs.Words.{decode_of}
use Rattle.v8_memory.specs.Regions.{fetch_of, buffer_read}
use Rattle.v8_alu.specs.declared.AluOut.{AluOut}
use Rattle.v8_alu.specs.declared.AluTrap.{AluTrap}
use Rattle.v8_alu.specs.declared.AluTrap.TheVariants.{DivZero, TagOverflow}
use Rattle.v8_step.specs.declared.Ending.{Ending}
use Rattle.v8_alu.specs.Numbers.{wrapped}
use Rattle.v8_alu.specs.Alu.{alu_of}
use Rattle.v8_alu.specs.Conditions.{holds_of}
use Rattle.v8_step.specs.State.{State, register_of, with_register, operand_of, sum_of}
use Rattle.v8_step.specs.Traps.{instruction_access_exception, illegal_instruction, privileged_instruction, fp_disabled, cp_disabled, division_by_zero, tag_overflow, call_system}
use Rattle.v8_step.specs.Transfers.{next, trapped, unless_couple, branch_step, call_step, jump_step}
use Rattle.v8_step.specs.Accesses.{load_step, store_step, ldstub_step, swap_step}
use Rattle.v8_step.specs.WindowMoves.{save_step, restore_step}
use Rattle.v8_step.specs.Calls.{trap_step, is_output}

-- an operation's value goes to rd, with the codes and Y that it leaves
unfoldable pub alu_step : State → ℕ → Result AluOut AluTrap → State
alu_step s rd (Ok o) = next (record (with_register s rd o.value) { codes = o.codes; y = o.y })
alu_step s rd (Err DivZero) = trapped s division_by_zero
alu_step s rd (Err TagOverflow) = trapped s tag_overflow

-- the number of a software trap (B.27)
abbrev pub trap_number : State → ℕ → Op2 → ℕ
trap_number s rs1 op2 = sum_of s rs1 op2 % 128

-- what an instruction does to the state
unfoldable pub act : State → Instr → State
act s (i.Sethi rd imm22) = next (with_register s rd (wrapped (1024 * imm22)))  -- B.9, B.10
act s (i.Branch cond annul disp22) = unless_couple s.slot s (branch_step s cond annul disp22)  -- B.21
act s (i.Call disp30) = unless_couple s.slot s (call_step s disp30)  -- B.24
act s (i.Alu op cc rd rs1 op2) =
    alu_step s rd (alu_of op cc (register_of s rs1) (operand_of s op2) s.codes s.y)  -- B.11 to B.19
act s (i.ReadY rd) = next (with_register s rd s.y)  -- B.28
act s (i.WriteY rs1 op2) = next (record s { y = bit_xor (register_of s rs1) (operand_of s op2) })  -- B.29
act s (i.Jmpl rd rs1 op2) = unless_couple s.slot s (jump_step s rd (sum_of s rs1 op2))  -- B.25
act s (i.Ticc cond rs1 op2) =
    if holds_of cond s.codes then trap_step s (trap_number s rs1 op2) else next s  -- B.27
act s (i.Flush rs1 op2) = next s  -- B.32
act s i.Stbar = next s  -- B.30
act s (i.Save rd rs1 op2) = save_step s rd (sum_of s rs1 op2)  -- B.20
act s (i.Restore rd rs1 op2) = restore_step s rd (sum_of s rs1 op2)  -- B.20
act s (i.Load kind rd rs1 op2) = load_step s kind rd (sum_of s rs1 op2)  -- B.1
act s (i.Store kind rd rs1 op2) = store_step s kind rd (sum_of s rs1 op2)  -- B.4
act s (i.Ldstub rd rs1 op2) = ldstub_step s rd (sum_of s rs1 op2)  -- B.7
act s (i.Swap rd rs1 op2) = swap_step s rd (sum_of s rs1 op2)  -- B.8
act s i.Illegal = trapped s illegal_instruction  -- B.31, and words without a row in appendix F
act s i.Privileged = trapped s privileged_instruction
act s i.FpOff = trapped s fp_disabled
act s i.CpOff = trapped s cp_disabled

-- the word at pc, where it can be fetched
abbrev pub on_word : State → Option ℕ → State
on_word s None = trapped s instruction_access_exception
on_word s (Some word) = act s (decode_of word)

-- a run that has ended stays as it is
abbrev pub unless_ended : State → Option Ending → State → State
unless_ended s None after = after
unless_ended s (Some ending) after = s

-- one step
unfoldable pub step_of : State → State
step_of s = unless_ended s s.ending (on_word s (fetch_of s.memory s.pc))

-- ---- output: the bytes that a step puts out to a descriptor

-- those of the system call 4, where its bytes can be read
abbrev pub written_out : State → ℕ → List ℕ
written_out s descriptor =
    if (register_of s 1 == 4) && (register_of s 8 == descriptor) && is_output descriptor
    then unwrap_or (buffer_read s.memory (register_of s 9) (register_of s 10)) []
    else []

unfoldable pub puts_by : State → Instr → ℕ → List ℕ
puts_by s (i.Ticc cond rs1 op2) descriptor =
    if holds_of cond s.codes && (trap_number s rs1 op2 == call_system) then written_out s descriptor else []
puts_by s _ descriptor = []

abbrev pub puts_on_word : State → Option ℕ → ℕ → List ℕ
puts_on_word s None descriptor = []
puts_on_word s (Some word) descriptor = puts_by s (decode_of word) descriptor

abbrev pub puts_unless_ended : Option Ending → List ℕ → List ℕ
puts_unless_ended None bytes = bytes
puts_unless_ended (Some ending) bytes = []

unfoldable pub puts_of : State → ℕ → List ℕ
puts_of s descriptor = puts_unless_ended s.ending (puts_on_word s (fetch_of s.memory s.pc) descriptor)
