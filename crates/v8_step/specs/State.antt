-- The state of the machine that a program sees: an integer unit in user mode, with eight register windows and
-- neither floating-point unit nor coprocessor. Sections are those of The SPARC Architecture Manual, Version 8.
use Rattle.std.specs.Prelude.{ℕ, ◌+◌, List, Option, ◌<◌}
use Rattle.std.specs.Int.{w32, cast_unsigned}
use Rattle.std.specs.List.{All}
use Rattle.v8_decode.specs.declared.Op2.{Op2}
use Rattle.v8_decode.specs.declared.Op2.TheVariants.{Reg, Imm}
use Rattle.v8_memory.specs.Regions.{Memory}
use Rattle.v8_windows.specs.Registers.{register_in, register_set}
use Rattle.v8_alu.specs.declared.Codes.{Codes}
use Rattle.v8_step.specs.declared.Ending.{Ending}
use Rattle.v8_alu.specs.Numbers.{wrapped}
use Rattle.v8_step.specs.declared.Slot.{Slot}

pub record State : Type 0 where
  pub pc : ℕ  -- PC and nPC (section 4.2)
  pub npc : ℕ
  pub slot : Slot
  pub registers : List ℕ  -- the globals, and the outs and locals of each window (section 4.1)
  pub window : ℕ  -- the current window, CWP (section 4.2)
  pub valid : ℕ  -- how many windows are valid, from the current one on
  pub codes : Codes  -- icc (section 4.2)
  pub y : ℕ
  pub memory : Memory
  pub input : List ℕ  -- the bytes that are left of the input
  pub ending : Option Ending

-- A register of the current window.
abbrev pub register_of : State → ℕ → ℕ
register_of s r = register_in s.registers s.window r

abbrev pub with_register : State → ℕ → ℕ → State
with_register s r value = record s { registers = register_set s.registers s.window r value }

-- the second operand: a register, or an immediate whose sign is extended to 32 bits (section 5.2)
abbrev pub operand_of : State → Op2 → ℕ
operand_of s (Reg r) = register_of s r
operand_of s (Imm n) = wrapped (cast_unsigned w32 n)

-- rs1 plus the second operand: an address, a target, or the value of SAVE and RESTORE
abbrev pub sum_of : State → ℕ → Op2 → ℕ
sum_of s rs1 op2 = wrapped (register_of s rs1 + operand_of s op2)

abbrev pub AreBytes : List ℕ → Type 0
AreBytes bytes = All (λ b. b < 256) bytes
