-- Going on to another instruction: in order, by a transfer of control with its delay slot, or not at all.
-- "Control-Transfer Instructions" in chapter 5 of The SPARC Architecture Manual, Version 8, tells of delay slots
-- and annulment; "here" marks what this machine chooses.
use Rattle.std.specs.Prelude.{ℕ, ◌+◌, ◌*◌, ◌%◌, Bool, true, false, Some, ◌==◌, if◌then◌else◌, ℤ}
use Rattle.std.specs.Int.{w32, cast_unsigned}
use Rattle.v8_step.specs.declared.Ending.{Ending}
use Rattle.v8_step.specs.declared.Ending.TheVariants.{Trap, Couple}
use Rattle.v8_alu.specs.Numbers.{wrapped}
use Rattle.v8_alu.specs.Conditions.{holds_of}
use Rattle.v8_step.specs.State.{State, with_register}
use Rattle.v8_step.specs.Traps.{mem_address_not_aligned}
use Rattle.v8_step.specs.declared.Slot.TheVariants.{NoSlot, Taken, Untaken}
use Rattle.v8_step.specs.declared.Slot.{Slot}

-- the next instruction in order
abbrev pub next : State → State
next s = record s { pc = s.npc; npc = wrapped (s.npc + 4); slot = NoSlot }

-- the run ends at this instruction
abbrev pub ended : State → Ending → State
ended s ending = record s { ending = Some ending }

abbrev pub trapped : State → ℕ → State
trapped s trap = ended s (Trap trap)

-- ---- transfers

-- the target of a displacement, which counts words
abbrev pub target_of : State → ℤ → ℕ
target_of s disp = wrapped (s.pc + 4 * cast_unsigned w32 disp)

-- the instruction of the delay slot, and then the target
abbrev pub delayed : State → ℕ → State
delayed s target = record s { pc = s.npc; npc = target; slot = Taken }

-- A branch by whether it is taken, whether it is `ba`, and its annul bit (B.21): a taken branch runs its slot
-- but for `ba,a`; one that is not taken runs it unless it is annulled.
abbrev pub branched : Bool → Bool → Bool → State → ℕ → State
branched true true true s target = record s { pc = target; npc = wrapped (target + 4) }
branched true always annul s target = delayed s target
branched false always true s target = record s { pc = wrapped (s.pc + 8); npc = wrapped (s.pc + 12) }
branched false always false s target = record s { pc = s.npc; npc = wrapped (s.npc + 4); slot = Untaken }

-- a transfer in the slot of another one ends the run, here
abbrev pub unless_couple : Slot → State → State → State
unless_couple NoSlot s after = after
unless_couple Taken s after = ended s Couple
unless_couple Untaken s after = ended s Couple

-- B.21 Bicc
unfoldable pub branch_step : State → ℕ → Bool → ℤ → State
branch_step s cond annul disp22 = branched (holds_of cond s.codes) (cond == 8) annul s (target_of s disp22)

-- B.24 CALL: %o7 gets pc
unfoldable pub call_step : State → ℤ → State
call_step s disp30 = delayed (with_register s 15 s.pc) (target_of s disp30)

-- B.25 JMPL: rd gets pc
unfoldable pub jump_step : State → ℕ → ℕ → State
jump_step s rd target =
    if target % 4 == 0 then delayed (with_register s rd s.pc) target else trapped s mem_address_not_aligned
