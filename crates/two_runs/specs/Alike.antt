-- Two states that do the same: they may differ in some pages of memory, in pc, and in what is not read.
use Rattle.std.specs.Prelude.{◌≡◌, ℕ, ◌⊎◌, List, length, None, false, Some}
use Rattle.v8_decode.specs.declared.Instr.{Instr}
use Rattle.v8_decode.specs.Effects.{writes_of}
use Rattle.v8_memory.specs.Spans.{Span, AllApart}
use Rattle.v8_step.specs.State.{State}
use Rattle.v8_step.specs.Step.{step_of, puts_of}
use Rattle.v8_step.specs.Items.{StateItem, IsAmong, IsSameAt, is_transfer}
use Rattle.v8_step.specs.Judged.{judged_by}
use Rattle.v8_decode.specs.Words.{decode_of}
use Rattle.v8_memory.specs.Regions.{fetch_of}
use Rattle.v8_memory.specs.Code.{IsSameOutside}
use Rattle.v8_windows.specs.Code.{AreRegisters}
use Rattle.v8_step.specs.Code.{IsSameForReading}

-- What two states share besides items: windows, input and the memory outside the pages.
pub record IsSameWorld (pages : List Span) (s t : State) : Type 0 where
  pub window : s.window ≡ t.window
  pub valid : s.valid ≡ t.valid
  pub input : s.input ≡ t.input
  pub memory : IsSameOutside pages s.memory t.memory
  pub registers : length s.registers ≡ length t.registers

-- An instruction led from two states to two that end alike or go on, share what they shared, and have the same
-- at each item that it writes, or at which they had the same before.
pub record AreSameAfter (pages : List Span) (instr : Instr) (s t s_after t_after : State) : Type 0 where
  pub ending : s_after.ending ≡ t_after.ending
  pub world : IsSameWorld pages s_after t_after
  pub items : s_after.ending ≡ None → (item : StateItem)
      → (IsAmong item s.window (writes_of instr) ⊎ IsSameAt item s t) → IsSameAt item s_after t_after

-- Both states are live, share what the instruction needs, and judge no byte of the pages.
pub record IsReady (pages : List Span) (instr : Instr) (s t : State) : Type 0 where
  pub first_live : s.ending ≡ None
  pub second_live : t.ending ≡ None
  pub first_registers : AreRegisters s.registers
  pub second_registers : AreRegisters t.registers
  pub world : IsSameWorld pages s t
  pub items : IsSameForReading instr s t
  pub first_apart : AllApart pages (judged_by s instr)
  pub second_apart : AllApart pages (judged_by t instr)

-- Two states that fetch the same word, no transfer, and share what it needs, step alike and put out the same.
abbrev pub StepsAlike : Type 0
StepsAlike =
    (word : ℕ) → is_transfer (decode_of word) ≡ false
    → (pages : List Span) (s t : State) → IsReady pages (decode_of word) s t
    → fetch_of s.memory s.pc ≡ Some word → fetch_of t.memory t.pc ≡ Some word
    → AreSameAfter pages (decode_of word) s t (step_of s) (step_of t)
    × ((descriptor : ℕ) → puts_of s descriptor ≡ puts_of t descriptor)
