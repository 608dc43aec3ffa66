-- Two machines at one point of the original's text.
use Rattle.std.specs.Prelude.{◌≡◌, ℕ, ◌⊎◌, List, Option, Some, None}
use Rattle.notes.specs.Format.{Notes}
use Rattle.v8_decode.specs.declared.Instr.{Instr}
use Rattle.v8_decode.specs.Words.{decode_of}
use Rattle.v8_memory.specs.Spans.{Span, AllApart}
use Rattle.v8_windows.specs.Code.{AreRegisters}
use Rattle.v8_step.specs.State.{State}
use Rattle.v8_step.specs.Step.{on_word, puts_on_word}
use Rattle.v8_step.specs.Items.{StateItem, IsItem, IsSameAt}
use Rattle.two_runs.specs.Alike.{IsSameWorld}
use Rattle.two_runs.specs.Needed.{ReadsIn, WritesIn, judged_in}
use Rattle.two_runs.specs.Visits.{pages_of}

-- both go on at the same addresses, in the same kind of slot
pub record AreAtOnePoint (s u : State) : Type 0 where
  pub pc : s.pc ≡ u.pc
  pub npc : s.npc ≡ u.npc
  pub slot : s.slot ≡ u.slot

-- what a word says, if there is one
abbrev pub instr_of : Option ℕ → Option Instr
instr_of None = None
instr_of (Some word) = Some (decode_of word)

-- A word led from two states to two that end alike, or go on at one point. Both put out the same, judge no byte of the
-- pages, share what they shared, and have the same at each item that the word writes, or at which they had the same.
pub record AreAlikeOn (pages : List Span) (word : Option ℕ) (s u s_after u_after : State) : Type 0 where
  pub judged : AllApart pages (judged_in u (instr_of word))
  pub ending : s_after.ending ≡ u_after.ending
  pub world : IsSameWorld pages s_after u_after
  pub puts : (descriptor : ℕ) → puts_on_word s word descriptor ≡ puts_on_word u word descriptor
  pub items : s_after.ending ≡ None → (item : StateItem) → IsItem item
      → (WritesIn (instr_of word) s.window item ⊎ IsSameAt item s u) → IsSameAt item s_after u_after
  pub point : s_after.ending ≡ None → AreAtOnePoint s_after u_after

-- Two machines at one point that agree on what the word there reads do the same: whatever the word, a transfer too, or
-- none.
abbrev pub PointsActAlike : Type 0
PointsActAlike =
    (notes : Notes) (word : Option ℕ) (s u : State) → s.ending ≡ None → u.ending ≡ None
    → AreRegisters s.registers → AreRegisters u.registers → AreAtOnePoint s u
    → IsSameWorld (pages_of notes) s u
    → ((item : StateItem) → IsItem item → ReadsIn (instr_of word) s.window item → IsSameAt item s u)
    → AllApart (pages_of notes) (judged_in s (instr_of word))
    → AreAlikeOn (pages_of notes) word s u (on_word s word) (on_word u word)
