-- Steps in order: pc, npc and the slot stand outside of the state, pc and npc as places among the records.
use Rattle.std.specs.Prelude.{◌≡◌, ◌<◌, ℕ, ◌+◌, ◌*◌, nat_lt, if◌then◌else◌}
use Rattle.v8_decode.specs.declared.Instr.{Instr}
use Rattle.v8_alu.specs.Numbers.{wrapped}
use Rattle.v8_step.specs.declared.ahead.Cursor.{Cursor}
use Rattle.v8_step.specs.declared.ahead.Control.{Control}
use Rattle.v8_step.specs.declared.ahead.Control.TheVariants.{On, Past, To, At, Stop}
use Rattle.v8_step.specs.State.{State}
use Rattle.v8_step.specs.Step.{act}
use Rattle.v8_step.specs.declared.Slot.{Slot}
use Rattle.v8_step.specs.declared.Slot.TheVariants.{NoSlot, Taken, Untaken}

abbrev pub placed : State → ℕ → ℕ → Slot → State
placed s pc npc slot = record s { pc = pc; npc = npc; slot = slot }

-- `x` leaves the state `t` and goes on in order, whatever pc, npc and the slot are
abbrev pub GoesOn : State → Instr → State → Type 0
GoesOn s x t = (pc npc : ℕ) (slot : Slot) → act (placed s pc npc slot) x ≡ placed t npc (wrapped (npc + 4)) NoSlot

-- the address of the word at a place
abbrev pub address_at : ℕ → ℕ → ℕ
address_at first place = wrapped (first + 4 * place)

abbrev pub at_places : State → ℕ → ℕ → ℕ → Slot → State
at_places s first cur next slot = placed s (address_at first cur) (address_at first next) slot

-- the slot of the last transfer is over where npc's place has come to its end
unfoldable pub slot_by : ℕ → ℕ → Slot → Slot
slot_by next slot_end slot = if nat_lt next slot_end then slot else NoSlot

abbrev pub slot_of : Cursor → Slot
slot_of h = slot_by h.next h.slot_end h.slot

abbrev pub at_here : State → Cursor → State
at_here s h = at_places s h.first h.cur h.next (slot_of h)

-- what a turn has done, where it tells this
abbrev pub HasTurned : Control → Cursor → State → Instr → State → Type 0
HasTurned On h s x t = act (at_here s h) x ≡ at_places t h.first h.next (h.next + 1) NoSlot
HasTurned Past h s x t = act (at_here s h) x ≡ at_places t h.first h.next (h.next + 1) Untaken
HasTurned (To place) h s x t = act (at_here s h) x ≡ at_places t h.first h.next place Taken
HasTurned (At place) h s x t = act (at_here s h) x ≡ at_places t h.first place (place + 1) NoSlot
HasTurned Stop h s x t = t ≡ s

-- there is a record at a place, and enough steps are left to go there, and on in order
abbrev pub IsNear : ℕ → Cursor → Type 0
IsNear place h = (place < h.len) × (h.next < h.spare)

-- so it is where a turn goes
abbrev pub IsWithin : Control → Cursor → Type 0
IsWithin On h = Unit {0}
IsWithin Past h = Unit {0}
IsWithin (To place) h = IsNear place h
IsWithin (At place) h = IsNear place h
IsWithin Stop h = Unit {0}

-- a turn is one of these, within the records, and the run goes on or not as before
abbrev pub IsTurn : Control → Cursor → State → Instr → State → Type 0
IsTurn turn h s x t = HasTurned turn h s x t × IsWithin turn h × (t.ending ≡ s.ending)
