-- The same machine at another place.
use Rattle.std.specs.Prelude.{◌≡◌, ℕ, false}
use Rattle.v8_decode.specs.declared.Instr.{Instr}
use Rattle.v8_step.specs.declared.Slot.{Slot}
use Rattle.v8_step.specs.State.{State}
use Rattle.v8_step.specs.Step.{act, puts_by}
use Rattle.v8_step.specs.Items.{is_transfer}

abbrev pub moved : ℕ → ℕ → Slot → State → State
moved pc npc slot s = record s { pc = pc; npc = npc; slot = slot }

-- An instruction that is no transfer does the same wherever it stands, and puts out the same.
abbrev pub ActsAnywhere : Type 0
ActsAnywhere =
    (pc npc : ℕ) (slot : Slot) (s : State) (x : Instr) → is_transfer x ≡ false
    → (moved pc npc slot (act s x) ≡ moved pc npc slot (act (moved pc npc slot s) x))
    × ((descriptor : ℕ) → puts_by s x descriptor ≡ puts_by (moved pc npc slot s) x descriptor)
