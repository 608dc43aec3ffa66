-- What an instruction reads and writes, as items of the state: registers by where they stand, so that the same
-- item has two names in two windows, the codes as one, and Y.
use Rattle.std.specs.Prelude.{◌≡◌, ◌<◌, ℕ, ◌⊎◌, Bool, true, false, List, [], ◌∷◌, slice_index}
use Rattle.v8_decode.specs.declared.Instr.{Instr}
use Rattle.v8_decode.specs.declared.Instr.TheVariants as i
use Rattle.v8_decode.specs.declared.Part.{Part}
use Rattle.v8_decode.specs.declared.Part.TheVariants.{Reg, Icc, Y}
use Rattle.v8_windows.specs.Registers.{place_of}
use Rattle.v8_step.specs.State.{State}

-- the items of a machine are the registers but %g0, the codes and Y
pub data StateItem : Type 0 where
  Register : ℕ → StateItem
  Codes : StateItem
  YRegister : StateItem

abbrev pub IsItem : StateItem → Type 0
IsItem (Register n) = (0 < n) × (n < 136)
IsItem Codes = Unit {0}
IsItem YRegister = Unit {0}

-- the item that a part names in a window
abbrev pub item_of : ℕ → Part → StateItem
item_of window (Reg r) = Register (place_of window r)
item_of window Icc = Codes
item_of window Y = YRegister

-- one of the parts names the item
abbrev pub IsAmong : StateItem → ℕ → List Part → Type 0
IsAmong item window [] = ⊥
IsAmong item window (p ∷ ps) = (item_of window p ≡ item) ⊎ IsAmong item window ps

-- two states have the same there
abbrev pub IsSameAt : StateItem → State → State → Type 0
IsSameAt (Register n) s t = slice_index s.registers n ≡ slice_index t.registers n
IsSameAt Codes s t = s.codes ≡ t.codes
IsSameAt YRegister s t = s.y ≡ t.y

-- the instructions that transfer control to an address of their own
abbrev pub is_transfer : Instr → Bool
is_transfer (i.Branch cond annul disp22) = true
is_transfer (i.Call disp30) = true
is_transfer (i.Jmpl rd rs1 op2) = true
is_transfer _ = false
