-- What contracts of this crate's code and laws cite beyond the statement.
use Rattle.std.specs.Prelude.{List, [], ◌∷◌, ◌≡◌, true}
use Rattle.v8_decode.specs.declared.Part.{Part}
use Rattle.v8_decode.specs.declared.Instr.{Instr}
use Rattle.v8_decode.specs.Effects.{reads_of, reads_all}
use Rattle.v8_step.specs.State.{State}
use Rattle.v8_step.specs.Items.{item_of, IsSameAt, StateItem, IsItem}

abbrev pub AreSameAt : List Part → State → State → Type 0
AreSameAt [] s t = Unit {0}
AreSameAt (p ∷ ps) s t = IsSameAt (item_of s.window p) s t × AreSameAt ps s t

-- they have the same wherever an instruction reads; SAVE, RESTORE and Ticc read every item
abbrev pub IsSameForReading : Instr → State → State → Type 0
IsSameForReading instr s t =
    (reads_all instr ≡ true → (item : StateItem) → IsItem item → IsSameAt item s t) × AreSameAt (reads_of instr) s t
