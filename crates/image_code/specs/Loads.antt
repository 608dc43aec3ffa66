-- The load of an open switch: which LD of the jump's block has its address kept.
use Rattle.std.specs.Prelude.{ℕ, ◌-◌, Bool, false, ◌==◌, Option, Some, None, pos}
use Rattle.std.specs.List.{find, range_with_len}
use Rattle.eel_base.specs.CodeText.{Words}
use Rattle.v8_decode.specs.declared.Op2.{Op2}
use Rattle.v8_decode.specs.declared.Op2.TheVariants.{Imm}
use Rattle.v8_decode.specs.declared.Instr.{Instr}
use Rattle.v8_decode.specs.declared.Instr.TheVariants as i
use Rattle.v8_decode.specs.declared.LoadKind.TheVariants as loads
use Rattle.cfg_blocks.specs.declared.switches.Value.{Value}
use Rattle.cfg_blocks.specs.declared.switches.Value.TheVariants.{Place}
use Rattle.cfg_blocks.specs.Switches.{before_jump}
use Rattle.cfg_blocks.specs.Values.{instr_at, sum_in}
use Rattle.cfg_normal.specs.Opens.{Open}
use Rattle.switch_runs.specs.Cases.{approach_to}

abbrev pub is_place : ℕ → Value → Bool
is_place table (Place c) = c == table
is_place table _ = false

-- An LD from the table at four times the index, by what the words before it give. All such load from one address.
abbrev pub loads_by : Words → Open → ℕ → Instr → Bool
loads_by text o word (i.Load loads.LD rd rs1 op2) =
    is_place o.switch.table.0 (sum_in (before_jump text (approach_to o word)) rs1 op2)
loads_by text o word _ = false

abbrev pub or_first : Open → Option ℕ → ℕ
or_first o None = o.approach.first
or_first o (Some word) = word

-- the first of the jump's block
unfoldable pub load_of : Words → Open → ℕ
load_of text o =
    or_first o (find (λ word. loads_by text o word (instr_at text word))
    (range_with_len o.approach.first (o.approach.jump - o.approach.first)))

-- the operands of a load
abbrev pub first_operand : Instr → ℕ
first_operand (i.Load kind rd rs1 op2) = rs1
first_operand _ = 0

abbrev pub second_operand : Instr → Op2
second_operand (i.Load kind rd rs1 op2) = op2
second_operand _ = Imm (pos 0)
