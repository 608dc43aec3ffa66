-- How many registers the code of a snippet needs, and how many of them it has to spill.
use Rattle.std.specs.Prelude.{ℕ, ◌-◌, ◌^◌, Bool, ◌||◌, nat_lt, nat_le, ◌==◌, if◌then◌else◌, max, List, [], ◌∷◌}
use Rattle.snippets.specs.declared.snippet.Op.{Op}
use Rattle.snippets.specs.declared.snippet.Op.TheVariants.{Add, Put, Keep, Top, Count, Log}
use Rattle.v8_decode.specs.declared.Part.{Part}
use Rattle.v8_decode.specs.declared.Part.TheVariants.{Icc}
use Rattle.v8_decode.specs.Parts.{has}
use Rattle.scavenge.specs.Picks.{spills}

-- amounts that an immediate of 13 bits holds, as they are or as what they are less than 2^32
abbrev pub is_small : ℕ → Bool
is_small amount = nat_lt amount 4096 || nat_le (2 ^ 32 - 4096) amount

abbrev pub op_registers : Bool → Op → ℕ
op_registers codes_dead (Add cell amount) = if is_small amount then 2 else 3
op_registers codes_dead (Put cell value) = if value == 0 then 1 else 2
op_registers codes_dead (Keep cell reg) = 1
op_registers codes_dead (Top cell reg) = if codes_dead then 2 else 5
op_registers codes_dead (Count cell) = if codes_dead then 2 else 3
op_registers codes_dead (Log cell bits value) = 3

abbrev pub registers_for : Bool → List Op → ℕ
registers_for codes_dead [] = 0
registers_for codes_dead (op ∷ rest) = max (op_registers codes_dead op) (registers_for codes_dead rest)

-- how many registers a snippet must spill, where some are dead and some must be avoided
abbrev pub spills_of : List Part → List Part → List Op → ℕ
spills_of dead avoid ops = spills dead avoid (registers_for (has dead Icc) ops)
