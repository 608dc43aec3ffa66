-- What contracts of this crate's code and laws cite beyond the statement.
use Rattle.std.specs.Prelude.{ℕ, Bool, not, ◌&&◌, List, filter, ◌++◌, take, ◌-◌, drop, true, false, length, ◌≡◌, ◌≢◌, ◌<◌, slice_index}
use Rattle.v8_decode.specs.declared.Part.{Part}
use Rattle.v8_decode.specs.declared.Part.TheVariants.{Reg, Icc, Y}
use Rattle.v8_decode.specs.Parts.{has}
use Rattle.scavenge.specs.Picks.{registers, free_dead, spills}

abbrev pub is_free_live : List Part → List Part → ℕ → Bool
is_free_live dead avoid r = not (has dead (Reg r)) && not (has avoid (Reg r))

abbrev pub free_live : List Part → List Part → List ℕ
free_live dead avoid = filter (is_free_live dead avoid) registers

-- so many of them, dead ones first
abbrev pub picked : List Part → List Part → ℕ → List ℕ
picked dead avoid want = take want (free_dead dead avoid ++ free_live dead avoid)

-- those, which are the last ones
abbrev pub spilled : List Part → List Part → ℕ → List ℕ
spilled dead avoid want = drop (want - spills dead avoid want) (picked dead avoid want)

abbrev pub is_register : Part → Bool
is_register (Reg r) = true
is_register Icc = false
is_register Y = false

abbrev pub register_count : List Part → ℕ
register_count parts = length (filter is_register parts)

-- So many different registers, none of them %g0 or to be avoided. All but the last `spills` are dead, and only where
-- there aren't enough dead ones are any spilled.
pub record ArePicked (dead avoid : List Part) (want : ℕ) (regs : List ℕ) (spilled : ℕ) : Type 0 where
  pub count : length regs ≡ want
  pub some : (k : ℕ) → k < want → 0 < slice_index regs k
  pub below : (k : ℕ) → k < want → slice_index regs k < 32
  pub differ : (j k : ℕ) → j < want → k < want → j ≢ k → slice_index regs j ≢ slice_index regs k
  pub unavoided : (k : ℕ) → k < want → has avoid (Reg (slice_index regs k)) ≡ false
  pub dead_first : (k : ℕ) → k < want - spilled → has dead (Reg (slice_index regs k)) ≡ true
  pub few : spilled ≡ spills dead avoid want
