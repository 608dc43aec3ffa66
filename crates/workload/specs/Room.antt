-- The room above the generated file's segment.
use Rattle.std.specs.Prelude.{◌≡◌, ℕ, ◌+◌, ◌*◌, ◌^◌, ◌≤◌}
use Rattle.elf32_sparc.specs.Image.{image_of}
use Rattle.workload.specs.Generated.{generated}

-- the most that there is for an edit, 1 GiB, from behind the text on
pub record LeavesRoom (number count : ℕ) : Type 0 where
  pub base : 0x10054 + 4 * (9 * count + 2) ≤ (image_of (generated number count)).base
  pub room : (image_of (generated number count)).room ≡ 2 ^ 30

abbrev pub GeneratedLeavesRoom : Type 0
GeneratedLeavesRoom = (number count : ℕ) → 1 ≤ count → count ≤ 100000 → LeavesRoom number count
