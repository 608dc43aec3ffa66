-- Dumps, of the version of the notes of the file that was run. Numbers are big-endian, of four bytes each but for the
-- steps, which have eight:
--
--   at 0   `EELD`
--   at 4   the version, 1 or 2
--   at 8   how the run ended: 0 not at all, 1 by exit, 2 by a trap, 3 by a window, 4 by a couple
--   at 12  the number that goes with it: the low byte of exit's argument, or the trap's type; else 0
--   at 16  where the run stands
--   at 20  the steps that were made
--   at 28  in version 2 the size of the original; version 1 has no such number
--   then   how many cells there are
--   then   the cells
use Rattle.std.specs.Prelude.{ℕ, List, Option, Some, None}
use Rattle.v8_step.specs.declared.Ending.{Ending}
use Rattle.v8_step.specs.declared.Ending.TheVariants.{Exit, Trap, Window, Couple}

-- a dump without where its cells lie in memory
pub record Dump : Type 0 where
  pub version : ℕ
  pub ending : Option Ending
  pub pc : ℕ
  pub steps : ℕ
  pub length : ℕ
  pub cells : List ℕ

abbrev pub kind_of : Option Ending → ℕ
kind_of None = 0
kind_of (Some (Exit number)) = 1
kind_of (Some (Trap number)) = 2
kind_of (Some Window) = 3
kind_of (Some Couple) = 4

abbrev pub number_of : Option Ending → ℕ
number_of None = 0
number_of (Some (Exit number)) = number
number_of (Some (Trap number)) = number
number_of (Some Window) = 0
number_of (Some Couple) = 0
