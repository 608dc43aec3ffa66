-- Facts about the start of every program.
use Rattle.std.specs.Prelude.{◌≡◌, ℕ, ◌%◌, List, ◌∷◌, None}
use Rattle.elf32_sparc.specs.Header.{e_entry}
use Rattle.v8_step.specs.State.{register_of}
use Rattle.v8_process.specs.Start.{start_of, first_sp, program_name}

-- A program starts at its entry, alive, with a stack pointer that is a multiple of 8.
pub record StartsAtEntry (file : List ℕ) (args : List (List ℕ)) (input : List ℕ) : Type 0 where
  pub pc : (start_of file args input).pc ≡ e_entry file
  pub ending : (start_of file args input).ending ≡ None
  pub left : (start_of file args input).input ≡ input
  pub sp : register_of (start_of file args input) 14 ≡ first_sp (program_name ∷ args)
  pub aligned : first_sp (program_name ∷ args) % 8 ≡ 0
