-- What contracts of this crate's code and laws cite beyond the statement.
use Rattle.std.specs.Prelude.{◌≡◌, ◌%◌, ◌<◌, ◌≤◌, length, Option, Some, None, Result, Ok, Err}
use Rattle.std.specs.List.{All}
use Rattle.elf32_sparc.specs.Image.{Program}
use Rattle.elf32_sparc.specs.declared.fault.FileFault.{FileFault}
use Rattle.elf32_sparc.specs.declared.fault.ReadFault.{ReadFault}
use Rattle.elf32_sparc.specs.declared.fault.ReadFault.TheVariants.{File, NoMemory}

-- what is true of each image
pub record IsProgram (p : Program) : Type 0 where
  pub entry : p.entry < length p.text.words
  pub funcs : All (λ func. func.start.0 < length p.text.words) p.funcs
  pub base : p.base % 0x10000 ≡ 0
  pub below : p.base ≤ 0x80000000

-- the fault for which a file is refused, if it is
abbrev pub refusal : {Image : Type 0} → Result Image ReadFault → Option FileFault
refusal (Ok image) = None
refusal (Err (File fault)) = Some fault
refusal (Err NoMemory) = None
