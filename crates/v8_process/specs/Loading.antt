-- What is mapped for a program that starts, and which fault keeps a file from being started.
use Rattle.std.specs.Prelude.{Option, Some, None, Result, Ok, Err}
use Rattle.elf32_sparc.specs.declared.fault.FileFault.{FileFault}
use Rattle.v8_process.specs.declared.loader.LoadFault.{LoadFault}
use Rattle.v8_process.specs.declared.loader.LoadFault.TheVariants.{File, NoMemory}

-- the fault for which a file isn't started, if that is why it isn't
abbrev pub refusal : {Started : Type 0} → Result Started LoadFault → Option FileFault
refusal (Ok started) = None
refusal (Err (File fault)) = Some fault
refusal (Err NoMemory) = None
