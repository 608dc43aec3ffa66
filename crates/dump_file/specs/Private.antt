-- What only contracts of private functions and models cite.
use Rattle.std.specs.Prelude.{◌≡◌, ℕ, Result, Err, Ok}
use Rattle.dump_file.specs.declared.dump.DumpFault.{DumpFault}
use Rattle.dump_file.specs.declared.dump.DumpFault.TheVariants as faults

-- a part that takes no memory answers what was read
abbrev pub IsBad : {A : Type 0} → DumpFault → Result A ℕ → Type 0
IsBad (faults.Bad at) read = read ≡ Err at
IsBad faults.NoMemory read = ⊥

abbrev pub Reads : {A : Type 0} → Result A DumpFault → Result A ℕ → Type 0
Reads (Ok x) read = read ≡ Ok x
Reads (Err fault) read = IsBad fault read
