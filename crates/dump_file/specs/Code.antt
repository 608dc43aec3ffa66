-- What contracts of this crate's code and laws cite beyond the statement.
use Rattle.std.specs.Prelude.{◌≡◌, ◌<◌, ◌^◌, true, length, ℕ, Result, Err, Ok}
use Rattle.std.specs.List.{All}
use Rattle.notes.specs.Format.{is_version}
use Rattle.dump_file.specs.declared.dump.Dump as declared
use Rattle.dump_file.specs.Dump.{Dump, number_of}
use Rattle.dump_file.specs.declared.dump.DumpFault.{DumpFault}
use Rattle.dump_file.specs.declared.dump.DumpFault.TheVariants as faults
use Rattle.dump_file.specs.Reading.{IsRead}

abbrev pub dump_seen : declared.Dump → Dump
dump_seen dump = record {
  version = dump.version;
  ending = dump.ending;
  pc = dump.pc.0;
  steps = dump.steps;
  length = dump.length;
  cells = dump.cells.items;
}

-- It has a version, and each number fits its bytes.
pub record IsDump (dump : Dump) : Type 0 where
  pub version : is_version dump.version ≡ true
  pub no_length : dump.version ≡ 1 → dump.length ≡ 0
  pub size : dump.length < 2 ^ 32
  pub number : number_of dump.ending < 2 ^ 8
  pub pc : dump.pc < 2 ^ 32
  pub steps : dump.steps < 2 ^ 64
  pub count : length dump.cells < 2 ^ 32
  pub cells : All (λ cell. cell < 2 ^ 32) dump.cells

-- A fault is the one that was read; memory is wanting only where there is none.
abbrev pub IsFault : {A : Type 0} → DumpFault → Result A ℕ → Type 0
IsFault (faults.Bad at) read = read ≡ Err at
IsFault faults.NoMemory read = IsRead read

-- an answer is what was read
abbrev pub Answers : {A B : Type 0} → (A → B) → Result A DumpFault → Result B ℕ → Type 0
Answers seen (Ok x) read = read ≡ Ok (seen x)
Answers seen (Err fault) read = IsFault fault read
