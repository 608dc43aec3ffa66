-- The notes of written files, and dumps of their runs.
use Rattle.std.specs.Prelude.{◌≡◌, ℕ, ◌*◌, ◌^◌, ◌⊎◌, List, Ok, Err}
use Rattle.notes.specs.Format.{Notes, Absent, Bad, notes_of}
use Rattle.notes.specs.Seen.{HasHead}
use Rattle.dump_file.specs.Dump.{Dump}
use Rattle.dump_file.specs.Reading.{IsRead, read_dump}
use Rattle.eel_said.specs.Outcome.{Outcome, NoNotes, BadNotes, BadDump, OutOfMemory}

-- how long a dump may be
abbrev pub dump_limit : ℕ
dump_limit = 64 * 2 ^ 20

-- the notes of a file, and what a run of it has come to by a dump
pub record AreRead (file bytes : List ℕ) (notes : Notes) (dump : Dump) : Type 0 where
  pub noted : notes_of file ≡ Ok notes
  pub dumped : read_dump bytes ≡ Ok dump

-- The file has no notes that can be read. Memory is wanting only for tables behind numbers that meet their rules.
abbrev pub IsUnnoted : List ℕ → List ℕ → Outcome → Type 0
IsUnnoted name file (NoNotes named) = (named ≡ name) × (notes_of file ≡ Err Absent)
IsUnnoted name file (BadNotes named at) = (named ≡ name) × (notes_of file ≡ Err (Bad at))
IsUnnoted name file OutOfMemory = HasHead file
IsUnnoted name file _ = ⊥

-- A file is no dump. Memory is wanting only for one that is.
abbrev pub IsUndumped : List ℕ → List ℕ → Outcome → Type 0
IsUndumped name bytes (BadDump named at) = (named ≡ name) × (read_dump bytes ≡ Err at)
IsUndumped name bytes OutOfMemory = IsRead (read_dump bytes)
IsUndumped name bytes _ = ⊥

-- The file `written` and the dump `name` can't both be read: the notes are judged first.
abbrev pub AreUnread : List ℕ → List ℕ → List ℕ → List ℕ → Outcome → Type 0
AreUnread written file name bytes outcome =
    IsUnnoted written file outcome
    ⊎ ((notes : Notes) × (notes_of file ≡ Ok notes) × IsUndumped name bytes outcome)
