-- All that a call has to do with outside itself; and texts and files that it reads and writes.
use Rattle.std.specs.Prelude.{◌≡◌, ℕ, ◌*◌, ◌^◌, ◌≤◌, ◌⊎◌, List, length, Option}
use Rattle.eel_base.specs.Outside.{Holding, stored, IsMissing, AreUnder, IsLonger, SameBut, Rose, appended, TookPart}
use Rattle.eel_said.specs.Outcome.{Outcome, Done, TooLong, OutOfMemory, DeviceFault, Stream}

-- The files: what they hold, where they tell it, and their faults.
pub record Store : Type 0 where
  pub held : Option Holding
  pub faults : ℕ

abbrev pub store : Option Holding → ℕ → Store
store held faults = record { held = held; faults = faults }

-- The input: what it has left, where it tells it, and its faults.
pub record Feed : Type 0 where
  pub left : Option (List ℕ)
  pub faults : ℕ

abbrev pub feed : Option (List ℕ) → ℕ → Feed
feed left faults = record { left = left; faults = faults }

pub record Outside : Type 0 where
  pub files : Store
  pub input : Feed
  pub out : Stream
  pub err : Stream

abbrev pub outside : Store → Feed → Stream → Stream → Outside
outside files input out err = record { files = files; input = input; out = out; err = err }

-- another error stream
abbrev pub with_err : Outside → Stream → Outside
with_err old err = record old { err = err }

-- how long a file may be that is edited or shown, and one that an edit may have written
abbrev pub edit_limit : ℕ
edit_limit = 64 * 2 ^ 20

abbrev pub written_limit : ℕ
written_limit = 1536 * 2 ^ 20

-- ---- reading

-- the name was read, and gave these bytes
pub record WasRead (files : Store) (name : List ℕ) (limit : ℕ) (bytes : List ℕ) : Type 0 where
  pub under : AreUnder files.held name bytes
  pub within : length bytes ≤ limit

-- The name gave no bytes, and this comes of it: a name that is told to be missing is always a device fault, and no fault is
-- told as want of memory.
abbrev pub IsUnread : Store → Store → List ℕ → ℕ → Outcome → Type 0
IsUnread old new name limit (TooLong named most) = (named ≡ name) × (most ≡ limit) × IsLonger old.held name limit
IsUnread old new name limit OutOfMemory = (IsMissing old.held name → ⊥) × (new.faults ≡ old.faults)
IsUnread old new name limit DeviceFault = IsMissing old.held name ⊎ Rose old.faults new.faults
IsUnread old new name limit _ = ⊥

-- ---- writing

-- The bytes were to be put under the name, and this comes of it: all other names are as they were.
abbrev pub IsPut : Store → Store → List ℕ → List ℕ → Outcome → Type 0
IsPut old new name bytes Done = new.held ≡ stored old.held name bytes
IsPut old new name bytes OutOfMemory = new.held ≡ old.held
IsPut old new name bytes DeviceFault = Rose old.faults new.faults × SameBut name old.held new.held
IsPut old new name bytes _ = ⊥

-- The bytes were to be printed, and this comes of it.
abbrev pub IsPrinted : Stream → Stream → List ℕ → Outcome → Type 0
IsPrinted old new bytes Done = new.taken ≡ appended old.taken bytes
IsPrinted old new bytes DeviceFault = Rose old.faults new.faults × TookPart old.taken new.taken bytes
IsPrinted old new bytes _ = ⊥

-- ---- what stays

-- the input is as it was
abbrev pub IsUnused : Outside → Outside → Type 0
IsUnused old new = new.input ≡ old.input

-- the output and the error stream are as they were
abbrev pub IsQuiet : Outside → Outside → Type 0
IsQuiet old new = (new.out ≡ old.out) × (new.err.taken ≡ old.err.taken)

-- the output has taken nothing
abbrev pub IsSilent : Outside → Outside → Type 0
IsSilent old new = new.out.taken ≡ old.out.taken

-- ---- what is said of a command

pub record Meaning : Type 1 where
  -- which outcome comes of it, why, and what is there afterwards, but for the outcome's line
  pub follows : Outside → Outside → Outcome → Type 0
  -- what the output has taken where memory was wanting
  pub wants : Outside → Outside → Type 0
  -- which of the objects that it uses has failed, but for the outcome's line, or that a name which it reads is missing
  pub fails : Outside → Outside → Type 0

-- the files have failed, or a name that is read is known not to be held
abbrev pub HaveFailed : (Store → Type 0) → Store → Store → Type 0
HaveFailed lacks old new = Rose old.faults new.faults ⊎ lacks old

-- that of a command which reads and writes files, and does nothing else
abbrev pub files_mean : (Store → Store → Outcome → Type 0) → (Store → Type 0) → Meaning
files_mean follows lacks = record {
  follows = λ old new outcome. follows old.files new.files outcome × IsUnused old new × IsQuiet old new;
  wants = IsSilent;
  fails = λ old new. HaveFailed lacks old.files new.files;
}

-- that of a command which reads files and prints, and does nothing else
abbrev pub prints_mean : (Outside → Outside → Outcome → Type 0) → (Store → Store → Type 0) → Meaning
prints_mean follows unread = record {
  follows = λ old new outcome. follows old new outcome × (new.files.held ≡ old.files.held) × IsUnused old new;
  wants = IsSilent;
  fails = λ old new. unread old.files new.files ⊎ Rose old.out.faults new.out.faults;
}
