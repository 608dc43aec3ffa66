-- What holds of all notes.
use Rattle.std.specs.Prelude.{◌≡◌, ◌≤◌, ◌<◌, ℕ, ◌+◌, ◌^◌, true, List, Ok}
use Rattle.std.specs.List.{All}
use Rattle.notes.specs.Format.{Notes, is_version, read_notes}
use Rattle.notes.specs.Rules.{AreNotes}
use Rattle.notes.specs.Written.{notes_words, notes_bytes}

-- each number has a word
abbrev pub AreWords : Notes → Type 0
AreWords notes = All (λ word. word < 2 ^ 32) (notes_words notes)

-- What was written reads back, in a file that has room for the original.
abbrev pub WrittenNotesRead : Type 0
WrittenNotesRead = (notes : Notes) (size : ℕ) → AreNotes notes → AreWords notes → notes.delta + notes.length ≤ size
    → read_notes notes.version size (notes_bytes notes) ≡ Ok notes

-- What reads meets the rules.
abbrev pub ReadNotesMeetRules : Type 0
ReadNotesMeetRules = (version size : ℕ) (bytes : List ℕ) (notes : Notes) → is_version version ≡ true
    → read_notes version size bytes ≡ Ok notes → AreNotes notes
