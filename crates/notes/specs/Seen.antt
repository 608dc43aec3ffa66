-- Notes as the definitions of reading have them, and what an answer says of a definition.
use Rattle.std.specs.Prelude.{◌≤◌, ℕ, ◌+◌, IsTrue, IsOk, List, length, take, drop}
use Rattle.notes.specs.Format.{has_locator, head_of, notes_length, notes_offset, notes_version}

-- the bytes that the locator names
abbrev pub notes_in : List ℕ → List ℕ
notes_in file = take (notes_length file) (drop (notes_offset file) file)

-- The notes stand in the file, and the numbers before their tables meet their rules.
abbrev pub HasHead : List ℕ → Type 0
HasHead file =
    IsTrue (has_locator file)
    × (notes_offset file + notes_length file ≤ length file)
    × IsOk (head_of (notes_version file) (length file) (notes_in file))
