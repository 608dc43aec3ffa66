-- `restore WRITTEN OUT`: the file WRITTEN is read, and the original that its notes say stands in it is written as
-- OUT.
use Rattle.std.specs.Prelude.{◌≡◌, ℕ, List, take, drop, Ok}
use Rattle.notes.specs.Format.{Notes, notes_of}
use Rattle.eel_said.specs.Shared.{Meaning, written_limit}
use Rattle.eel_reports.specs.Answers.Steps.{make_means}
use Rattle.eel_reports.specs.Answers.Noted.{IsUnnoted}

-- the bytes of a file where notes say that the original stands
abbrev pub original_in : List ℕ → Notes → List ℕ
original_in file notes = take notes.length (drop notes.delta file)

-- the file's notes read, and the original stands where they say
abbrev pub HasOriginal : List ℕ → List ℕ → Type 0
HasOriginal file original =
    (notes : Notes) × (notes_of file ≡ Ok notes) × (original ≡ original_in file notes)

-- what stands in a file is restored, where its notes can be read
abbrev pub restore_means : List ℕ → List ℕ → Meaning
restore_means written output = make_means written_limit (IsUnnoted written) HasOriginal written output
