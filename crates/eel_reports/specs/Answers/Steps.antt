-- The steps of which commands are made: a file is read, another is made of it and put, lines are printed.
use Rattle.std.specs.Prelude.{◌≡◌, ℕ, List}
use Rattle.eel_base.specs.Outside.{IsMissing}
use Rattle.eel_said.specs.Outcome.{Outcome}
use Rattle.eel_said.specs.Shared.{Outside, Store, Meaning, WasRead, IsUnread, IsPut, IsPrinted, IsQuiet, files_mean}

-- The file of this name is read, and its bytes lead on; or it gives none, and `still` holds.
pub data Reads (name : List ℕ) (limit : ℕ) (still : Type 0) (next : List ℕ → Type 0) (old new : Store)
    (outcome : Outcome) : Type 0 where
  unread : IsUnread old new name limit outcome → still → Reads name limit still next old new outcome
  was_read : (bytes : List ℕ) → WasRead old name limit bytes → next bytes → Reads name limit still next old new outcome

-- Nothing is made, and this comes of it; or a file is made, and was to be put as OUT.
pub data Puts (refuses : Outcome → Type 0) (makes : List ℕ → Type 0) (output : List ℕ) (old new : Store)
    (outcome : Outcome) : Type 0 where
  unmade : refuses outcome → new.held ≡ old.held → Puts refuses makes output old new outcome
  put : (file : List ℕ) → makes file → IsPut old new output file outcome → Puts refuses makes output old new outcome

-- Nothing is told, and this comes of it; or there are lines, which were to be printed.
pub data Prints (refuses : Outcome → Type 0) (tells : List ℕ → Type 0) (old new : Outside)
    (outcome : Outcome) : Type 0 where
  untold : refuses outcome → IsQuiet old new → Prints refuses tells old new outcome
  printed : (lines : List ℕ) → tells lines → IsPrinted old.out new.out lines outcome → new.err.taken ≡ old.err.taken
      → Prints refuses tells old new outcome

-- A file is made of the bytes of another, or this comes of them.
abbrev pub Makes : ℕ → (List ℕ → Outcome → Type 0) → (List ℕ → List ℕ → Type 0) → List ℕ → List ℕ → Store → Store
    → Outcome → Type 0
Makes limit refuses makes input output old new outcome =
    Reads input limit (new.held ≡ old.held) (λ bytes. Puts (refuses bytes) (makes bytes) output old new outcome)
    old new outcome

abbrev pub make_means : ℕ → (List ℕ → Outcome → Type 0) → (List ℕ → List ℕ → Type 0) → List ℕ → List ℕ → Meaning
make_means limit refuses makes input output =
    files_mean (Makes limit refuses makes input output) (λ files. IsMissing files.held input)
