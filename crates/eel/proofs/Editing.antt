-- An edit by a tool, by its status; and its lines, which are read once the file is.
use Rattle.eel.proofs.Common.{◌≡◌, ℕ, ◌≤◌, ◌⊎◌, inl, inr, List, [], subst, Option, Some, None, Holding, IsMissing, Outcome, Store, edit_limit, store, Puts, unread, was_read, lines_of, read-later, unread-later, AreLines, AreUnread, AreWithin, AreMissing, Edits, IsEditBy, IsNotEdited, Takes, edit_means}
use Rattle.eel_said.specs.Command.{Tool}
use Rattle.eel.proofs.Meanings.{AreByStatus, IsByStatus, files_by_status, puts_by_status, reads_by_status}

-- ---- lines that are read once the file is

pub within : (file : Option (List ℕ × ℕ)) (files : Store) (lines : List ℕ) → AreLines file files lines
    → AreWithin file lines
within None files lines is = tt
within (Some file) files lines is = is.within

module _ {old mid : Option Holding} {faults more : ℕ} (same : mid ≡ old) (quiet : more ≡ faults) (still : Type 0)
    (next : List ℕ → Type 0) (new : Store) (outcome : Outcome) where
  pub lines_unread : (file : Option (List ℕ × ℕ)) → AreUnread file (store mid more) new outcome → still
      → Takes file still next (store old faults) new outcome
  lines_unread None is kept = absurd is
  lines_unread (Some file) is kept =
      unread (unread-later old mid faults more new file.0 file.1 outcome same quiet is) kept

  pub lines_read : (file : Option (List ℕ × ℕ)) (lines : List ℕ) → AreLines file (store mid more) lines → next lines
      → Takes file still next (store old faults) new outcome
  lines_read None lines is then = subst next is then
  lines_read (Some file) lines is then =
      was_read lines (read-later old mid faults more file.0 file.1 lines same is) then

-- ---- the command, by the status

takes_by_status : (file : Option (List ℕ × ℕ)) (lacks : Store → Type 0)
    → ((files : Store) → AreMissing file files → lacks files) → (next : List ℕ → Store → Store → Outcome → Type 0)
    → ((lines : List ℕ) → AreByStatus (next lines) lacks)
    → AreByStatus (λ old new outcome. Takes file (new.held ≡ old.held) (λ lines. next lines old new outcome) old new outcome) lacks
takes_by_status None lacks missing next are = are []
takes_by_status (Some file) lacks missing next are = reads_by_status file.0 file.1 lacks missing next are

module _ (tool : Tool) (input output : List ℕ) where
  abbrev Lacks : Store → Type 0
  Lacks files = IsMissing files.held input ⊎ AreMissing (lines_of tool) files

  abbrev Behind : List ℕ → List ℕ → Store → Store → Outcome → Type 0
  Behind bytes lines = Puts (IsNotEdited tool input bytes lines) (IsEditBy tool bytes lines) output

  pub edit_by_status : IsByStatus (edit_means tool input output)
  edit_by_status =
      files_by_status (Edits tool input output) Lacks
      (reads_by_status input edit_limit Lacks (λ files lack. inl lack)
      (λ bytes old new outcome.
      Takes (lines_of tool) (new.held ≡ old.held) (λ lines. Behind bytes lines old new outcome) old new outcome)
      (λ bytes. takes_by_status (lines_of tool) Lacks (λ files lack. inr lack) (Behind bytes)
      (λ lines. puts_by_status (IsNotEdited tool input bytes lines) (IsEditBy tool bytes lines) output Lacks
      (λ x. x))))
