-- Commands that print lines, or make one file of another, by the status.
use Rattle.eel.proofs.Common.{◌≡◌, ℕ, ◌⊎◌, inl, inr, refl, ap, List, IsMissing, Outcome, Done, DeviceFault, OutOfMemory, status_of, Outside, HaveFailed, edit_limit, written_limit, IsUnnoted, Prints, printed, untold, IsTold, Tells, demo_means, HasOriginal, restore_means}
use Rattle.eel_said.specs.declared.command.Shown.{Shown}
use Rattle.eel_reports.specs.Answers.Files.{IsNotSound}
use Rattle.eel_reports.specs.Answers.Print.{AreLinesOf, PrintsFile, show_means}
use Rattle.eel_reports.specs.Answers.Words.{IsAssembled, IsNotListing, listing_limit, words_means}
use Rattle.eel.proofs.Meanings.{IsByStatus, prints_by_status, lines_printed, make_by_status, reads_printed}

-- lines of a file
pub show_by_status : (shown : Shown) (file : List ℕ) → IsByStatus (show_means shown file)
show_by_status shown file =
    prints_by_status (PrintsFile shown file) (HaveFailed (λ files. IsMissing files.held file))
    (reads_printed file edit_limit (λ files. IsMissing files.held file) (λ files lack. lack)
    (λ bytes. Prints (IsNotSound file bytes) (AreLinesOf shown bytes))
    (λ bytes. lines_printed (IsNotSound file bytes) (AreLinesOf shown bytes)
    (HaveFailed (λ files. IsMissing files.held file)) (λ x. x)))

-- a restored original
pub restore_by_status : (written output : List ℕ) → IsByStatus (restore_means written output)
restore_by_status written output =
    make_by_status written_limit (IsUnnoted written) HasOriginal written output (λ bytes x. x)

-- words that are written
pub words_by_status : (listing output : List ℕ) → IsByStatus (words_means listing output)
words_by_status listing output =
    make_by_status listing_limit (IsNotListing listing) IsAssembled listing output (λ bytes x. x)

-- a demonstration
module _ (number routines : ℕ) where
  pub status_told : (old new : Outside) (outcome : Outcome) → Tells number routines old new outcome
      → (status_of outcome ≡ 0) ⊎ (status_of outcome ≡ 70) ⊎ (status_of outcome ≡ 74)
  status_told old new outcome (untold is quiet) = inr (inl (ap status_of is))
  status_told old new Done (printed lines told is same) = inl refl
  status_told old new DeviceFault (printed lines told is same) = inr (inr refl)
  status_told old new _ (printed lines told is same) = absurd is

  pub demo_by_status : IsByStatus (demo_means number routines)
  demo_by_status =
      prints_by_status (Tells number routines) (λ old new. ⊥)
      (lines_printed (λ outcome. outcome ≡ OutOfMemory) (IsTold number routines) (λ old new. ⊥) (λ is. cc))
