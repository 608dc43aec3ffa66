-- What is true of each command, by the status: the statements, and the steps of which commands are made.
use Rattle.eel.proofs.Common.{◌≡◌, ℕ, ◌≤◌, ◌⊎◌, inr, ap, arith, lit≤, Rose, Outcome, Done, Stopped, DeviceFault, Stream, status_of, Store, Outside, with_err, HaveFailed, IsRefusal, IsUnchanged, inl, List, refl, OutOfMemory, IsMissing, IsQuiet, Prints, Puts, Reads, printed, put, unmade, unread, untold, was_read, IsUnread, Meaning, files_mean, prints_mean, Makes, make_means}

pub record IsByStatus (m : Meaning) : Type 0 where
  pub refused : (old new : Outside) (outcome : Outcome) → m.follows old new outcome → IsRefusal (status_of outcome)
      → IsUnchanged old new
  pub wanting : (old new : Outside) (err : Stream) (outcome : Outcome) → m.follows old (with_err new err) outcome
      → status_of outcome ≡ 70 → (new.files.held ≡ old.files.held) × m.wants old new
  pub failed : (old new : Outside) (err : Stream) → m.follows old (with_err new err) DeviceFault
      → Rose old.err.faults err.faults ⊎ m.fails old new

-- a status that is neither that of success nor that of a device fault
pub record IsBad (status : ℕ) : Type 0 where
  pub not_done : status ≡ 0 → ⊥
  pub not_failed : status ≡ 74 → ⊥

pub bad : (status : ℕ) → 64 ≤ status → status ≤ 70 → IsBad status
bad status from to = record { not_done = λ e. absurd (omega (arith, e)); not_failed = λ e. absurd (omega (arith, e)) }

-- what has status 74 is a device fault
pub is_failed : (P : Outcome → Type 0) (outcome : Outcome) → P outcome → status_of outcome ≡ 74 → P DeviceFault
is_failed P DeviceFault is fails = is
is_failed P Done is fails = absurd (omega (arith, fails))
is_failed P (Stopped ending steps) is fails = absurd (omega (arith, fails))
is_failed P _ is fails = absurd ((bad _ (lit≤ tt) (lit≤ tt)).not_failed fails)

pub refusal_is_bad : (status : ℕ) → IsRefusal status → IsBad status
refusal_is_bad status is = bad status (grind (arith, is)) (grind (arith, is))

pub refusal_not_wanting : (status : ℕ) → IsRefusal status → status ≡ 70 → ⊥
refusal_not_wanting status is wants = grind (arith, is, wants)

pub wanting_is_bad : (status : ℕ) → status ≡ 70 → IsBad status
wanting_is_bad status is = bad status (omega arith) (omega arith)

-- ---- commands that read and write files, and do nothing else

pub record AreByStatus (follows : Store → Store → Outcome → Type 0) (lacks : Store → Type 0) : Type 0 where
  pub unchanged : (old new : Store) (outcome : Outcome) → follows old new outcome → IsBad (status_of outcome)
      → new.held ≡ old.held
  pub failed : (old new : Store) → follows old new DeviceFault → HaveFailed lacks old new

pub files_by_status : (follows : Store → Store → Outcome → Type 0) (lacks : Store → Type 0)
    → AreByStatus follows lacks → IsByStatus (files_mean follows lacks)
files_by_status follows lacks are = record {
  refused = λ old new outcome is refusal. record {
    files = are.unchanged old.files new.files outcome is.0 (refusal_is_bad _ refusal);
    out = ap (λ s. s.taken) is.2.0;
  };
  wanting = λ old new err outcome is wants.
      (are.unchanged old.files new.files outcome is.0 (wanting_is_bad _ wants), ap (λ s. s.taken) is.2.0);
  failed = λ old new err is. inr (are.failed old.files new.files is.0);
}

-- ---- commands that read files and print, and do nothing else

pub record ArePrintedByStatus (follows : Outside → Outside → Outcome → Type 0) (lost : Store → Store → Type 0)
    : Type 0 where
  pub silent : (old new : Outside) (outcome : Outcome) → follows old new outcome → IsBad (status_of outcome)
      → new.out.taken ≡ old.out.taken
  pub failed : (old new : Outside) → follows old new DeviceFault
      → lost old.files new.files ⊎ Rose old.out.faults new.out.faults

pub prints_by_status : (follows : Outside → Outside → Outcome → Type 0) (lost : Store → Store → Type 0)
    → ArePrintedByStatus follows lost → IsByStatus (prints_mean follows lost)
prints_by_status follows lost are = record {
  refused = λ old new outcome is refusal.
      record { files = is.1; out = are.silent old new outcome is.0 (refusal_is_bad _ refusal) };
  wanting = λ old new err outcome is wants.
      (is.1, are.silent old (with_err new err) outcome is.0 (wanting_is_bad _ wants));
  failed = λ old new err is. inr (are.failed old (with_err new err) is.0);
}

-- ---- a file is made

-- where no device fault is what is refused
pub puts_by_status : (refuses : Outcome → Type 0) (makes : List ℕ → Type 0) (output : List ℕ) (lacks : Store → Type 0)
    → (refuses DeviceFault → ⊥) → AreByStatus (Puts refuses makes output) lacks
puts_by_status refuses makes output lacks none = record { unchanged = unchanged; failed = failed }
  where
    unchanged : (old new : Store) (outcome : Outcome) → Puts refuses makes output old new outcome
        → IsBad (status_of outcome) → new.held ≡ old.held
    unchanged old new outcome (unmade is same) other = same
    unchanged old new Done (put file made is) other = absurd (other.not_done refl)
    unchanged old new OutOfMemory (put file made is) other = is
    unchanged old new DeviceFault (put file made is) other = absurd (other.not_failed refl)
    unchanged old new _ (put file made is) other = absurd is

    failed : (old new : Store) → Puts refuses makes output old new DeviceFault → HaveFailed lacks old new
    failed old new (unmade is same) = absurd (none is)
    failed old new (put file made is) = inl is.0

module _ (name : List ℕ) (limit : ℕ) (lacks : Store → Type 0)
    (missing : (files : Store) → IsMissing files.held name → lacks files) where
  unread_fails : (old new : Store) → IsUnread old new name limit DeviceFault → HaveFailed lacks old new
  unread_fails old new (inl lack) = inr (missing old lack)
  unread_fails old new (inr rose) = inl rose

  abbrev ReadsFirst : (List ℕ → Store → Store → Outcome → Type 0) → Store → Store → Outcome → Type 0
  ReadsFirst next old new outcome =
      Reads name limit (new.held ≡ old.held) (λ bytes. next bytes old new outcome) old new outcome

  pub reads_by_status : (next : List ℕ → Store → Store → Outcome → Type 0)
      → ((bytes : List ℕ) → AreByStatus (next bytes) lacks) → AreByStatus (ReadsFirst next) lacks
  reads_by_status next are = record { unchanged = unchanged; failed = failed }
    where
      unchanged : (old new : Store) (outcome : Outcome) → ReadsFirst next old new outcome → IsBad (status_of outcome)
          → new.held ≡ old.held
      unchanged old new outcome (unread is same) other = same
      unchanged old new outcome (was_read bytes read is) other = (are bytes).unchanged old new outcome is other

      failed : (old new : Store) → ReadsFirst next old new DeviceFault → HaveFailed lacks old new
      failed old new (unread is same) = unread_fails old new is
      failed old new (was_read bytes read is) = (are bytes).failed old new is

  -- ---- lines are printed

  abbrev PrintsBehind : (List ℕ → Outside → Outside → Outcome → Type 0) → Outside → Outside → Outcome → Type 0
  PrintsBehind next old new outcome =
      Reads name limit (IsQuiet old new) (λ bytes. next bytes old new outcome) old.files new.files outcome

  pub reads_printed : (next : List ℕ → Outside → Outside → Outcome → Type 0)
      → ((bytes : List ℕ) → ArePrintedByStatus (next bytes) (HaveFailed lacks))
      → ArePrintedByStatus (PrintsBehind next) (HaveFailed lacks)
  reads_printed next are = record { silent = silent; failed = failed }
    where
      silent : (old new : Outside) (outcome : Outcome) → PrintsBehind next old new outcome → IsBad (status_of outcome)
          → new.out.taken ≡ old.out.taken
      silent old new outcome (unread is quiet) other = ap (λ s. s.taken) quiet.0
      silent old new outcome (was_read bytes read is) other = (are bytes).silent old new outcome is other

      failed : (old new : Outside) → PrintsBehind next old new DeviceFault
          → HaveFailed lacks old.files new.files ⊎ Rose old.out.faults new.out.faults
      failed old new (unread is quiet) = inl (unread_fails old.files new.files is)
      failed old new (was_read bytes read is) = (are bytes).failed old new is

-- where no device fault is what is refused
pub lines_printed : (refuses : Outcome → Type 0) (tells : List ℕ → Type 0) (Fails : Store → Store → Type 0)
    → (refuses DeviceFault → ⊥) → ArePrintedByStatus (Prints refuses tells) Fails
lines_printed refuses tells Fails none = record { silent = silent; failed = failed }
  where
    silent : (old new : Outside) (outcome : Outcome) → Prints refuses tells old new outcome
        → IsBad (status_of outcome) → new.out.taken ≡ old.out.taken
    silent old new outcome (untold is quiet) other = ap (λ s. s.taken) quiet.0
    silent old new Done (printed lines told is same) other = absurd (other.not_done refl)
    silent old new DeviceFault (printed lines told is same) other = absurd (other.not_failed refl)
    silent old new _ (printed lines told is same) other = absurd is

    failed : (old new : Outside) → Prints refuses tells old new DeviceFault
        → Fails old.files new.files ⊎ Rose old.out.faults new.out.faults
    failed old new (untold is quiet) = absurd (none is)
    failed old new (printed lines told is same) = inr is.0

-- ---- one file of another

pub make_by_status : (limit : ℕ) (refuses : List ℕ → Outcome → Type 0) (makes : List ℕ → List ℕ → Type 0)
    (input output : List ℕ) → ((bytes : List ℕ) → refuses bytes DeviceFault → ⊥)
    → IsByStatus (make_means limit refuses makes input output)
make_by_status limit refuses makes input output none =
    files_by_status (Makes limit refuses makes input output) (λ files. IsMissing files.held input)
    (reads_by_status input limit (λ files. IsMissing files.held input) (λ files lack. lack)
    (λ bytes. Puts (refuses bytes) (makes bytes) output)
    (λ bytes. puts_by_status (refuses bytes) (makes bytes) output (λ files. IsMissing files.held input) (none bytes)))
