-- What is told of a run, by the status: where it is told, it is exact, and it is refused seldom.
use Rattle.eel.proofs.Common.{◌≡◌, ℕ, ◌⊎◌, inl, inr, List, Ok, IsMissing, Notes, notes_of, Dump, Report, Outside, Store, HaveFailed, written_limit, IsQuiet, Outcome, Prints, Reads, subst, AreLast, CountFault, MayRefuse, RingFault, IsRefused, NoNotes, BadNotes, NotEveryWord, NoProfile, NoTrace, NoCounts, BadCell, OutOfMemory, DeviceFault, IsOfRun, IsUncounted, IsUnnoted, IsUnvisited, MayMiss, IsUntold, every_word, BadDump, AreRead, IsUndumped, dump_limit, AreTheLast, IsOfTraced}
use Rattle.count_rebuild.specs.declared.fault.CountFault.TheVariants as count_faults
use Rattle.count_rebuild.specs.Code.{IsRefused as IsMiscounted}
use Rattle.dump_file.specs.Reading.{read_dump}
use Rattle.edge_ring.specs.declared.fault.RingFault.TheVariants as ring_faults
use Rattle.eel_said.specs.declared.command.Report.TheVariants as reports
use Rattle.eel_said.specs.declared.outcome.CountCause.TheVariants as causes
use Rattle.eel.specs.Answers.Report.{HasNone, IsExact, IsRefused as IsNotTold, IsReported, IsSeldom, IsUnreported, Reports, Tell, report_means}
use Rattle.eel.proofs.ExactProfiles.{are_exact, are_of_whole_runs, exact_in, one_notes}
use Rattle.eel.specs.Answers.LastEdges.{AreLastOfWholeRuns}
use Rattle.eel.proofs.ExactVisits.{exact_visits, has_every_word, whole_visits}
use Rattle.eel.proofs.LastOfWalk.{MayHide, hidden, last_told, whole_told}
use Rattle.eel.proofs.Meanings.{IsByStatus, prints_by_status, lines_printed, reads_printed}

-- ---- what is told is exact

are_the_last : (file : List ℕ) (notes : Notes) (dump : Dump) (edges : List ℕ) → notes_of file ≡ Ok notes
    → AreLast notes dump edges → AreTheLast file notes dump edges
are_the_last file notes dump edges read are = λ bits original args input m run.
    last_told bits original file notes run.trace read args input m run.arguments run.given run.clear edges
    (subst (λ (d : Dump). AreLast notes d edges) run.is are)

are_last_of_whole_runs : (file : List ℕ) (notes : Notes) (dump : Dump) (edges : List ℕ) → notes_of file ≡ Ok notes
    → AreLast notes dump edges → AreLastOfWholeRuns file notes dump edges
are_last_of_whole_runs file notes dump edges read are = λ bits original args input n m run both.
    whole_told bits original file notes run.trace read args input m run.arguments run.given run.clear n both edges
    (subst (λ (d : Dump). AreLast notes d edges) run.is are)

pub exact : (report : Report) (file : List ℕ) (notes : Notes) (dump : Dump) (lines : List ℕ) → notes_of file ≡ Ok notes
    → (tell : Tell report file notes dump lines) → IsExact report file notes dump lines tell
exact reports.Counts file notes dump lines read tell = (
  are_exact file notes dump tell.counts read tell.are,
  are_of_whole_runs file notes dump tell.counts read tell.are,
)
exact reports.Visits file notes dump lines read tell = (
  exact_visits file notes dump tell.counts tell.visits read tell.flow tell.are,
  whole_visits file notes dump tell.counts tell.visits read tell.flow tell.are,
)
exact reports.LastEdges file notes dump lines read tell = (
  are_the_last file notes dump tell.edges read tell.are,
  are_last_of_whole_runs file notes dump tell.edges read tell.are,
)

-- ---- by the status

-- no device fault refuses it
unreported_not_failed : (report : Report) (written file name bytes : List ℕ)
    → IsUnreported report written file name bytes DeviceFault → ⊥
unreported_not_failed report written file name bytes (inl (inl is)) = is
unreported_not_failed report written file name bytes (inl (inr (notes, noted, is))) = is
unreported_not_failed reports.Counts written file name bytes (inr (notes, dump, read, is)) = is
unreported_not_failed reports.Visits written file name bytes (inr (notes, dump, read, is)) = is
unreported_not_failed reports.LastEdges written file name bytes (inr (notes, dump, read, is)) = is

module _ (report : Report) (written dump : List ℕ) where
  abbrev Lacks : Store → Type 0
  Lacks files = IsMissing files.held written ⊎ IsMissing files.held dump

  abbrev Behind : List ℕ → List ℕ → Outside → Outside → Outcome → Type 0
  Behind file bytes = Prints (HasNone report written file dump bytes) (IsReported report file bytes)

  pub report_by_status : IsByStatus (report_means report written dump)
  report_by_status =
      prints_by_status (Reports report written dump) (HaveFailed Lacks)
      (reads_printed written written_limit Lacks (λ files lack. inl lack)
      (λ file old new outcome. Reads dump dump_limit (IsQuiet old new) (λ bytes. Behind file bytes old new outcome)
      old.files new.files outcome)
      (λ file. reads_printed dump dump_limit Lacks (λ files lack. inr lack) (Behind file)
      (λ bytes. lines_printed (HasNone report written file dump bytes) (IsReported report file bytes) (HaveFailed Lacks)
      (λ none. unreported_not_failed report written file dump bytes none.is))))

-- ---- where notes and dump can be read

module _ (written file name : List ℕ) (notes : Notes) (dump : Dump) (read : notes_of file ≡ Ok notes) where
  -- a dump of a profile's run has counts, but where it stands between places, and for want of memory
  module _ (original : List ℕ) (args : List (List ℕ)) (input : List ℕ) (m : ℕ)
      (run : IsOfRun original file notes dump args input m) where
    may_miscount : (fault : CountFault) → IsMiscounted notes dump fault → MayRefuse dump fault
    may_miscount fault refused =
        let exact = exact_in file notes dump read original args input m run in
        rw run.is (exact.refused fault (rw run.is at refused))

    misses_counts : (outcome : Outcome) → IsUncounted written name notes dump outcome → MayMiss name dump outcome
    misses_counts (NoProfile named) is = absurd (may_miscount count_faults.NoProfile is.1)
    misses_counts (NoCounts named (causes.Version of wanted)) is = absurd (may_miscount (count_faults.Version of wanted) is.1)
    misses_counts (NoCounts named (causes.Length length wanted)) is = absurd (may_miscount (count_faults.Other length wanted) is.1)
    misses_counts (NoCounts named (causes.Shape cells wanted)) is = absurd (may_miscount (count_faults.Shape cells wanted) is.1)
    misses_counts (NoCounts named (causes.Steps steps)) is = absurd (may_miscount (count_faults.TooLong steps) is.1)
    misses_counts (NoCounts named (causes.Between pc)) is =
        let between = may_miscount (count_faults.Between pc) is.1 in (is.0, between.0, between.1)
    misses_counts (NoCounts named (causes.Negative edge value)) is = absurd (may_miscount (count_faults.Negative edge value) is.1)
    misses_counts (NoCounts named (causes.Large edge value)) is = absurd (may_miscount (count_faults.Large edge value) is.1)
    misses_counts OutOfMemory is = tt
    misses_counts _ is = absurd is

  -- and visits, where every word is marked
  module _ (original : List ℕ) (args : List (List ℕ)) (input : List ℕ) (m : ℕ)
      (made : IsOfRun original file notes dump args input m) (marked : made.plan.marks ≡ every_word original) where
    misses_visits : (outcome : Outcome) → IsUnvisited written file name notes dump outcome → MayMiss name dump outcome
    misses_visits (NotEveryWord named) (is, not) =
        absurd (not (has_every_word file notes dump read original args input m made marked))
    misses_visits (NoProfile named) (is, every, none) = misses_counts original args input m made (NoProfile named) (is, none)
    misses_visits (NoCounts named cause) (is, every, has) = misses_counts original args input m made (NoCounts named cause) (is, has)
    misses_visits OutOfMemory is = tt
    misses_visits _ is = absurd is

  -- one of a trace's run has last edges
  module _ (bits : ℕ) (original : List ℕ) (args : List (List ℕ)) (input : List ℕ) (m : ℕ)
      (run : IsOfTraced bits original file notes dump args input m) where
    may_hide : (fault : RingFault) → IsRefused notes dump fault → MayHide dump fault
    may_hide fault refused =
        rw run.is
        (hidden bits original file notes run.trace read args input m run.arguments run.given run.clear fault
        (rw run.is at refused))

    misses_edges : (outcome : Outcome) → IsUntold written name notes dump outcome → MayMiss name dump outcome
    misses_edges (NoTrace named) is = absurd (may_hide ring_faults.NoTrace is.1)
    misses_edges (NoCounts named (causes.Version of wanted)) is = absurd (may_hide (ring_faults.Version of wanted) is.1)
    misses_edges (NoCounts named (causes.Length length wanted)) is = absurd (may_hide (ring_faults.Other length wanted) is.1)
    misses_edges (NoCounts named (causes.Shape cells wanted)) is = absurd (may_hide (ring_faults.Shape cells wanted) is.1)
    misses_edges (NoCounts named (causes.Between pc)) is =
        let between = may_hide (ring_faults.Between pc) is.1 in (is.0, between.0, between.1)
    misses_edges (NoCounts named _) is = absurd is.1
    misses_edges (BadCell named cell value) is = absurd (may_hide (ring_faults.Entry cell value) is.1)
    misses_edges OutOfMemory is = tt
    misses_edges _ is = absurd is

-- ---- seldom

-- a file is one dump
one_dump : (bytes : List ℕ) (one other : Dump) → read_dump bytes ≡ Ok one → read_dump bytes ≡ Ok other → other ≡ one
one_dump bytes one other first second = cc (first, second)

module _ (written file name bytes : List ℕ) (notes : Notes) (dump : Dump) (read : AreRead file bytes notes dump) where
  -- where both can be read, only memory can be wanting
  unnoted_misses : (outcome : Outcome) → IsUnnoted written file outcome → MayMiss name dump outcome
  unnoted_misses (NoNotes named) is = let noted = read.noted in let none = is.1 in absurd (cc (noted, none))
  unnoted_misses (BadNotes named at) is = let noted = read.noted in let none = is.1 in absurd (cc (noted, none))
  unnoted_misses OutOfMemory is = tt
  unnoted_misses _ is = absurd is

  undumped_misses : (outcome : Outcome) → IsUndumped name bytes outcome → MayMiss name dump outcome
  undumped_misses (BadDump named at) is = let dumped = read.dumped in let none = is.1 in absurd (cc (dumped, none))
  undumped_misses OutOfMemory is = tt
  undumped_misses _ is = absurd is

  may_be : (report : Report) (outcome : Outcome) → MayMiss name dump outcome
      → IsSeldom report file name notes dump outcome
  may_be reports.Counts outcome may = λ original args input m run. may
  may_be reports.Visits outcome may = λ original args input m made marked. may
  may_be reports.LastEdges outcome may = λ bits original args input m run. may

  refused_seldom : (report : Report) (outcome : Outcome) → IsNotTold report written file name notes dump outcome
      → IsSeldom report file name notes dump outcome
  refused_seldom reports.Counts outcome is = λ original args input m run.
      misses_counts written file name notes dump read.noted original args input m run outcome is
  refused_seldom reports.Visits outcome is = λ original args input m made marked.
      misses_visits written file name notes dump read.noted original args input m made marked outcome is
  refused_seldom reports.LastEdges outcome is = λ bits original args input m run.
      misses_edges written file name notes dump read.noted bits original args input m run outcome is

  pub seldom : (report : Report) (outcome : Outcome) → IsUnreported report written file name bytes outcome
      → IsSeldom report file name notes dump outcome
  seldom report outcome (inl (inl unnoted)) = may_be report outcome (unnoted_misses outcome unnoted)
  seldom report outcome (inl (inr (other, noted, undumped))) =
      may_be report outcome (undumped_misses outcome undumped)
  seldom report outcome (inr (other, another, again, refused)) =
      refused_seldom report outcome
      (rw (one_notes file notes other read.noted again.noted, one_dump bytes dump another read.dumped again.dumped)
      at refused)
