-- What there is after a call, by its status.
use Rattle.eel.proofs.Common.{◌≡◌, ℕ, ◌≤◌, inl, inr, ap, subst, arith, Outcome, Stream, status_of, Outside, with_err, IsRefusal, IsUnchanged, Shows, shown, failed, rose-before, rose-after, IsDone, IsUnrefused, HasFailed, WasWanting, meaning_of, unknown_means}
use Rattle.eel_said.specs.Command.{Command, Edit, Run, Show, Restore, ReportRun, Demo, PutWords, Unknown}
use Rattle.eel.proofs.Meanings.{IsByStatus, is_failed, refusal_is_bad}
use Rattle.eel.proofs.Editing.{edit_by_status}
use Rattle.eel.proofs.Dumping.{run_by_status}
use Rattle.eel.proofs.Printing.{demo_by_status, restore_by_status, show_by_status, status_told, words_by_status}
use Rattle.eel.proofs.Reported.{report_by_status}

unknown_by_status : IsByStatus unknown_means
unknown_by_status = record {
  refused = λ old new outcome follows refusal. record { files = follows.1; out = ap (λ s. s.taken) follows.3.0 };
  wanting = λ old new err outcome follows wants.
      let at : status_of outcome ≡ 64 = ap status_of follows.0 in absurd (omega (arith, wants, at));
  failed = λ old new err follows. absurd (let is = follows.0 in cc is);
}

by_status : (command : Command) → IsByStatus (meaning_of command)
by_status (Edit input output tool) = edit_by_status tool input output
by_status (Run file limit dump args) = run_by_status file limit args dump
by_status (Show what file) = show_by_status what file
by_status (PutWords listing output) = words_by_status listing output
by_status (Restore written output) = restore_by_status written output
by_status (ReportRun report written dump) = report_by_status report written dump
by_status (Demo number routines) = demo_by_status number routines
by_status Unknown = unknown_by_status

-- a call of the program
module _ (old new : Outside) (status : ℕ) (outcome : Outcome) (err : Stream) (shows : Shows outcome status err new.err)
    (later : old.err.faults ≤ err.faults) (at_last : err.faults ≤ new.err.faults) where
  abbrev Follows : Command → Type 0
  Follows command = (meaning_of command).follows old (with_err new err) outcome

  pub done_shown : (command : Command) → Follows command → status ≡ 0 → IsDone command old new
  done_shown command follows zero = elim shows [
    | shown is took ↦ record {
      outcome = outcome;
      good = omega (arith, is, zero);
      err = err;
      follows = follows;
      line = took;
    }
    | failed is took rose ↦ absurd (omega (arith, is, zero))
  ]

  pub refused_shown : (command : Command) → Follows command → IsRefusal status → IsUnchanged old new
  refused_shown command follows refusal = elim shows [
    | shown is took ↦
        let kept = (by_status command).refused old (with_err new err) outcome follows (subst IsRefusal is refusal) in
        record { files = kept.files; out = kept.out }
    | failed is took rose ↦ absurd ((refusal_is_bad status refusal).not_failed is)
  ]

  pub unrefused_shown : (command : Command) → Follows command → IsUnrefused command status
  unrefused_shown (Demo number routines) follows = elim shows [
    | shown is took ↦ rw is (status_told number routines old (with_err new err) outcome follows.0)
    | failed is took rose ↦ inr (inr is)
  ]
  unrefused_shown _ follows = tt

  pub wanting_shown : (command : Command) → Follows command → status ≡ 70 → WasWanting command old new
  wanting_shown command follows wants = elim shows [
    | shown is took ↦
        let kept = (by_status command).wanting old new err outcome follows (omega (arith, is, wants)) in
        record { files = kept.0; out = kept.1 }
    | failed is took rose ↦ absurd (omega (arith, is, wants))
  ]

  pub failed_shown : (command : Command) → Follows command → status ≡ 74 → HasFailed command old new
  failed_shown command follows fails = elim shows [
    | shown is took ↦ elim ((by_status command).failed old new err (is_failed ((meaning_of command).follows old (with_err new err)) outcome follows (omega (arith, is, fails)))) [
      | inl rose ↦ inl (rose-after old.err.faults err.faults new.err.faults at_last rose)
      | inr fails ↦ inr fails
    ]
    | failed is took rose ↦ inl (rose-before old.err.faults err.faults new.err.faults later rose)
  ]
