-- What was so from a later moment on is so from an earlier one, between which only faults were counted.
use Rattle.std.proofs.Common.{◌≡◌, ℕ, ◌≤◌, List, Option, inl, inr, ap, sym, ◌∙◌, subst, arith}
use Rattle.eel_base.specs.Outside.{AreUnder, Holding, IsLonger, IsMissing, stored, SameBut, Rose}
use Rattle.eel_said.specs.Outcome.{Outcome, Done, TooLong, OutOfMemory, DeviceFault}
use Rattle.eel_said.specs.Shared.{Store, store, IsPut, IsUnread, WasRead}

pub rose-before : (old mid new : ℕ) → old ≤ mid → Rose mid new → Rose old new
rose-before old mid new later rose = omega arith

pub rose-after : (old mid new : ℕ) → mid ≤ new → Rose old mid → Rose old new
rose-after old mid new later rose = omega arith

pub put-later : (old mid : Option Holding) (faults more : ℕ) (new : Store) (name bytes : List ℕ) (outcome : Outcome)
    → mid ≡ old → faults ≤ more → IsPut (store mid more) new name bytes outcome
    → IsPut (store old faults) new name bytes outcome
put-later old mid faults more new name bytes Done same later is = is ∙ ap (λ held. stored held name bytes) same
put-later old mid faults more new name bytes OutOfMemory same later is = is ∙ same
put-later old mid faults more new name bytes DeviceFault same later (rose, but) =
    (rose-before faults more new.faults later rose, subst (λ held. SameBut name held new.held) same but)
put-later old mid faults more new name bytes _ same later is = absurd is

pub read-later : (old mid : Option Holding) (faults more : ℕ) (name : List ℕ) (limit : ℕ) (bytes : List ℕ)
    → mid ≡ old → WasRead (store mid more) name limit bytes → WasRead (store old faults) name limit bytes
read-later old mid faults more name limit bytes same read = record {
  under = subst (λ held. AreUnder held name bytes) same read.under;
  within = read.within;
}

pub unread-later : (old mid : Option Holding) (faults more : ℕ) (new : Store) (name : List ℕ) (limit : ℕ)
    (outcome : Outcome) → mid ≡ old → more ≡ faults → IsUnread (store mid more) new name limit outcome
    → IsUnread (store old faults) new name limit outcome
unread-later old mid faults more new name limit (TooLong named most) same still (is, all, long) =
    (is, all, subst (λ held. IsLonger held name limit) same long)
unread-later old mid faults more new name limit OutOfMemory same still (held, quiet) =
    ((λ lacks. held (subst (λ here. IsMissing here name) (sym same) lacks)), quiet ∙ still)
unread-later old mid faults more new name limit DeviceFault same still (inl lacks) =
    inl (subst (λ held. IsMissing held name) same lacks)
unread-later old mid faults more new name limit DeviceFault same still (inr rose) =
    inr (rose-before faults more new.faults (omega (arith, still)) rose)
unread-later old mid faults more new name limit _ same still is = absurd is
