-- A run, with a dump or without one, by its status.
use Rattle.eel.proofs.Common.{◌≡◌, ◌≢◌, ℕ, IsQuiet, ◌⊎◌, inl, inr, List, [], Option, Some, None, true, false, ◌≤◌, ap, refl, sym, subst, ◌∙◌, Holding, Rose, Notes, Ending, State, Outcome, Done, Stopped, OutOfMemory, DeviceFault, Stream, status_of, Feed, Outside, Store, outside, store, with_err, IsRun, put-later, Runs, unfed, refused, ran, none-some, HasRun, WasBroken, IsUnbegun, no_file, no_input, not_loaded, stopped_of, was_broken, IsPutAfter}
use Rattle.v8_runner.specs.declared.Stop.{Stop}
use Rattle.v8_runner.specs.declared.Stop.TheVariants.{Limit, Ended, SinkFault}
use Rattle.eel.specs.Answers.Dump.{unread, HasPutAll, HasStopped, IsDumped, dump_after, run_means}
use Rattle.eel.proofs.Meanings.{IsByStatus, IsBad, refusal_is_bad, refusal_not_wanting, wanting_is_bad}

-- ---- what a run and a put come to

pub run_broken : (s0 : State) (limit : ℕ) (old_out new_out old_err new_err : Stream) (stop : Stop) (steps : ℕ)
    → IsRun s0 limit old_out new_out old_err new_err (stopped_of stop steps) → was_broken stop ≡ true
    → WasBroken s0 limit old_out new_out old_err new_err
run_broken s0 limit old_out new_out old_err new_err Limit steps is broken = absurd (cc broken)
run_broken s0 limit old_out new_out old_err new_err (Ended ending) steps is broken = absurd (cc broken)
run_broken s0 limit old_out new_out old_err new_err SinkFault steps is broken = is

-- it was not broken off, and so has stopped with an ending or none
module _ (s0 : State) (limit : ℕ) (old new : Outside) where
  run_stopped : (stop : Stop) (steps : ℕ) → IsRun s0 limit old.out new.out old.err new.err (stopped_of stop steps)
      → was_broken stop ≡ false
      → (ending : Option Ending) × (stopped_of stop steps ≡ Stopped ending steps)
      × HasRun s0 limit ending steps [] old.out new.out old.err new.err
  run_stopped Limit steps is whole = (None, refl, is)
  run_stopped (Ended ending) steps is whole = (Some ending, refl, is)
  run_stopped SinkFault steps is whole = absurd (cc whole)

  module _ (stop : Stop) (steps : ℕ) (is : IsRun s0 limit old.out new.out old.err new.err (stopped_of stop steps))
      (whole : was_broken stop ≡ false) where
    pub has_stopped : HasStopped s0 limit old new
    has_stopped =
        let (ending, comes, was) = run_stopped stop steps is whole in
        record { ending = ending; steps = steps; ran = was }

    pub dump_comes : (notes : Notes) (dump : List ℕ) (outcome : Outcome)
        → IsPutAfter old.files new.files dump (dump_after notes s0 steps) (stopped_of stop steps) outcome
        → IsDumped notes s0 limit dump old new outcome
    dump_comes notes dump outcome (inl (done, put)) =
        let (ending, comes, was) = run_stopped stop steps is whole in
        subst (IsDumped notes s0 limit dump old new) (sym (done ∙ comes)) (was, put)
    dump_comes notes dump outcome (inr (inl (wants, kept))) =
        subst (IsDumped notes s0 limit dump old new) (sym wants) (has_stopped, kept)
    dump_comes notes dump outcome (inr (inr (fails, put))) =
        subst (IsDumped notes s0 limit dump old new) (sym fails) (inr (record { run = has_stopped; put = put }))

-- what was so from a later moment on, between which only faults of the files were counted
module _ (notes : Notes) (s0 : State) (limit : ℕ) (dump : List ℕ) (held mid : Option Holding) (faults more : ℕ)
    (x y z w : Feed) (new : Store) (old_out new_out old_err new_err : Stream) (same : mid ≡ held) (later : faults ≤ more)
  where
    abbrev IsAt : Store → Feed → Feed → Outcome → Type 0
    IsAt old x y = IsDumped notes s0 limit dump (outside old x old_out old_err) (outside new y new_out new_err)

    pub dumped_later : (outcome : Outcome) → IsAt (store mid more) x y outcome → IsAt (store held faults) z w outcome
    dumped_later (Stopped ending steps) (was, put) =
        (was, put-later held mid faults more new dump (dump_after notes s0 steps) Done same later put)
    dumped_later OutOfMemory (is, kept) = (record { ending = is.ending; steps = is.steps; ran = is.ran }, kept ∙ same)
    dumped_later DeviceFault (inl (broken, kept)) = inl (broken, kept ∙ same)
    dumped_later DeviceFault (inr is) = inr (record {
      run = record { ending = is.run.ending; steps = is.run.steps; ran = is.run.ran };
      put = put-later held mid faults more new dump (dump_after notes s0 is.run.steps) DeviceFault same later is.put;
    })
    dumped_later _ is = absurd is

-- ---- the command

-- a program that isn't begun isn't run, with a dump or without one
pub not_run : (file : List ℕ) (limit : ℕ) (dump : Option (List ℕ)) (args : List (List ℕ)) (old new : Outside)
    (outcome : Outcome) → IsUnbegun file old.files new.files old.input new.input outcome → IsQuiet old new
    → new.files.held ≡ old.files.held → Runs file limit dump args old new outcome
not_run file limit dump args old new outcome (no_file is same) quiet kept = unread is same quiet kept
not_run file limit dump args old new outcome (no_input bytes read is) quiet kept = unfed bytes read is quiet kept
not_run file limit None args old new outcome (not_loaded bytes read input fed is) quiet kept =
    refused bytes read input fed is quiet kept
not_run file limit (Some dump) args old new outcome (not_loaded bytes read input fed is) quiet kept =
    refused bytes read input fed (inl is) quiet kept

module _ (file : List ℕ) (limit : ℕ) (args : List (List ℕ)) where
  -- neither done, nor a device fault, and nothing was put out: or memory was wanting for the dump
  record Leaves (dump : Option (List ℕ)) (old new : Outside) (outcome : Outcome) : Type 0 where
    held : new.files.held ≡ old.files.held
    out : (new.out.taken ≡ old.out.taken)
        ⊎ ((dump ≢ None) × HasPutAll file limit args old new × (status_of outcome ≡ 70))

  leaves : (dump : Option (List ℕ)) (old new : Outside) (err : Stream) (outcome : Outcome)
      → Runs file limit dump args old (with_err new err) outcome → IsBad (status_of outcome)
      → Leaves dump old new outcome
  leaves dump old new err outcome (unread is unused quiet held) other =
      record { held = held; out = inl (ap (λ s. s.taken) quiet.0) }
  leaves dump old new err outcome (unfed bytes read is quiet held) other =
      record { held = held; out = inl (ap (λ s. s.taken) quiet.0) }
  leaves dump old new err outcome (refused bytes read input fed is quiet held) other =
      record { held = held; out = inl (ap (λ s. s.taken) quiet.0) }
  leaves dump old new err (Stopped ending steps) (ran bytes read input fed loads is) other =
      absurd (other.not_done refl)
  leaves dump old new err DeviceFault (ran bytes read input fed loads is) other = absurd (other.not_failed refl)
  leaves (Some dump) old new err OutOfMemory (ran bytes read input fed loads (notes, noted, (is, held))) other = record {
    held = held;
    out = inr (
      (λ none. none-some dump (sym none)),
      record {
        bytes = bytes;
        read = read;
        input = input;
        fed = fed;
        steps = is.steps;
        made = is.ran.made;
        stops = is.ran.stops;
        out = is.ran.out;
      },
      refl,
    );
  }
  leaves (Some dump) old new err _ (ran bytes read input fed loads (notes, noted, is)) other = absurd is
  leaves None old new err _ (ran bytes read input fed loads is) other = absurd is.0

  failed : (dump : Option (List ℕ)) (old new : Outside) → Runs file limit dump args old new DeviceFault
      → Rose old.err.faults new.err.faults ⊎ (run_means file limit dump args).fails old new
  failed dump old new (unread (inl lacks) unused quiet held) = inr (inl (inr lacks))
  failed dump old new (unread (inr rose) unused quiet held) = inr (inl (inl rose))
  failed dump old new (unfed bytes read is quiet held) = inr (inr (inl is))
  failed None old new (refused bytes read input fed is quiet held) = absurd is
  failed (Some dump) old new (refused bytes read input fed (inl is) quiet held) = absurd is
  failed (Some dump) old new (refused bytes read input fed (inr (loads, inl is)) quiet held) = absurd is
  failed (Some dump) old new (refused bytes read input fed (inr (loads, inr is)) quiet held) = absurd is
  failed None old new (ran bytes read input fed loads is) =
      elim is.0.failed [ inl rose ↦ inr (inr (inr rose)) | inr rose ↦ inl rose ]
  failed (Some dump) old new (ran bytes read input fed loads (notes, noted, inl (broken, held))) =
      elim broken.failed [ inl rose ↦ inr (inr (inr rose)) | inr rose ↦ inl rose ]
  failed (Some dump) old new (ran bytes read input fed loads (notes, noted, inr unput)) = inr (inl (inl unput.put.0))

  pub run_by_status : (dump : Option (List ℕ)) → IsByStatus (run_means file limit dump args)
  run_by_status dump = record {
    refused = λ old new outcome follows refusal.
        let left = leaves dump old new new.err outcome follows (refusal_is_bad _ refusal) in
        record {
          files = left.held;
          out = elim left.out [ inl same ↦ same | inr (some, put, wants) ↦ absurd (refusal_not_wanting _ refusal wants) ];
        };
    wanting = λ old new err outcome follows wants.
        let left = leaves dump old new err outcome follows (wanting_is_bad _ wants) in
        (left.held, elim left.out [ inl same ↦ inl same | inr (some, put, out) ↦ inr (some, put) ]);
    failed = λ old new err follows. failed dump old (with_err new err) follows;
  }
