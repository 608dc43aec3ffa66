-- Runs that touch no added page, and what is told of runs that have ended: it is so of the original's whole run.
use Rattle.exact_counts.proofs.Common.{◌≡◌, ℕ, suc, ◌-◌, ◌≤◌, inl, inr, List, length, Some, refl, ap, ◌∙◌, arith, append-nil, cases_lt, Words, image_of, Notes, Ending, State, run, IsUntouched, pages_of, start_of, Graph, walk, AreRunsAlike, edit_of, visits_by, ending, longer, over_or_not, stays, from_on, own_few, trail_stays}
use Rattle.two_runs.specs.Visits.{own_trail}
use Rattle.edit_core.proofs.Outwardly.{crashes_are_untouched, edits_are_untouched, exit_granted}
use Rattle.exact_counts.specs.Clear.{crashes, exits, granted, untouched}
use Rattle.exact_counts.specs.Code.{ClearRunsAreUntouched, CountsOfEndedRunsAreExact, EndedRunsAreWhole}
use Rattle.exact_counts.proofs.Ends.{ended_runs_tell}
use Rattle.exact_counts.proofs.Exact.{begins_live, counts_are_exact}
use Rattle.exact_counts.proofs.Soon.{fewer}

-- ---- where no page is touched

pub clear_runs_are_untouched : ClearRunsAreUntouched
clear_runs_are_untouched original plan file args input m is given read (untouched none) = none
clear_runs_are_untouched original plan file args input m is given read (granted no_refusal) =
    edits_are_untouched original plan file is args input _ no_refusal
clear_runs_are_untouched original plan file args input m is given read (crashes low) =
    crashes_are_untouched original plan file is args input _ low
clear_runs_are_untouched original plan file args input m is given read (exits n status over buffers) =
    let notes : Notes = is.notes in
    let s0 : State = start_of original args input in
    let t0 : State = start_of file args input in
    let alike : AreRunsAlike (edit_of original plan notes) (image_of original).entry s0 t0 = is.runs args input given read in
    let all : IsUntouched (pages_of notes) s0 n =
    edits_are_untouched original plan file is args input n (exit_granted s0 n status buffers over) in
    let a = alike.answered n all in
    let ends = ending notes s0 t0 n a.moment (run s0 n).ending _ over a.first.holds.matches in
    let len = ap (λ (l : List ℕ). length l) a.first.holds.trail in
    -- no more visits were made than the original made steps
    let most : visits_by notes t0 m ≤ n = elim (cases_lt m a.moment) [
      | inl before ↦ omega (arith, longer notes t0 (suc m) a.moment (omega (arith, before)), len, own_few s0 n)
      | inr after ↦ rw (trail_stays notes t0 a.moment (suc m) _ (omega (arith, after)) (ends.ending ∙ over))
          (omega (arith, len, own_few s0 n))
    ] in
    fewer notes s0 (visits_by notes t0 m) n most all

-- ---- a run that has ended completes no more edges, and carries out no more

module _ (s0 : State) (v : ℕ) (d : Ending) (over : (run s0 v).ending ≡ Some d) where
  later : (k : ℕ) → v ≤ k → (run s0 k).ending ≡ Some d
  later k least = rw (stays s0 v k d least over) over

  walked : (text : Words) (graph : Graph) (entry n : ℕ) → v ≤ n
      → walk text graph entry s0 n ≡ walk text graph entry s0 (v - 1)
  unfolding walk
  walked text graph entry n below =
      from_on (λ k. walk text graph entry s0 k ≡ walk text graph entry s0 (v - 1)) (v - 1) refl (λ k least same.
      rw (later (suc k) (omega (arith, least)), append-nil (walk text graph entry s0 k)) same) n (omega (arith, below))

  carried_out : (n : ℕ) → v ≤ n → own_trail s0 n ≡ own_trail s0 v
  carried_out n below =
      from_on (λ k. own_trail s0 k ≡ own_trail s0 v) v refl (λ k least same.
      rw (later k least, append-nil (own_trail s0 k)) same) n below

pub ended_runs_are_whole : EndedRunsAreWhole
ended_runs_are_whole e entry s0 t0 n m begins alike none are =
    let v : ℕ = visits_by e.notes t0 m in
    let told = ended_runs_tell e entry s0 t0 m begins alike (record { ended = are.written; untouched = none }) in
    elim (over_or_not (run t0 m).ending) [
      | inl live ↦ absurd (are.written live)
      | inr over ↦ elim (cases_lt n v) [
        | inl before ↦ absurd (are.own (told.before n before))
        | inr after ↦ record {
          walk = walked s0 v over.0 (told.ending ∙ over.1) e.text e.graph entry n after;
          trail = carried_out s0 v over.0 (told.ending ∙ over.1) n after;
        }
      ]
    ]

pub counts_of_ended_runs_are_exact : CountsOfEndedRunsAreExact
counts_of_ended_runs_are_exact original plan file args input n m sound bytes is counters given read clear are short =
    let notes : Notes = is.notes in
    let entry : ℕ = (image_of original).entry in
    let s0 : State = start_of original args input in
    let t0 : State = start_of file args input in
    let none = clear_runs_are_untouched original plan file args input m is given read clear in
    let exact = counts_are_exact original plan file notes args input m
    (record { sound = sound; bytes = bytes; counters = counters; graph = is.graph; runs = is.runs }) given read none short in
    let whole = ended_runs_are_whole (edit_of original plan notes) entry s0 t0 n m (begins_live original args input)
    (is.runs args input given read) none are in
    record {
      refused = exact.refused;
      counts = λ counts are e within. exact.counts counts are e within ∙ rw whole.walk refl;
    }
