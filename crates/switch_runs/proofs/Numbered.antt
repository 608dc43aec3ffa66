-- The number that was compared is that of the entry where the jump goes.
pub use Rattle.switch_runs.proofs.Opened.{opens_are_one}
use Rattle.switch_runs.proofs.Common.{◌≡◌, ℕ, ◌+◌, ◌<◌, ◌≤◌, List, None, ap, ◌∙◌, arith, holds_of, State, sum_of, run, lived_to, blocks_of, entered_of, is_taken, runs_slot, Open, IsJump, HasPassed, IsOpenSwitch, NumbersAreCompared, approach_to, steps_to, GoesIntoTable, to_branch, to_jump, Words, IsNumbered, number_in, refl}
use Rattle.switch_runs.proofs.Arriving.{at_jump}
use Rattle.v8_decode.specs.declared.LoadKind.TheVariants as loads
use Rattle.switch_runs.proofs.About.{About, about}
use Rattle.switch_runs.proofs.Known.{IsRun, run_of}
use Rattle.switch_runs.proofs.Branching.{run_add}
use Rattle.switch_runs.proofs.Coming.{Ready, IsAt}
use Rattle.switch_runs.proofs.TableEntries.{entry_of}
use Rattle.switch_runs.proofs.Whole.{place_is, ready, up_to, whole}

-- ---- a run that has come from the comparison of an open switch to a word of the jump's block

module _ {text : Words} {given : List ℕ} {entry : ℕ} {opens : List Open} {s0 : State}
    (r : IsRun text given entry opens s0) (o : Open) (is : IsOpenSwitch text (entered_of text given) entry o)
    (n word : ℕ) (live : (run s0 n).ending ≡ None) (passed : HasPassed text o is.cond s0 n (steps_to o word)) where
  abbrev s : State
  s = run s0 passed.moment

  abbrev number : ℕ
  number = number_in o s0 passed.moment

  abbrev steps : ℕ → ℕ
  steps jump = to_jump (approach_to o jump) (runs_slot is.annul o.way)

  a : About text (blocks_of text given) entry o is.cond is.annul
  a = about text given entry r.is_text o is

  there : (jump : ℕ) → word ≡ jump → run s0 n ≡ run s (steps jump)
  there jump at =
      let e : n ≡ passed.moment + steps jump = omega (arith, passed.ago, a.slot, at) in
      ap (run s0) e ∙ run_add s0 passed.moment (steps jump)

  lives : (jump : ℕ) → word ≡ jump → (run s (steps jump)).ending ≡ None
  lives jump at = cc (there jump at, live)

  way : holds_of is.cond (run s (to_branch o.approach)).codes ≡ is_taken o.way
  way = cc (run_add s0 passed.moment (to_branch o.approach), passed.goes)

  both : Ready text o.approach is.cond is.annul o.way s × IsJump text o.approach o.switch.compare.0 o.switch
  unfolding entered_of
  both =
      rw (← is.approach) at
      (ready text given entry o.block o.switch is.is_switch o.switch.compare o.way is.cond is.annul o.approach.compare
      is.parts s0 entry passed.moment r.is_text r.valid r.fetches r.holds r.begins
      (lived_to s0 passed.moment n (omega (arith, passed.ago)) live) passed.compares)

  pub goes_by_number : word ≡ o.approach.jump → GoesIntoTable text o.switch number (run s0 n)
  goes_by_number at =
      rw (there o.approach.jump at)
      (whole r.is_text both.0 way (lives o.approach.jump at) o.switch.compare.0 o.switch both.1)

  module _ (above : o.approach.first ≤ word) (below : word ≤ o.approach.jump) where
    here : Ready text (approach_to o word) is.cond is.annul o.way s
    here = up_to text o.approach is.cond is.annul o.way s word both.0 above below

    pub stands_at : IsAt text word (run s0 n)
    stands_at =
        rw (passed.ago, run_add s0 passed.moment (steps_to o word)) (at_jump r.is_text here way (lives word refl))

    pub numbered : IsNumbered text o s0 n word number
    numbered = record {
      loads = λ l.
          let p = place_is r.is_text here way (lives word refl) loads.LD l.rd l.rs1 l.op2 l.is o.switch.table.0
          l.place in
          let low : number < o.switch.count = omega (arith, p.0, both.1.count) in (
            low,
            ap (λ (t : State). sum_of t l.rs1 l.op2) (there word refl) ∙ p.1
                ∙ (entry_of text o.switch.table.0 o.switch.count number r.is_text a.table low).wraps,
          );
      jumps = λ at. goes_by_number (at ∙ both.1.at);
    }

pub numbers_are_compared : NumbersAreCompared
unfolding entered_of
numbers_are_compared text given entry s0 is_text valid fetches holds begins among n block word live from above below =
    numbered (run_of text given entry s0 is_text valid fetches holds begins) from.switch from.is n word live from.passed
    above below
