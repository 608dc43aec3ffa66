-- A profile's runs end soon after the original's.
use Rattle.exact_counts.proofs.Common.{◌≡◌, ℕ, zero, suc, ◌+◌, ◌*◌, ◌≤◌, inl, inr, List, [], ◌∷◌, length, Some, ◌∙◌, arith, Notes, State, run, IsUntouched, pages_of, gone_in, AreCounters, Edit, AreRunsAlike, over_or_not, ending, operations_on, ProfilesEndSoon, nat_tests}
use Rattle.edit_core.specs.Cost.{TakesFewSteps}
use Rattle.exact_counts.proofs.Counters.{none_or_counter}
use Rattle.exact_counts.proofs.Gone.{step_few}

-- fewer steps touch no page either
pub fewer : (notes : Notes) (s0 : State) (k n : ℕ) → k ≤ n → IsUntouched (pages_of notes) s0 n
    → IsUntouched (pages_of notes) s0 k
fewer notes s0 k n below h = grind (arith, nat_tests)

module _ (version : ℕ) (g : Edit) (are : AreCounters version 0 g.snips) where
  few_operations : (es : List ℕ) → operations_on g.snips es ≤ length es
  few_operations [] = omega arith
  few_operations (e ∷ es) =
      let rest = few_operations es in
      elim (none_or_counter version 0 g.snips e are) [
        | inl none ↦ rw none (omega (arith, rest))
        | inr some ↦ rw some.is (omega (arith, rest))
      ]

  module _ (entry : ℕ) (s0 t0 : State) (alike : AreRunsAlike g entry s0 t0)
      (few : TakesFewSteps g entry s0 t0) where
    moments : (n : ℕ) (untouched : IsUntouched (pages_of g.notes) s0 n)
        → (alike.answered n untouched).moment ≤ 64 + 128 * n
    moments zero untouched =
        let first = alike.answered 0 untouched in
        omega (arith, few.soon untouched first.moment first.first)
    moments (suc n) untouched =
        let earlier = fewer g.notes s0 n (suc n) (omega arith) untouched in
        let a = alike.answered n earlier in
        let b = alike.answered (suc n) untouched in
        omega (
          arith,
          moments n earlier,
          few.bounded n untouched a.moment b.moment a.first b.first,
          (step_few g.text g.graph entry s0 n).few,
          few_operations (gone_in g.text g.graph entry s0 n),
        )

pub profiles_end_soon : ProfilesEndSoon
profiles_end_soon version g entry s0 t0 n are alike few ended untouched = elim (over_or_not (run s0 n).ending) [
  | inl live ↦ absurd (ended live)
  | inr over ↦
      let a = alike.answered n untouched in
      let ends = ending g.notes s0 t0 n a.moment (run s0 n).ending over.0 over.1 a.first.holds.matches in
      let same : (run t0 a.moment).ending ≡ Some over.0 = ends.ending ∙ over.1 in
      record {
        steps = a.moment;
        few = moments version g are entry s0 t0 alike few n untouched;
        ended = λ none. absurd (cc);
      }
]
