-- What a written file's run tells where it has ended.
use Rattle.exact_counts.proofs.Common.{◌≡◌, ℕ, suc, ◌-◌, inl, inr, length, Some, None, ap, sym, ◌∙◌, arith, cases_lt, Ending, State, run, Edit, visits_by, ending, few_visits, longer, over_or_not, stays, IsAnswered, going, none_over, own_live, quiet_more, visit_more, EndedRunsTell}
use Rattle.cfg_walk.proofs.Walks.{lived_to}

-- two moments at which it has
both_over : (s : State) (m k : ℕ) (d c : Ending) → (run s m).ending ≡ Some d → (run s k).ending ≡ Some c
    → run s m ≡ run s k
both_over s m k d c over ended = elim (cases_lt m k) [
  | inl below ↦ sym (stays s m k d (omega (arith, below)) over)
  | inr above ↦ stays s k m c above ended
]

module _ (g : Edit) (entry : ℕ) (s0 t0 : State) (m : ℕ) (d : Ending)
    (over : (run t0 m).ending ≡ Some d) where
  abbrev v : ℕ
  v = visits_by g.notes t0 m

  -- the original has ended too: else the written file would have a visit more
  has_ended : IsAnswered g entry s0 t0 v → (run s0 v).ending ≡ None → ⊥
  has_ended a live =
      let visit = (going g.notes s0 t0 v a.moment (run s0 v).ending live a.first.holds.matches).visit in
      elim (cases_lt a.moment m) [
        | inl before ↦ omega (
          arith,
          ap length a.first.holds.trail ∙ own_live s0 v live,
          visit_more g.notes t0 a.moment (run s0 v).pc visit,
          longer g.notes t0 (suc a.moment) (suc m) (omega (arith, before)),
        )
        | inr past ↦
            cc (none_over g.notes t0 a.moment d (rw (stays t0 m a.moment d past over) over), visit)
      ]

  -- so both have ended alike
  ends_alike : IsAnswered g entry s0 t0 v → (run s0 v).ending ≡ (run t0 m).ending
  ends_alike a = elim (over_or_not (run s0 v).ending) [
    | inl live ↦ absurd (has_ended a live)
    | inr ended ↦
        let ends = ending g.notes s0 t0 v a.moment (run s0 v).ending ended.0 ended.1 a.first.holds.matches in
        sym ends.ending
        ∙ ap (λ (t : State). t.ending) (sym (both_over t0 m a.moment d ended.0 over (ends.ending ∙ ended.1)))
  ]

pub ended_runs_tell : EndedRunsTell
ended_runs_tell g entry s0 t0 m begins alike h = elim (over_or_not (run t0 m).ending) [
  | inl live ↦ absurd (h.ended live)
  | inr over ↦
      let stop = alike.stops m h.untouched in
      let placed = stop.placed h.ended in
      let told = stop.tells placed in
      record {
        some = stop.some placed;
        few = omega (
          arith,
          few_visits g.notes t0 m,
          ap length (quiet_more g.notes t0 m (none_over g.notes t0 m over.0 over.1)),
        );
        before = λ n below. lived_to s0 n (visits_by g.notes t0 m - 1) (omega (arith, below)) (stop.lives placed);
        ending = ends_alike g entry s0 t0 m over.0 over.1 (alike.answered (visits_by g.notes t0 m) h.untouched);
        cells = told.cells;
        node = told.node;
      }
]
