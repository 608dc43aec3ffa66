-- From one step to whole runs.
use Rattle.two_runs.proofs.Common.{◌≡◌, ℕ, zero, suc, ◌+◌, ◌-◌, ◌<◌, ◌≤◌, Option, Some, None, [], ◌∷◌, ◌++◌, length, refl, ap, sym, ◌∙◌, subst, arith, inl, inr, length-append, append-nil, add-suc, cases_lt, Notes, Ending, State, step_of, run, run_puts, visit_of, trail_of, own_trail, as_list, if_live, stays_ended, puts_nothing}
use Rattle.two_runs.specs.TwoRuns.{GoesOn, Ends, MatchesBy, Answers, IsLeast, IsBounded}
use Rattle.two_runs.specs.Follows.{IsQuiet, IsFollowed, RunsFollow}

-- ---- a run that has ended stays as it is

still_ended : (t0 : State) (m k : ℕ) (d : Ending) → (run t0 m).ending ≡ Some d → (run t0 (m + k)).ending ≡ Some d
still_ended t0 m zero d e = let s : m + 0 ≡ m = omega arith in ap (λ n. (run t0 n).ending) s ∙ e
still_ended t0 m (suc k) d e =
    let before = still_ended t0 m k d e in rw (add-suc m k, stays_ended (run t0 (m + k)) d before) before

ended_later : (t0 : State) (m k : ℕ) (d : Ending) → m ≤ k → (run t0 m).ending ≡ Some d → (run t0 k).ending ≡ Some d
ended_later t0 m k d l e =
    let s : k ≡ m + (k - m) = omega arith in ap (λ n. (run t0 n).ending) s ∙ still_ended t0 m (k - m) d e

-- a visit is of a run that goes on
visit_lives : (notes : Notes) (t : State) (pc : ℕ) → visit_of notes t ≡ Some pc → (d : Ending) → t.ending ≡ Some d → ⊥
visit_lives notes t pc v d e = cc (rw e at v)

-- ---- trails

quiet_trail : (notes : Notes) (t0 : State) (m k : ℕ) → IsQuiet notes t0 m (m + k)
    → trail_of notes t0 (m + k) ≡ trail_of notes t0 m
quiet_trail notes t0 m zero q = let e : m + 0 ≡ m = omega arith in ap (trail_of notes t0) e
quiet_trail notes t0 m (suc k) q =
    rw (add-suc m k, (q (m + k) (omega arith) (omega arith)).1, append-nil (trail_of notes t0 (m + k)))
    (quiet_trail notes t0 m k (λ j a b. q j a (omega arith)))

quiet_between : (notes : Notes) (t0 : State) (m k : ℕ) → m ≤ k → IsQuiet notes t0 m k
    → trail_of notes t0 k ≡ trail_of notes t0 m
quiet_between notes t0 m k l q =
    let e : k ≡ m + (k - m) = omega arith in
    ap (trail_of notes t0) e
    ∙ quiet_trail notes t0 m (k - m) (subst (λ (x : ℕ). IsQuiet notes t0 m x) e q)

longer : (notes : Notes) (t0 : State) (m k : ℕ)
    → length (trail_of notes t0 m) ≤ length (trail_of notes t0 (m + k))
longer notes t0 m zero = let e : m + 0 ≡ m = omega arith in rw e (omega arith)
longer notes t0 m (suc k) =
    let h = longer notes t0 m k in
    rw add-suc
    (let g = length-append (trail_of notes t0 (m + k)) (as_list (visit_of notes (run t0 (m + k)))) in omega arith)

-- a visit's trail isn't that of a later moment
no_earlier : (notes : Notes) (t0 : State) (a b pc : ℕ) → visit_of notes (run t0 a) ≡ Some pc
    → trail_of notes t0 a ≡ trail_of notes t0 b → a < b → ⊥
no_earlier notes t0 a b pc v e l =
    let k : b ≡ suc a + (b - suc a) = omega arith in
    let g : length (trail_of notes t0 (suc a)) ≤ length (trail_of notes t0 b) =
    rw k (longer notes t0 (suc a) (b - suc a)) in
    let f : length (trail_of notes t0 (suc a)) ≡ length (trail_of notes t0 a) + 1 =
    ap (λ x. length (trail_of notes t0 a ++ as_list x)) v ∙ length-append (trail_of notes t0 a) (pc ∷ []) in
    let d : length (trail_of notes t0 a) ≡ length (trail_of notes t0 b) = ap length e in
    omega arith

one_visit : (notes : Notes) (t0 : State) (a b pc : ℕ) → visit_of notes (run t0 a) ≡ Some pc
    → visit_of notes (run t0 b) ≡ Some pc → trail_of notes t0 a ≡ trail_of notes t0 b → a ≡ b
one_visit notes t0 a b pc v w e =
    let c : ¬ (a < b) = no_earlier notes t0 a b pc v e in
    let d : ¬ (b < a) = no_earlier notes t0 b a pc w (sym e) in
    omega arith

-- ---- moments that match

own_more : (s0 : State) (n : ℕ) → (run s0 n).ending ≡ None
    → own_trail s0 (suc n) ≡ own_trail s0 n ++ (run s0 n).pc ∷ []
own_more s0 n e = ap (λ x. own_trail s0 n ++ as_list (if_live x (Some (run s0 n).pc))) e

own_stays : (s0 : State) (n : ℕ) (d : Ending) → (run s0 n).ending ≡ Some d
    → own_trail s0 (suc n) ≡ own_trail s0 n
own_stays s0 n d e = rw (e, append-nil (own_trail s0 n))

pub going : (notes : Notes) (s0 t0 : State) (n m : ℕ) (x : Option Ending) → x ≡ None
    → MatchesBy x notes s0 t0 n m → GoesOn notes s0 t0 n m
going notes s0 t0 n m x live h = rw live at h

pub ending : (notes : Notes) (s0 t0 : State) (n m : ℕ) (x : Option Ending) (d : Ending) → x ≡ Some d
    → MatchesBy x notes s0 t0 n m → Ends notes s0 t0 n m
ending notes s0 t0 n m x d over h = rw over at h

matched : (notes : Notes) (s0 t0 : State) (n m : ℕ) (x : Option Ending) (d : Ending) → x ≡ Some d
    → Ends notes s0 t0 n m → MatchesBy x notes s0 t0 n m
matched notes s0 t0 n m None d e h = absurd (cc)
matched notes s0 t0 n m (Some c) d e h = h

-- what is over answers for the next step too
ends_still : (notes : Notes) (s0 t0 : State) (n m : ℕ) (d : Ending) → (run s0 n).ending ≡ Some d
    → Ends notes s0 t0 n m → Ends notes s0 t0 (suc n) m
ends_still notes s0 t0 n m d e h =
    let same : step_of (run s0 n) ≡ run s0 n = stays_ended (run s0 n) d e in
    record {
      ending = h.ending ∙ ap (λ (s : State). s.ending) (sym same);
      world = record {
        input = ap (λ (s : State). s.input) same ∙ h.world.input;
        output = λ descriptor.
            ap (λ x. run_puts s0 n descriptor ++ x) (puts_nothing (run s0 n) d descriptor e)
            ∙ append-nil (run_puts s0 n descriptor) ∙ h.world.output descriptor;
        heap_end = rw same h.world.heap_end;
        memory = λ address l. rw same (h.world.memory address l);
      };
    }

answers_still : (notes : Notes) (s0 t0 : State) (n m : ℕ) (d : Ending) → (run s0 n).ending ≡ Some d
    → Answers notes s0 t0 n m → Answers notes s0 t0 (suc n) m
answers_still notes s0 t0 n m d e h =
    let after : (run s0 (suc n)).ending ≡ Some d = ap (λ (s : State). s.ending) (stays_ended (run s0 n) d e) ∙ e in
    record {
      trail = h.trail ∙ sym (own_stays s0 n d e);
      matches = matched notes s0 t0 (suc n) m (run s0 (suc n)).ending d after
          (ends_still notes s0 t0 n m d e (ending notes s0 t0 n m (run s0 n).ending d e h.matches));
    }

module _ (notes : Notes) (s0 t0 : State) (early : ℕ) (limits moments : ℕ → ℕ) (last : ℕ) (f : IsFollowed notes s0 t0 early limits moments last) where
  trail_by : (n : ℕ) (x : Option Ending) → (run s0 n).ending ≡ x → n < last
      → trail_of notes t0 (moments n) ≡ own_trail s0 n
      → trail_of notes t0 (moments (suc n)) ≡ own_trail s0 (suc n)
  trail_by n None e l h =
      let way = f.goes n l e in
      let g = going notes s0 t0 n (moments n) (run s0 n).ending e (f.matches n (omega arith)) in
      quiet_between notes t0 (suc (moments n)) (moments (suc n)) way.forward way.quiet
      ∙ ap (λ x. trail_of notes t0 (moments n) ++ as_list x) g.visit
      ∙ ap (λ x. x ++ (run s0 n).pc ∷ []) h
      ∙ sym (own_more s0 n e)
  trail_by n (Some d) e l h = ap (trail_of notes t0) (f.stays n l d e) ∙ h ∙ sym (own_stays s0 n d e)

  trails : (n : ℕ) → n ≤ last → trail_of notes t0 (moments n) ≡ own_trail s0 n
  trails zero l = quiet_between notes t0 zero (moments zero) (omega arith) f.quiet
  trails (suc n) l = trail_by n (run s0 n).ending refl l (trails n (omega arith))

  answered : (n : ℕ) → n ≤ last → Answers notes s0 t0 n (moments n)
  answered n l = record { trail = trails n l; matches = f.matches n l }

  -- once the original has ended, no earlier moment of the written file has
  ends_next : (n : ℕ) (d : Ending) (k : ℕ) → n < last → (run s0 (suc n)).ending ≡ Some d
      → (run t0 k).ending ≡ Some d → ((run s0 n).ending ≡ Some d → moments n ≤ k) → moments (suc n) ≤ k
  ends_next n d k l e h before = by (run s0 n).ending refl
    where
      by : (x : Option Ending) → (run s0 n).ending ≡ x → moments (suc n) ≤ k
      by (Some c) was =
          let same : (run s0 (suc n)).ending ≡ Some c = ap (λ (s : State). s.ending) (stays_ended (run s0 n) c was) ∙ was in
          let one : Some c ≡ Some d = sym same ∙ e in
          subst (λ m. m ≤ k) (sym (f.stays n l c was)) (before (was ∙ one))
      by None was = elim (cases_lt k (moments (suc n))) [
        | inr more ↦ more
        | inl less ↦ elim (cases_lt (moments n) k) [
          | inl after ↦ absurd (cc (((f.goes n l was).quiet k after less).0, h))
          | inr earlier ↦
              absurd (visit_lives notes (run t0 (moments n)) (run s0 n).pc
              (going notes s0 t0 n (moments n) (run s0 n).ending was (f.matches n (omega arith))).visit d
              (ended_later t0 k (moments n) d earlier h))
        ]
      ]

  ends_at : (n : ℕ) (d : Ending) (k : ℕ) → n ≤ last → (run s0 n).ending ≡ Some d → (run t0 k).ending ≡ Some d
      → moments n ≤ k
  ends_at zero d k l e h = elim (cases_lt k (moments zero)) [
    | inl less ↦ absurd (cc ((f.quiet k (omega arith) less).0, h))
    | inr more ↦ more
  ]
  ends_at (suc n) d k l e h = ends_next n d k l e h (λ was. ends_at n d k (omega arith) was h)

  least_by : (n : ℕ) (x : Option Ending) → (run s0 n).ending ≡ x → n ≤ last → (k : ℕ) → Answers notes s0 t0 n k
      → moments n ≤ k
  least_by n None e l k h =
      let a = going notes s0 t0 n k (run s0 n).ending e h.matches in
      let b = going notes s0 t0 n (moments n) (run s0 n).ending e (f.matches n l) in
      let same : k ≡ moments n =
      one_visit notes t0 k (moments n) (run s0 n).pc a.visit b.visit (h.trail ∙ sym (trails n l)) in
      omega arith
  least_by n (Some d) e l k h =
      ends_at n d k l e ((ending notes s0 t0 n k (run s0 n).ending d e h.matches).ending ∙ e)

  least : (n : ℕ) → n ≤ last → IsLeast (Answers notes s0 t0 n) (moments n)
  least n l = record { holds = answered n l; least = least_by n (run s0 n).ending refl l }

  first : (m : ℕ) → IsLeast (Answers notes s0 t0 zero) m → m ≤ early
  first m h =
      let l : m ≤ moments zero = h.least (moments zero) (answered zero (omega arith)) in
      let b = f.soon in omega arith

  bounded_by : (n : ℕ) (x : Option Ending) → (run s0 n).ending ≡ x → n < last → IsBounded notes s0 t0 n (limits n)
  bounded_by n None e l m k h g =
      let a = going notes s0 t0 n m (run s0 n).ending e h.holds.matches in
      let b = going notes s0 t0 n (moments n) (run s0 n).ending e (f.matches n (omega arith)) in
      let same : m ≡ moments n =
      one_visit notes t0 m (moments n) (run s0 n).pc a.visit b.visit
      (h.holds.trail ∙ sym (trails n (omega arith))) in
      let least : k ≤ moments (suc n) = g.least (moments (suc n)) (answered (suc n) l) in
      let short : moments (suc n) ≤ moments n + limits n = (f.goes n l e).short in
      omega arith
  bounded_by n (Some d) e l m k h g =
      let least : k ≤ m = g.least m (answers_still notes s0 t0 n m d e h.holds) in omega arith

  bounded : (n : ℕ) → n < last → IsBounded notes s0 t0 n (limits n)
  bounded n l = bounded_by n (run s0 n).ending refl l

pub runs_follow : RunsFollow
runs_follow notes s0 t0 early limits moments last f = (
  least notes s0 t0 early limits moments last f,
  first notes s0 t0 early limits moments last f,
  bounded notes s0 t0 early limits moments last f,
)
