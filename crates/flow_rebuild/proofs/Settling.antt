-- The last edge of a tree settles the node that it joined.
use Rattle.flow_rebuild.proofs.Common.{◌≡◌, ℕ, ◌<◌, ◌⊎◌, inl, inr, true, false, List, [], ◌∷◌, ◌++◌, refl, ap, sym, ◌∙◌, arith, ℤ, pos, ◌==◌, if◌then◌else◌, cases_eq, eq-eqb, ne_eqb, or_left, or_right, Graph, IsFlow, NodeSet, IsGraph, only, and_also, crosses, differ, far_end, IsHeaviest, Grows, on, joined_by, true_or_false, differ_same, Ends, ends_of, grows_keeps, excess}
use Rattle.flow_rebuild.proofs.Changed.{with_at, at_other, Moved, carried, moved_on, other_end, balanced_flow}

-- ---- the last edge apart from the others
pub record Last (g : Graph) (w : ℕ → ℕ) (s : NodeSet) (xs : List ℕ) (e : ℕ) (t : NodeSet) : Type 0 where
  pub before : NodeSet
  pub grows : Grows g w s xs before
  pub heaviest : IsHeaviest g w before e
  pub after : t ≡ and_also before (far_end g before e)
  pub joined : joined_by g s (xs ++ e ∷ []) ≡ joined_by g s xs ++ far_end g before e ∷ []

pub last_of : (g : Graph) (w : ℕ → ℕ) (s : NodeSet) (xs : List ℕ) (e : ℕ) (t : NodeSet) → Grows g w s (xs ++ e ∷ []) t → Last g w s xs e t
last_of g w s [] e t h = record { before = s; grows = refl; heaviest = h.0; after = h.1; joined = refl }
last_of g w s (x ∷ xs) e t h =
    let r = last_of g w (and_also s (far_end g s x)) xs e t h.1 in
    record { before = r.before; grows = (h.0, r.grows); heaviest = r.heaviest; after = r.after; joined = ap (λ (ys : List ℕ). far_end g s x ∷ ys) r.joined }

pub taken_inside : (g : Graph) (w : ℕ → ℕ) (es : List ℕ) (s t : NodeSet) (e : ℕ) → Grows g w s es t → on es e ≡ true → crosses g t e ≡ false
taken_inside g w [] s t e h o = absurd (cc)
taken_inside g w (x ∷ xs) s t e h o =
    let d : Ends g s x = ends_of g s x h.0.across in
    let keeps = grows_keeps g w xs (and_also s (far_end g s x)) t h.1 in
    let here : crosses g t x ≡ false = differ_same _ _ (keeps (g.from x) d.from_in) (keeps (g.to x) d.to_in) in
    elim (cases_eq e x) [ inl c ↦ rw c here | inr c ↦ taken_inside g w xs (and_also s (far_end g s x)) t e h.1 (rw (ne_eqb e x c) at o) ]

-- ---- the step
-- e crosses from s, and v is its end outside
pub moved : (g : Graph) (s : NodeSet) (a b : ℕ) (x : ℕ → ℤ) (e v : ℕ) → e < g.edges → crosses g s e ≡ true → v ≡ far_end g s e → x e ≡ pos 0 →
    Moved g a b x (with_at x e (carried g e v (excess g a b x v))) v (other_end g e v) × (s (other_end g e v) ≡ true) × (other_end g e v ≡ v → ⊥)
moved g s a b x e v l c f o = (moved_on g a b x e v l o (ends (g.to e) (g.from e) c f) (λ m. grind arith), inside (g.to e) (g.from e) c f, λ m. apart (g.to e) (g.from e) c f m)
  where
    ends : (t u : ℕ) → differ (s u) (s t) ≡ true → v ≡ (if s u then t else u) → (t ≡ v) ⊎ (u ≡ v)
    ends t u c f = grind arith

    inside : (t u : ℕ) → differ (s u) (s t) ≡ true → v ≡ (if s u then t else u) → s (if t == v then u else t) ≡ true
    inside t u c f = grind arith

    apart : (t u : ℕ) → differ (s u) (s t) ≡ true → v ≡ (if s u then t else u) → (if t == v then u else t) ≡ v → ⊥
    apart t u c f m = grind arith

-- ---- x is settled outside t: the edges xs grow to t and carry nothing yet, and no node outside t has an excess
pub record Settled (g : Graph) (w : ℕ → ℕ) (r a b : ℕ) (xs : List ℕ) (x : ℕ → ℤ) : Type 0 where
  pub reached : NodeSet
  pub grows : Grows g w (only r) xs reached
  pub unset : (e : ℕ) → e < g.edges → on xs e ≡ true → x e ≡ pos 0
  pub done : (u : ℕ) → u < g.nodes → reached u ≡ false → excess g a b x u ≡ pos 0

pub on_in_push : (xs : List ℕ) (e i : ℕ) → on xs i ≡ true → on (xs ++ e ∷ []) i ≡ true
on_in_push [] e i h = absurd (cc)
on_in_push (x ∷ xs) e i h = let r = on_in_push xs e i in grind (arith, r)

pub on_pushed : (xs : List ℕ) (e : ℕ) → on (xs ++ e ∷ []) e ≡ true
on_pushed [] e = or_left (e == e) false (eq-eqb e e refl)
on_pushed (x ∷ xs) e = or_right (e == x) _ (on_pushed xs e)

pub settle_last : (g : Graph) (w : ℕ → ℕ) (r a b : ℕ) (xs : List ℕ) (e v : ℕ) (x : ℕ → ℤ) → (t : NodeSet) → (h : Grows g w (only r) (xs ++ e ∷ []) t) → v ≡ far_end g (last_of g w (only r) xs e t h).before e →
    ((i : ℕ) → i < g.edges → on (xs ++ e ∷ []) i ≡ true → x i ≡ pos 0) → ((u : ℕ) → u < g.nodes → t u ≡ false → excess g a b x u ≡ pos 0) →
    Settled g w r a b xs (with_at x e (carried g e v (excess g a b x v)))
settle_last g w r a b xs e v x t h vf unset done = record {
  reached = k.before;
  grows = k.grows;
  unset = λ i l o. at_other x e i _ (λ c. true_or_false (crosses g k.before i) (rw c k.heaviest.across) (taken_inside g w xs (only r) k.before i k.grows o)) ∙ unset i l (on_in_push xs e i o);
  done = λ u l c. elim (cases_eq u v) [
    | inl d ↦ rw d m.0.none_left
    | inr d ↦
        m.0.others u d (λ p. true_or_false (k.before u) (rw p m.1) c)
        ∙ done u l (ap (λ (s : NodeSet). s u) k.after ∙ rw c (ne_eqb u (far_end g k.before e) (λ p. d (p ∙ sym vf))))
  ];
}
  where
    k : Last g w (only r) xs e t
    k = last_of g w (only r) xs e t h

    m : Moved g a b x (with_at x e (carried g e v (excess g a b x v))) v (other_end g e v) × (k.before (other_end g e v) ≡ true) × (other_end g e v ≡ v → ⊥)
    m = moved g k.before a b x e v k.heaviest.inside k.heaviest.across vf (unset e k.heaviest.inside (on_pushed xs e))

-- at the end it is a flow
pub settled_flow : (g : Graph) (w : ℕ → ℕ) (r a b : ℕ) (x : ℕ → ℤ) → IsGraph g → a < g.nodes → b < g.nodes → Settled g w r a b [] x → IsFlow g a b x
settled_flow g w r a b x ok la lb h = balanced_flow g a b r x ok la lb (λ v l c. h.done v l (ap (λ (s : NodeSet). s v) h.grows ∙ ne_eqb v r c))
