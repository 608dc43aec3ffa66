-- What sets have after each step of the computation.
use Rattle.liveness.proofs.Common.{◌≡◌, ◌↔◌, ℕ, zero, suc, ◌+◌, ◌<◌, ◌≤◌, ◌⊎◌, inl, inr, true, false, not, ◌&&◌, ◌||◌, List, [], ◌∷◌, ◌++◌, length, length-take, map, take, ap, sym, ◌∙◌, arith, cases_lt, false≢true, or_cases, or_left, or_right, get_or-take, get_or_append_left, get_or_push, Part, every_part, has, members, minus, Sets, at, AreFirsts, Graph, is_copied, Landed, HoldsIn, Adds, AreJoined, Between, In, LivesInCopy, nodes_from, place_of}
use Rattle.v8_decode.proofs.Members.{has-every_part, members-same}
use Rattle.liveness.proofs.Held.{same_number}
use Rattle.liveness.proofs.Spots.{place_behind, place_within}

-- everything but a set
pub everything_less : (s : List Part) → minus every_part s ≡ members (λ x. not (has s x))
everything_less s =
    members-same (λ x. has every_part x && not (has s x)) (λ x. not (has s x))
    (λ x h. ap (λ b. b && not (has s x)) (has-every_part x ∙ h))

-- the union of two sets
pub adds_union : (live more grown : List Part) (Q : Part → Type 0)
    → ((x : Part) → has grown x ≡ (has live x || has more x)) → ((x : Part) → (has more x ≡ true) ↔ Q x)
    → Adds {A = Part} (λ x. has live x ≡ true) (λ x. has grown x ≡ true) Q
adds_union live more grown Q union is = λ x. (
  λ k. elim (or_cases _ _ (sym (union x) ∙ k)) [ inl m ↦ inl m | inr m ↦ inr ((is x).0 m) ],
  λ k. union x ∙ elim k [ inl m ↦ or_left _ _ m | inr m ↦ or_right _ _ ((is x).1 m) ],
)

-- that of all, from nothing on
pub union_all : (live : List Part) (Q : ℕ → Part → Type 0) (first n end : ℕ)
    → Adds {A = Part} (λ x. has [] x ≡ true) (λ x. has live x ≡ true) (Between Q first n) → n ≡ end
    → (x : Part) → (has live x ≡ true) ↔ Between Q first end x
union_all live Q first n end g e =
    rw (← e) (λ x. (λ k. elim ((g x).0 k) [ inl m ↦ absurd (false≢true m) | inr m ↦ m ], λ k. (g x).1 (inr k)))

-- one set more
pub pushed : (P : ℕ → List Part → Type 0) (xs : Sets) (y : List Part) (i : ℕ) → length xs ≡ i
    → ((j : ℕ) → j < i → P j (at xs j)) → P i y
    → (j : ℕ) → j < i + 1 → P j (at (xs ++ y ∷ []) j)
pushed P xs y i len below here j l = elim (cases_lt j i) [
  | inl less ↦ rw (get_or_append_left xs (y ∷ []) [] j (omega arith)) (below j less)
  | inr more ↦ let same : j ≡ i = omega arith in rw same (rw (get_or_push xs y [] i len) here)
]

-- sets of nothing
pub none_in : (ns : List ℕ) (p : ℕ) (x : Part) → has (at (map (λ n. []) ns) p) x ≡ true → ⊥
none_in [] p x h = false≢true h
none_in (n ∷ ns) zero x h = false≢true h
none_in (n ∷ ns) (suc p) x h = none_in ns p x h

-- what is live at a word of a block, where there is a copy of that, and where there is none
module _ (graph : Graph) (f : AreFirsts graph.blocks.words graph.blocks.firsts) (sets : Sets) (b w : ℕ)
    (holds : HoldsIn graph b w) where
  -- no other block holds it
  alone : (d : ℕ) → HoldsIn graph d w → d ≡ b
  alone d held = same_number graph.blocks.words graph.blocks.firsts f d b w held.0 holds.0 held.1 held.2 holds.1 holds.2

  pub live_copied : (here copy grown : List Part) → is_copied graph.opens b ≡ true → here ≡ at sets w
      → copy ≡ at sets (place_of graph (Landed (record { 0 = b })) w)
      → ((x : Part) → has grown x ≡ (has here x || has copy x))
      → (x : Part) → (has grown x ≡ true) ↔ (In sets w x ⊎ LivesInCopy graph sets w x)
  live_copied here copy grown copied h c union x = (
    λ k. elim (or_cases _ _ (sym (union x) ∙ k)) [
      | inl m ↦ inl (sym (ap (λ s. has s x) h) ∙ m)
      | inr m ↦ inr (b, copied, holds, sym (ap (λ s. has s x) c) ∙ m)
    ],
    λ k. union x ∙ elim k [
      | inl m ↦ or_left _ _ (ap (λ s. has s x) h ∙ m)
      | inr m ↦ or_right _ _ (ap (λ s. has s x) c ∙ rw (alone m.0 m.2) at m.3)
    ],
  )

  pub live_plain : (here : List Part) → is_copied graph.opens b ≡ false → here ≡ at sets w
      → (x : Part) → (has here x ≡ true) ↔ (In sets w x ⊎ LivesInCopy graph sets w x)
  live_plain here none h x = (
    λ k. inl (sym (ap (λ s. has s x) h) ∙ k),
    λ k. elim k [
      | inl m ↦ ap (λ s. has s x) h ∙ m
      | inr m ↦ absurd (false≢true (sym none ∙ rw (alone m.0 m.2) at m.1))
    ],
  )

-- where no block has a copy, a word's own set has all
pub joined_alone : (graph : Graph) (f : AreFirsts graph.blocks.words graph.blocks.firsts) (sets : Sets)
    → nodes_from graph ≡ graph.blocks.words → nodes_from graph ≤ length sets
    → AreJoined graph sets graph.blocks.words (take graph.blocks.words sets)
joined_alone graph f sets none len = record {
  len = simp length-take (omega arith);
  joined = λ w l x.
      let is : at (take graph.blocks.words sets) w ≡ at sets w = get_or-take graph.blocks.words sets w [] l in (
        λ k. inl (sym (ap (λ s. has s x) is) ∙ k),
        λ k. elim k [
          | inl m ↦ ap (λ s. has s x) is ∙ m
          | inr m ↦
              let low = place_within graph f (Landed (record { 0 = m.0 })) w (m.1, m.2) in
              absurd (omega (arith, low, place_behind graph f m.0 w, none))
        ],
      );
}
