-- What loops add, turn by turn.
use Rattle.liveness.proofs.Common.{◌≡◌, ℕ, ◌+◌, ◌≤◌, ◌⊎◌, inl, inr, Bool, true, false, List, [], ◌∷◌, ◌++◌, sym, ◌∙◌, arith, Contains, cases_lt, false≢true, Contains-push, Contains-append_left, Contains-push_cases, Link, Adds, Between}

module _ {A : Type 0} where
  -- nothing
  pub adds_none : (Old P : A → Type 0) → ((a : A) → P a → ⊥) → Adds Old Old P
  adds_none Old P never = λ a. (λ h. inl h, λ h. elim h [ inl k ↦ k | inr k ↦ absurd (never a k) ])

  -- one after the other
  pub adds_both : (Old Mid New P Q : A → Type 0) → Adds Old Mid P → Adds Mid New Q → Adds Old New (λ a. P a ⊎ Q a)
  adds_both Old Mid New P Q g h = λ a. (
    λ k. elim ((h a).0 k) [ inl m ↦ elim ((g a).0 m) [ inl n ↦ inl n | inr n ↦ inr (inl n) ] | inr m ↦ inr (inr m) ],
    λ k. (h a).1 (elim k [
      | inl m ↦ inl ((g a).1 (inl m))
      | inr m ↦ elim m [ inl n ↦ inl ((g a).1 (inr n)) | inr n ↦ inr n ]
    ]),
  )

  -- said in another way
  pub adds_as : (Old New P Q : A → Type 0) → Adds Old New P → ((a : A) → P a → Q a) → ((a : A) → Q a → P a)
      → Adds Old New Q
  adds_as Old New P Q g to from = λ a. (
    λ k. elim ((g a).0 k) [ inl m ↦ inl m | inr m ↦ inr (to a m) ],
    λ k. (g a).1 (elim k [ inl m ↦ inl m | inr m ↦ inr (from a m) ]),
  )

  -- the first numbers of some, none yet
  pub adds_first : (Old : A → Type 0) (Q : ℕ → A → Type 0) (first end : ℕ) → end ≤ first
      → Adds Old Old (Between Q first end)
  adds_first Old Q first end none =
      adds_none Old (Between Q first end) (λ a k. let low = k.1 in let high = k.2 in absurd (omega arith))

  -- and one more
  pub adds_next : (Old Mid New : A → Type 0) (Q : ℕ → A → Type 0) (first n : ℕ) → first ≤ n
      → Adds Old Mid (Between Q first n) → Adds Mid New (Q n) → Adds Old New (Between Q first (n + 1))
  adds_next Old Mid New Q first n low g h =
      adds_as Old New (λ a. Between Q first n a ⊎ Q n a) (Between Q first (n + 1))
      (adds_both Old Mid New (Between Q first n) (Q n) g h)
      (λ a k. elim k [ inl m ↦ (m.0, m.1, omega (arith, m.2), m.3) | inr m ↦ (n, low, omega arith, m) ])
      (λ a k. elim (cases_lt k.0 n) [
        | inl less ↦ inl (k.0, k.1, less, k.3)
        | inr more ↦ let same : k.0 ≡ n = omega (arith, k.2) in inr (rw same at k.3)
      ])

  -- as many as there are
  pub adds_all : (Old New : A → Type 0) (Q : ℕ → A → Type 0) (first n end : ℕ) → Adds Old New (Between Q first n)
      → n ≡ end → Adds Old New (Between Q first end)
  adds_all Old New Q first n end g e = rw e at g

  -- what one thing gives, and another if there is that
  pub adds_too : (b : Bool) (Old Mid New P Q : A → Type 0) → Adds Old Mid P → Adds Mid New Q → b ≡ true
      → Adds Old New (λ a. P a ⊎ ((b ≡ true) × Q a))
  adds_too b Old Mid New P Q g h is =
      adds_as Old New (λ a. P a ⊎ Q a) (λ a. P a ⊎ ((b ≡ true) × Q a)) (adds_both Old Mid New P Q g h)
      (λ a k. elim k [ inl m ↦ inl m | inr m ↦ inr (is, m) ]) (λ a k. elim k [ inl m ↦ inl m | inr m ↦ inr m.1 ])

  pub adds_alone : (b : Bool) (Old New P Q : A → Type 0) → Adds Old New P → b ≡ false
      → Adds Old New (λ a. P a ⊎ ((b ≡ true) × Q a))
  adds_alone b Old New P Q g is =
      adds_as Old New P (λ a. P a ⊎ ((b ≡ true) × Q a)) g (λ a k. inl k)
      (λ a k. elim k [ inl m ↦ m | inr m ↦ absurd (false≢true (sym is ∙ m.0)) ])

  -- what is so if something is
  pub adds_if : (b : Bool) (Old New P : A → Type 0) → Adds Old New P → b ≡ true → Adds Old New (λ a. (b ≡ true) × P a)
  adds_if b Old New P g is = adds_as Old New P (λ a. (b ≡ true) × P a) g (λ a k. (is, k)) (λ a k. k.1)

  -- one after the other, from nothing on
  pub adds_on : (None First Second P Q : A → Type 0) → ((a : A) → None a → ⊥) → Adds None First P
      → Adds First Second Q → Adds P Second Q
  adds_on None First Second P Q never f g = λ a. (
    λ k. elim ((g a).0 k) [ inl m ↦ elim ((f a).0 m) [ inl n ↦ absurd (never a n) | inr n ↦ inl n ] | inr m ↦ inr m ],
    λ k. (g a).1 (elim k [ inl m ↦ inl ((f a).1 (inr m)) | inr m ↦ inr m ]),
  )

-- a link more
pub adds_push : (xs ys : List Link) (one : Link) → ys ≡ xs ++ one ∷ []
    → Adds (Contains xs) (Contains ys) (λ l. one ≡ l)
adds_push xs ys one e = rw e (λ l. (
  Contains-push_cases xs one l,
  λ h. elim h [
    | inl k ↦ Contains-append_left xs (one ∷ []) l k
    | inr k ↦ rw (← k) (Contains-push xs one)
  ],
))

-- and one that is known
pub adds_link : (xs ys : List Link) (one link : Link) → ys ≡ xs ++ one ∷ [] → one ≡ link
    → Adds (Contains xs) (Contains ys) (λ l. link ≡ l)
adds_link xs ys one link e is = rw is at (adds_push xs ys one e)
