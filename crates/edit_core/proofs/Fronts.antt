-- What stands before others only where there are cells.
use Rattle.edit_core.proofs.Common.{◌≡◌, ℕ, zero, suc, ◌<◌, Bool, true, false, ◌&&◌, cond, List, [], ◌∷◌, ◌++◌, map, Option, Some, refl, ap, arith, find, list_any, append-nil, or_left, or_parts, or_right, Each, if_any}

pub any-map : {A B : Type 0} (f : A → B) (count : ℕ) (x : A) (xs : List A)
    → map f (if_any count x ++ xs) ≡ if_any count (f x) ++ map f xs
any-map f zero x xs = refl
any-map f (suc n) x xs = refl

pub by_any : {A : Type 0} (P : List A → Type 0) (count : ℕ) (x : A) (xs : List A) → (count ≡ 0 → P xs)
    → (0 < count → P (x ∷ xs)) → P (if_any count x ++ xs)
by_any P zero x xs none some = none refl
by_any P (suc n) x xs none some = some (omega arith)

pub each_any : {A : Type 0} (P : A → Type 0) (count : ℕ) (x : A) (xs : List A) → (0 < count → P x) → Each P xs
    → Each P (if_any count x ++ xs)
each_any P count x xs here each = by_any (Each P) count x xs (λ _. each) (λ some. (here some, each))

-- one that fails a test isn't found, so that the others are searched
module _ {A : Type 0} (q : A → Bool) (count : ℕ) (x : A) where
  pub past_any : (xs : List A) → (0 < count → q x ≡ false) → find q (if_any count x ++ xs) ≡ find q xs
  past_any xs here = by_any (λ ys. find q ys ≡ find q xs) count x xs (λ _. refl) (λ some. rw (here some) refl)

  pub any_fails : (0 < count → q x ≡ false) → list_any q (if_any count x) ≡ false
  any_fails here =
      rw (append-nil (if_any count x)) at
      (by_any (λ ys. list_any q ys ≡ false) count x [] (λ _. refl) (λ some. rw (here some) refl))

  pub any_past : (xs : List A) → list_any q xs ≡ true → list_any q (if_any count x ++ xs) ≡ true
  any_past xs here = by_any (λ ys. list_any q ys ≡ true) count x xs (λ _. here) (λ _. or_right _ _ here)

  pub any_first : (xs : List A) → 0 < count → q x ≡ true → list_any q (if_any count x ++ xs) ≡ true
  any_first xs some here = by_any (λ ys. list_any q ys ≡ true) count x xs (λ none. absurd (omega arith)) (λ _. or_left _ _ here)

  pub past_fails : (xs : List A) → list_any q (if_any count x ++ xs) ≡ false → list_any q xs ≡ false
  past_fails xs =
      by_any (λ ys. list_any q ys ≡ false → list_any q xs ≡ false) count x xs (λ _ none. none)
      (λ _ none. (or_parts _ _ none).1)

-- nor one that fails the second of two tests
pub passed : {A : Type 0} (b c : Bool) (x : A) (rest : Option A) → c ≡ false → cond (b && c) (Some x) rest ≡ rest
passed true c x rest failed = ap (λ z. cond z (Some x) rest) failed
passed false c x rest failed = refl
