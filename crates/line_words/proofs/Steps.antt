-- Steps of a reading, one after the other.
use Rattle.std.proofs.Common.{◌≡◌, Bool, true, false, Option, Some, None, ◌⊎◌, inl, inr, if◌then◌else◌, refl}
use Rattle.std.specs.Option.{option_map}
use Rattle.line_words.specs.Words.{◌>>=◌}

-- what holds of all that a reading may give, by what its first step gave
pub step : {A B : Type 0} (P : B → Type 0) (m : Option A) (f : A → Option B)
    → ((x : A) → m ≡ Some x → (y : B) → f x ≡ Some y → P y) → (y : B) → (m >>= f) ≡ Some y → P y
step P (Some x) f next y h = next x refl y h
step P None f next y h = absurd (cc h)

pub record Mapped {A B : Type 0} (f : A → B) (m : Option A) (y : B) : Type 0 where
  pub got : A
  pub is : m ≡ Some got
  pub same : f got ≡ y

pub mapped : {A B : Type 0} (f : A → B) (m : Option A) (y : B) → option_map f m ≡ Some y → Mapped f m y
mapped f (Some x) y h = record { got = x; is = refl; same = cc h }
mapped f None y h = absurd (cc h)

pub chosen : {A : Type 0} (test : Bool) (x y : Option A) (z : A) → (if test then x else y) ≡ Some z
    → ((test ≡ true) × (x ≡ Some z)) ⊎ ((test ≡ false) × (y ≡ Some z))
chosen true x y z h = inl (refl, h)
chosen false x y z h = inr (refl, h)

-- a test, and then something or nothing
pub tested : {A : Type 0} (test : Bool) (x z : A) → (if test then Some x else None) ≡ Some z → (test ≡ true) × (x ≡ z)
tested true x z h = (refl, cc h)
tested false x z h = absurd (cc h)
