-- What holds of each element.
use Rattle.edit_core.proofs.Common.{zero, suc, List, [], ◌∷◌, arith, All, Each}

pub all_each : {A : Type 0} (P : A → Type 0) (xs : List A) → Each P xs → All P xs
all_each P [] each k d l = absurd (omega arith)
all_each P (x ∷ xs) each zero d l = each.0
all_each P (x ∷ xs) each (suc k) d l = all_each P xs each.1 k d (omega arith)

pub each_all : {A : Type 0} (P : A → Type 0) (xs : List A) → All P xs → Each P xs
each_all P [] all = tt
each_all P (x ∷ xs) all = (all zero x (omega arith), each_all P xs (λ k d l. all (suc k) d (omega arith)))
