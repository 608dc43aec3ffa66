-- A line that is written piece by piece.
use Rattle.std.proofs.Common.{◌≡◌, ℕ, suc, ◌+◌, ◌<◌, List, ◌++◌, append_assoc, refl, length, take, drop, min, Option, ap, sym, ◌∙◌, arith, Bor, get_or, subst, drop-cons}
use Rattle.std.proofs.Math.Seq.{take-append-add}
use Rattle.std.proofs.lemmas.List.{take-append-le, take_min, take-append-drop}
use Rattle.std.proofs.lemmas.Grind.{flat_map-append}
use Rattle.eel_base.specs.Outside.{appended, TookPart}
use Rattle.eel_base.proofs.Parts.{appended-appended}
use Rattle.eel_said.specs.Private.{joined}

-- a first part of b, or all of it where it has fewer than k
take-within : (b c : List ℕ) (k : ℕ) → (m : ℕ) × (take m (b ++ c) ≡ take k b)
take-within b c k = (min k (length b), take-append-le (min k (length b)) b c (omega arith) ∙ take_min k b)

-- a part of b after all of a is a part of a, b and c
pub took-after : (old now new : Option (List ℕ)) (a b c : List ℕ) → now ≡ appended old a → TookPart now new b → TookPart old new (a ++ (b ++ c))
took-after old now new a b c first (k, then) =
    let within : (m : ℕ) × (take m (b ++ c) ≡ take k b) = take-within b c k in (
      length a + within.0,
      then ∙ ap (λ z. appended z (take k b)) first ∙ appended-appended old a (take k b)
          ∙ ap (λ z. appended old (a ++ z)) (sym within.1) ∙ ap (appended old) (sym (take-append-add a (b ++ c) within.0)),
    )

-- a part of the piece at i, after all before it, is a part of all pieces
pub took-piece : (old now new : Option (List ℕ)) (pieces : List (Bor (List ℕ))) (i : ℕ) (d : Bor (List ℕ)) → i < length pieces → now ≡ appended old (joined (take i pieces)) → TookPart now new (get_or pieces i d).now → TookPart old new (joined pieces)
took-piece old now new pieces i d fits first part =
    subst (TookPart old new) (sym (split pieces i d fits)) (took-after old now new (joined (take i pieces)) (get_or pieces i d).now (joined (drop (suc i) pieces)) first part)
  where
    split : (pieces : List (Bor (List ℕ))) (i : ℕ) (d : Bor (List ℕ)) → i < length pieces → joined pieces ≡ joined (take i pieces) ++ ((get_or pieces i d).now ++ joined (drop (suc i) pieces))
    split pieces i d fits =
        ap joined (sym (take-append-drop i pieces)) ∙ flat_map-append (λ (p : Bor (List ℕ)). p.now) (take i pieces) (drop i pieces)
        ∙ ap (λ z. joined (take i pieces) ++ joined z) (drop-cons pieces i d fits)

-- a line about a name, with a number, and the pieces by which it is written
pub one_number : (start name colon before one after end : List ℕ)
    → start ++ (((name ++ colon) ++ ((before ++ one) ++ after)) ++ end)
    ≡ start ++ (name ++ (colon ++ (before ++ (one ++ (after ++ end)))))
one_number start name colon before one after end = simp append_assoc refl

-- and with two
pub two_numbers : (start name colon before one between other after end : List ℕ)
    → start ++ (((name ++ colon) ++ ((((before ++ one) ++ between) ++ other) ++ after)) ++ end)
    ≡ start ++ (name ++ (colon ++ (before ++ (one ++ (between ++ (other ++ (after ++ end)))))))
two_numbers start name colon before one between other after end = simp append_assoc refl
