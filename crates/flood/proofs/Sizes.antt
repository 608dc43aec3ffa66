-- A set that gains something is longer.
use Rattle.std.proofs.Common.{◌≡◌, ℕ, ◌+◌, ◌-◌, ◌<◌, ◌≤◌, Bool, true, false, cond, ◌||◌, List, [], ◌∷◌, ◌++◌, length, get_or, set, refl, sym, ap, ◌∙◌, arith, subst, inl, inr, get_or-set_same, get_or-set_other}
use Rattle.std.specs.Prelude.{filter}
use Rattle.std.proofs.lemmas.Bool.{false≢true, or_left}
use Rattle.std.proofs.lemmas.List.{length_push, length-set}
use Rattle.std.proofs.lemmas.List.Sums.{sum_by-set}
use Rattle.v8_decode.specs.declared.Part.{Part}
use Rattle.v8_decode.specs.Parts.{has, every_part, members, set_of}
use Rattle.flood.specs.Flood.{Sets, at}
use Rattle.flood.specs.Private.{fuel, missing, IsGrown}

-- of two tests one of which passes wherever the other does
module _ (p q : Part → Bool) (more : (x : Part) → p x ≡ true → q x ≡ true) where
  pub filter_longer : (xs : List Part)
      → (length (filter p xs) ≤ length (filter q xs))
      × (length (filter q xs) ≤ length (filter p xs) → filter p xs ≡ filter q xs)
  filter_longer [] = (omega arith, λ _. refl)
  filter_longer (x ∷ xs) = by (p x) (q x) (more x) (filter_longer xs)
    where
      by : (a b : Bool) → (a ≡ true → b ≡ true)
          → (length (filter p xs) ≤ length (filter q xs))
          × (length (filter q xs) ≤ length (filter p xs) → filter p xs ≡ filter q xs)
          → (length (cond a (x ∷ filter p xs) (filter p xs)) ≤ length (cond b (x ∷ filter q xs) (filter q xs)))
          × (length (cond b (x ∷ filter q xs) (filter q xs)) ≤ length (cond a (x ∷ filter p xs) (filter p xs)) → cond a (x ∷ filter p xs) (filter p xs) ≡ cond b (x ∷ filter q xs) (filter q xs))
      by true true h rest = let le = rest.0 in (omega arith, λ l. ap (λ ys. x ∷ ys) (rest.1 (omega arith)))
      by true false h rest = absurd (false≢true (h refl))
      by false true h rest = let le = rest.0 in (omega arith, λ l. absurd (omega arith))
      by false false h rest = rest

module _ (s t : List Part) (is_set : set_of s ≡ s) (is_set' : set_of t ≡ t)
    (more : (x : Part) → has s x ≡ true → has t x ≡ true) where
  pub longer : length s ≤ length t
  unfolding members
  longer =
      let le = (filter_longer (has s) (has t) more every_part).0 in omega (arith, ap length is_set, ap length is_set', le)

  pub same_size : length t ≡ length s → s ≡ t
  unfolding members
  same_size e =
      sym is_set ∙ (filter_longer (has s) (has t) more every_part).1
      (omega (arith, ap length is_set, ap length is_set')) ∙ is_set'

-- one set is longer, and its place is on the stack
pub fuel_falls : (sets : Sets) (stack : List ℕ) (place : ℕ) (grown : List Part) → place < length sets
    → length (at sets place) < length grown → length grown ≤ 33
    → fuel (set sets place grown) (stack ++ place ∷ []) ≤ fuel sets stack
fuel_falls sets stack place grown within longer few =
    let total : missing (set sets place grown) + (33 - length (at sets place)) ≡ missing sets + (33 - length grown) =
    sum_by-set (λ s. 33 - length s) sets place grown [] within in
    omega (arith, length_push stack place)

-- a place's set that is joined with another
module _ (sets : Sets) (stack : List ℕ) (place : ℕ) (more had grown : List Part) (within : place < length sets)
    (is : had ≡ get_or sets place []) (union : (x : Part) → has grown x ≡ (has had x || has more x))
    (is_set : set_of had ≡ had) (is_set' : set_of grown ≡ grown) where
  larger : (x : Part) → has had x ≡ true → has grown x ≡ true
  larger x h = union x ∙ or_left _ _ h

  here : (x : Part) → has grown x ≡ (has (at sets place) x || has more x)
  here x = union x ∙ ap (λ s. has s x || has more x) is

  pub grown_same : length grown ≡ length had → IsGrown place more sets stack sets stack
  grown_same e =
      let same : had ≡ grown = same_size had grown is_set is_set' larger e in
      record {
        len = refl;
        others = λ p h. refl;
        here = λ x. ap (λ s. has s x) (sym is ∙ same) ∙ here x;
        stacked = inl (refl, refl);
        falls = omega arith;
      }

  pub grown_more : (length grown ≡ length had → ⊥) → length grown ≤ 33 → (stack' : List ℕ)
      → stack' ≡ stack ++ place ∷ []
      → IsGrown place more sets stack (set sets place grown) stack'
  grown_more ne few stack' e =
      let le : length had ≤ length grown = longer had grown is_set is_set' larger in
      let less : length (at sets place) < length grown = omega (arith, ap length is) in
      record {
        len = length-set sets place grown;
        others = λ p h. get_or-set_other sets place p grown [] h;
        here = λ x. ap (λ s. has s x) (get_or-set_same sets place grown [] within) ∙ here x;
        stacked = inr e;
        falls =
            subst (λ (st : List ℕ). fuel (set sets place grown) st ≤ fuel sets stack) (sym e)
            (fuel_falls sets stack place grown within less few);
      }
