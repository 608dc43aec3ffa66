-- An item that leads past many words can be placed.
use Rattle.std.proofs.Common.{ℕ, zero, suc, ◌^◌, ◌≤◌, false, List, [], ◌∷◌, Some, length, replicate, slice_get, arith}
use Rattle.std.proofs.lemmas.List.{length-replicate}
use Rattle.std.proofs.lemmas.List.Sums.{sum_by-cons}
use Rattle.layout.specs.declared.items.Item.{Item}
use Rattle.layout.specs.declared.items.Item.TheVariants.{Word}
use Rattle.layout.specs.Laid.{ArePieces, AreMarked, IsMarked, LeadsBelow, item_at}

words_lead : (count word n k : ℕ) → LeadsBelow count (slice_get (replicate n (Word word)) k)
words_lead count word zero k = tt
words_lead count word (suc n) zero = tt
words_lead count word (suc n) (suc k) = words_lead count word n k

words_marked : (word n : ℕ) → AreMarked false (replicate n (Word word))
words_marked word zero = tt
words_marked word (suc n) = words_marked word n

module _ (item : Item) (word : ℕ) where
  abbrev past : ℕ → List (List Item)
  past n = (item ∷ []) ∷ replicate n (Word word) ∷ (Word word ∷ []) ∷ []

  pub can_be_placed : (n : ℕ) → n ≤ 2 ^ 22 → LeadsBelow 3 (Some item) → AreMarked false (item ∷ []) → ArePieces (past n)
  can_be_placed n few leads unmarked = record {
    count = omega arith;
    items =
        let a = sum_by-cons length (item ∷ []) (replicate n (Word word) ∷ (Word word ∷ []) ∷ []) in
        let b = sum_by-cons length (replicate n (Word word)) ((Word word ∷ []) ∷ []) in
        let c = length-replicate n (Word word) in
        omega (arith, a, b, c, few);
    leads = λ k m. all_lead k m;
    marked = λ k. all_marked k;
  }
    where
      all_lead : (k m : ℕ) → LeadsBelow 3 (item_at (past n) k m)
      all_lead zero zero = leads
      all_lead zero (suc m) = tt
      all_lead (suc zero) m = words_lead 3 word n m
      all_lead (suc (suc zero)) zero = tt
      all_lead (suc (suc zero)) (suc m) = tt
      all_lead (suc (suc (suc k))) m = tt

      all_marked : (k : ℕ) → IsMarked (slice_get (past n) k)
      all_marked zero = unmarked
      all_marked (suc zero) = words_marked word n
      all_marked (suc (suc zero)) = tt
      all_marked (suc (suc (suc k))) = tt
