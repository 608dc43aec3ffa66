-- Worked orders.
use Rattle.layout.proofs.Common.{List, [], ◌∷◌, ◌≡◌, refl, Item, first_laid, compact_order}
use Rattle.layout.specs.declared.items.Item.TheVariants.{Word, Jump}

-- A word and a Jump to the third piece, and two that jump to the second: the third comes right behind the first.
abbrev three : List (List Item)
three = (Word 1 ∷ Jump (record { 0 = 2 }) ∷ []) ∷ (Word 2 ∷ Jump (record { 0 = 1 }) ∷ []) ∷ (Word 3 ∷ Jump (record {
  0
      = 1;
}) ∷ []) ∷ []

pub three_order : compact_order three ≡ 0 ∷ 2 ∷ 1 ∷ []
unfolding first_laid
three_order = refl

-- A piece that falls into the target of a Jump comes before it.
abbrev falling : List (List Item)
falling = (Jump (record { 0 = 2 }) ∷ []) ∷ (Word 1 ∷ Word 1 ∷ []) ∷ (Word 3 ∷ []) ∷ []

falling_order : compact_order falling ≡ 0 ∷ 1 ∷ 2 ∷ []
unfolding first_laid
falling_order = refl
