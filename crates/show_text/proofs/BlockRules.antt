-- The first words of blocks in notes are words of the text.
use Rattle.show_text.proofs.Common.{◌≡◌, ℕ, ◌<◌, ◌≤◌, true, List, [], ◌∷◌, length, slice_index, Option, Some, None, inl, inr, arith, All, get_or_past}
use Rattle.std.proofs.lemmas.Bool.{and_parts, cases_lt, ltb-true}
use Rattle.std.proofs.lemmas.List.Elements.{All-cons, All-nil}
use Rattle.notes.specs.Rules.{are_blocks}

pub blocks_inside : (words : ℕ) (before : Option ℕ) (blocks : List ℕ) → are_blocks words before blocks ≡ true
    → All (λ first. first < words) blocks
blocks_inside words before [] h = All-nil (λ (first : ℕ). first < words)
blocks_inside words before (first ∷ blocks) h =
    let parts = and_parts _ (are_blocks words (Some first) blocks) h in
    All-cons (λ (first : ℕ). first < words) first blocks (ltb-true first words (and_parts _ _ parts.0).1)
    (blocks_inside words (Some first) blocks parts.1)

-- and so is 0, which is read behind the last of them
pub first_inside : (words : ℕ) (blocks : List ℕ) → 1 ≤ words → are_blocks words None blocks ≡ true → (block : ℕ)
    → slice_index blocks block < words
first_inside words blocks some h block = elim (cases_lt block (length blocks)) [
  | inl less ↦ blocks_inside words None blocks h block 0 less
  | inr more ↦ omega (arith, some, get_or_past blocks block 0 more)
]
