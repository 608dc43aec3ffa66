-- Each word of a text is held by one block.
use Rattle.liveness.proofs.Common.{◌≡◌, ℕ, suc, ◌+◌, ◌<◌, ◌≤◌, List, length, slice_index, refl, ap, arith, inl, inr, cases_order, lt-ltb, nat_lt, if◌then◌else◌, AreFirsts, block_end}
pub use Rattle.cfg_blocks.proofs.Held.{IsIn, ends_within, is_held, some_block, some_words}
use Rattle.cfg_blocks.proofs.Held.{apart}

-- where a block begins; past the last one, the end of the text
abbrev pub start_of : ℕ → List ℕ → ℕ → ℕ
start_of words firsts i = if nat_lt i (length firsts) then slice_index firsts i else words

pub start_is : (words : ℕ) (firsts : List ℕ) (i : ℕ) → i < length firsts
    → start_of words firsts i ≡ slice_index firsts i
start_is words firsts i l = rw (lt-ltb _ _ l) refl

-- which is where the one before it ends
pub start_after : (words : ℕ) (firsts : List ℕ) (i : ℕ) → start_of words firsts (i + 1) ≡ block_end firsts words i
start_after words firsts i = let next : i + 1 ≡ suc i = omega arith in ap (start_of words firsts) next

module _ (words : ℕ) (firsts : List ℕ) (f : AreFirsts words firsts) where
  -- no two blocks hold a word
  pub same_number : (i j w : ℕ) → i < length firsts → j < length firsts
      → slice_index firsts i ≤ w → w < block_end firsts words i
      → slice_index firsts j ≤ w → w < block_end firsts words j → i ≡ j
  same_number i j w li lj ai bi aj bj = elim (cases_order i j) [
    | inl e ↦ e
    | inr o ↦ elim o [
      | inl less ↦ absurd (omega (arith, apart words firsts f i j less lj))
      | inr more ↦ absurd (omega (arith, apart words firsts f j i more li))
    ]
  ]
