-- The block that holds a word.
use Rattle.cfg_blocks.proofs.Common.{◌≡◌, ℕ, zero, suc, ◌-◌, ◌<◌, ◌≤◌, true, false, nat_le, List, length, slice_index, count_by, arith, inl, inr, IsPartitionPoint, cases_lt, lt-ltb, le-ltb, le-leb, lt-leb, leb-true, leb-false, get_or_default_zero, AreFirsts, block_end}
use Rattle.cfg_blocks.proofs.Counts.{count_at_point, not_down, some_begun}

-- the word stands in the block
pub record IsIn (words : ℕ) (firsts : List ℕ) (word block : ℕ) : Type 0 where
  pub within : block < length firsts
  pub above : slice_index firsts block ≤ word
  pub below : word < block_end firsts words block

module _ (words : ℕ) (firsts : List ℕ) (f : AreFirsts words firsts) where
  pub ordered : (i j : ℕ) → i ≤ j → j < length firsts → slice_index firsts i ≤ slice_index firsts j
  ordered i j = not_down firsts i j f.ascend

  -- the next block begins where this one ends
  pub ends_at_next : (i : ℕ) → suc i < length firsts → block_end firsts words i ≡ slice_index firsts (suc i)
  ends_at_next i l = rw (lt-ltb _ _ l)

  pub ends_at_words : (i : ℕ) → length firsts ≤ suc i → block_end firsts words i ≡ words
  ends_at_words i m = rw (le-ltb _ _ m)

  pub ends_within : (i : ℕ) → i < length firsts → block_end firsts words i ≤ words
  ends_within i h = elim (cases_lt (suc i) (length firsts)) [
    | inl l ↦ omega (arith, ends_at_next i l, f.within (suc i) l)
    | inr m ↦ omega (arith, ends_at_words i m)
  ]

  pub some_words : (i : ℕ) → i < length firsts → slice_index firsts i < block_end firsts words i
  some_words i h = elim (cases_lt (suc i) (length firsts)) [
    | inl l ↦ omega (arith, ends_at_next i l, f.ascend i (suc i) (omega arith) l)
    | inr m ↦ omega (arith, ends_at_words i m, f.within i h)
  ]

  -- a block that begins later begins at the end of this one or after
  pub apart : (i j : ℕ) → i < j → j < length firsts → block_end firsts words i ≤ slice_index firsts j
  apart i j l h = omega (arith, ends_at_next i (omega arith), ordered (suc i) j l h)

  -- the block that holds a word is found by counting
  point : (word i : ℕ) → IsIn words firsts word i
      → IsPartitionPoint (λ first. nat_le first word ≡ true) (λ first. nat_le first word ≡ false) firsts
      (suc i)
  point word i h = (
    λ k d low l.
        rw (get_or_default_zero firsts k d (omega (arith, h.within)))
        (le-leb _ _ (omega (arith, ordered k i (omega arith) h.within, h.above))),
    λ k d low l.
        rw (get_or_default_zero firsts k d l)
        (lt-leb _ _ (omega (arith, apart i k low l, h.below))),
  )

  pub is_held : (word i : ℕ) → IsIn words firsts word i → count_by (λ first. nat_le first word) firsts - 1 ≡ i
  is_held word i h =
      omega (arith, count_at_point (λ first. nat_le first word) firsts (suc i) h.within (point word i h))

  -- so is the place at which a partition answers
  pub held : (word i : ℕ) → word < words → i ≤ length firsts
      → IsPartitionPoint (λ first. nat_le first word ≡ true) (λ first. nat_le first word ≡ false) firsts i
      → IsIn words firsts word (i - 1)
  held word i h bound point =
      let some = some_begun firsts words word i f point in
      record {
        within = omega arith;
        above = leb-true _ _ (point.0 (i - 1) 0 (omega arith) (omega arith));
        below = elim (cases_lt (suc (i - 1)) (length firsts)) [
          | inl l ↦ omega (arith, ends_at_next _ l, leb-false _ _ (point.1 _ 0 (omega arith) l))
          | inr m ↦ omega (arith, ends_at_words _ m)
        ];
      }

  -- and some block holds it
  pub some_block : (word : ℕ) → word < words → (block : ℕ) × IsIn words firsts word block
  some_block zero l = (
    0,
    record {
      within = omega (arith, f.some);
      above = omega (arith, f.begin);
      below = omega (arith, f.begin, some_words 0 (omega (arith, f.some)));
    },
  )
  some_block (suc word) l =
      let before = some_block word (omega arith) in
      let i = before.0 in
      let h = before.1 in
      elim (cases_lt (suc word) (block_end firsts words i)) [
        | inl here ↦ (i, record { within = h.within; above = omega (arith, h.above); below = here })
        | inr past ↦ elim (cases_lt (suc i) (length firsts)) [
          | inl more ↦ (
            suc i,
            record {
              within = more;
              above = omega (arith, ends_at_next i more, h.below);
              below = omega (arith, ends_at_next i more, h.below, some_words (suc i) more);
            },
          )
          | inr last ↦ absurd (omega (arith, ends_at_words i last))
        ]
      ]

  pub in_held : (word : ℕ) → word < words
      → IsIn words firsts word (count_by (λ first. nat_le first word) firsts - 1)
  in_held word l = let h = some_block word l in rw (is_held word h.0 h.1) h.1
