-- Each branch is the last word of its block, so that a sum over blocks is one over words.
use Rattle.walk_counts.proofs.Common.{inl, inr, sym, ◌≡◌, ℕ, zero, suc, ◌-◌, ◌<◌, ◌≤◌, Bool, false, cond, length, slice_index, None, add-one, refl, ap, ◌∙◌, subst, arith, cases_lt, false_from_ne_true, Words, count_below, Blocks, block_end, blocks_of, last_word, end_at, is_transfer, IsCut, cut}
use Rattle.flows.proofs.Weights.{weight_same}
use Rattle.cfg_blocks.specs.declared.BlockEnd.{BlockEnd}
use Rattle.cfg_blocks.specs.declared.BlockEnd.TheVariants as ends
use Rattle.cfg_walk.proofs.Holding.{IsIn, Leads, ends_at_next, ends_at_words, is_last, some_words}
use Rattle.span_tree.specs.Weights.{branch_target, is_between, is_in_loop}
use Rattle.walk_counts.specs.Loops.{LoopsAreOfTexts}

-- numbers that don't pass add nothing
quiet_sum : (s : ℕ → Bool) (a n : ℕ) → a ≤ n → ((w : ℕ) → a ≤ w → w < n → s w ≡ false)
    → count_below n s ≡ count_below a s
quiet_sum s a zero l h = let same : a ≡ 0 = omega arith in rw same refl
quiet_sum s a (suc n) l h = elim (cases_lt n a) [
  | inl last ↦ let same : a ≡ suc n = omega arith in rw same refl
  | inr past ↦
      let before = quiet_sum s a n past (λ w l m. h w l (omega (arith, m))) in
      let none = h n past (omega arith) in grind (arith, before, none)
]

no_target : (end : BlockEnd) → is_transfer end ≡ false → branch_target end ≡ None
no_target (ends.Branch cond annul target) h = absurd (cc)
no_target _ h = refl

module _ (text : Words) (b : Blocks) (h : IsCut text b) (word : ℕ) where
  -- the word stands in the loop of a branch
  abbrev about : ℕ → Bool
  about last = is_between last word (branch_target (end_at text last))

  quiet : (w i : ℕ) → IsIn b.words b.firsts w i → suc w < block_end b.firsts b.words i → about w ≡ false
  quiet w i inside more =
      rw (no_target (end_at text w) (false_from_ne_true _ (λ t.
      let last = is_last b.words b.firsts h.firsts w i inside
      (λ l. subst (Leads b.firsts) (add-one w) (h.after w t (omega (arith, l)))) in
      omega (arith, last, more)))) refl

  abbrev last : ℕ → ℕ
  last block = last_word b.firsts b.words block

  -- the words of the first blocks
  to_end : (i : ℕ) → i < length b.firsts
      → count_below (slice_index b.firsts i) about ≡ count_below i (λ block. about (last block))
      → count_below (block_end b.firsts b.words i) about ≡ count_below (suc i) (λ block. about (last block))
  to_end i l before =
      let some = some_words b.words b.firsts h.firsts i l in
      let end : block_end b.firsts b.words i ≡ suc (last i) = omega (arith, some) in
      let inner = quiet_sum about (slice_index b.firsts i) (last i) (omega (arith, some)) (λ w m k.
      quiet w i (record { within = l; above = m; below = omega (arith, k) }) (omega (arith, k))) in
      ap (λ n. count_below n about) end ∙ omega (arith, inner, before)

  to_begin : (i : ℕ) → i < length b.firsts
      → count_below (slice_index b.firsts i) about ≡ count_below i (λ block. about (last block))
  to_begin zero l = rw h.firsts.begin refl
  to_begin (suc i) l =
      let low : i < length b.firsts = omega (arith, l) in
      ap (λ n. count_below n about) (sym (ends_at_next b.words b.firsts h.firsts i l)) ∙ to_end i low (to_begin i low)

  loops_are : count_below (length b.firsts) (is_in_loop b word) ≡ count_below (length text.words) about
  loops_are =
      let some = h.firsts.some in
      let i = length b.firsts - 1 in
      let l : i < length b.firsts = omega (arith, some) in
      let all : suc i ≡ length b.firsts = omega (arith, some) in
      weight_same (length b.firsts) (λ k. 1) (is_in_loop b word) (λ block. about (last block))
      (λ block l. ap (λ (end : BlockEnd). is_between (last block) word (branch_target end)) (h.ends block l))
      ∙ ap (λ n. count_below n (λ block. about (last block))) (sym all) ∙ sym (to_end i l (to_begin i l))
      ∙ ap (λ n. count_below n about) (ends_at_words b.words b.firsts h.firsts i (omega (arith, all)) ∙ h.words)

pub loops_are_of_texts : LoopsAreOfTexts
loops_are_of_texts text given word some = loops_are text (blocks_of text given) (cut text given some) word
