use Rattle.elf32_write.proofs.Common.{arith, rules, ◌≡◌, ℕ, ◌+◌, ◌%◌, ◌^◌, List, [], ◌∷◌, ◌++◌, take, drop, common_steps, word_at, words_bytes, moved}
use Rattle.elf32_write.proofs.sections.put_moved.Goals as goal

put_around : (old one two new before after entry : List ℕ) (offset delta : ℕ) → before ≡ take 16 entry → after ≡ drop 20 entry
    → offset ≡ word_at entry 16 → one ≡ old ++ before → two ≡ one ++ words_bytes ((offset + delta) % 2 ^ 32 ∷ [])
    → new ≡ two ++ after → new ≡ old ++ moved delta entry
unfolding words_bytes
put_around old one two new before after entry offset delta first last is begun told done = grind (arith, common_steps)

pub returns : goal.returns
unfolding word_at
returns c =
    put_around c.args.out.now.items _ _ _ _ _ c.args.entry.now _ c.args.delta c.around_offset.ensures.before
    c.around_offset.ensures.after (search rules) c.in_ok-extend_from_slice.ensures.items c.in_ok-put_words.ensures
    c.in_ok-extend_from_slice-2.ensures.items
