-- Where a transfer of a text leads to a word, the text has that word.
use Rattle.cfg_blocks.proofs.Common.{◌≡◌, ℕ, ◌<◌, ◌==◌, List, length, map, Option, Some, None, IfSome, inl, inr, refl, arith, slice_index, All, cases_lt, cond_both, nat_tests, All-get_or, All-map, Words, address_of, numbered, target_of, word_at, BlockEnd, Fall, TargetsWithin, end_at, end_by, never, below, last_word, block_end_in, end_in, word_ends}
use Rattle.std.proofs.Math.ListN.{get_or-eq_default}
use Rattle.v8_decode.specs.declared.Instr.{Instr}
use Rattle.v8_decode.specs.declared.Instr.TheVariants as i
use Rattle.v8_decode.specs.Words.{decode_of}

abbrev IsWithin : Words → Option ℕ → Type 0
IsWithin text to = IfSome (numbered to) (λ word. word.0 < length text.words)

-- the address of a word that the text has
pub record IsWord (text : Words) (address word : ℕ) : Type 0 where
  pub within : word < length text.words
  pub is : address ≡ address_of text word

pub word_at-some : (text : Words) (address word : ℕ) → word_at text address ≡ Some word
    → IsWord text address word
word_at-some text address word e = record { within = grind (arith, nat_tests); is = grind (arith, nat_tests) }

word_at-within : (text : Words) (address : ℕ) → IsWithin text (word_at text address)
word_at-within text address = by (word_at text address) refl
  where
    by : (o : Option ℕ) → word_at text address ≡ o → IsWithin text o
    by None e = tt
    by (Some word) e = (word_at-some text address word e).within

end_by-within : (text : Words) (word : ℕ) (instr : Instr)
    → TargetsWithin (length text.words) (end_by text word instr)
end_by-within text word (i.Branch cond annul disp22) =
    cond_both (cond == never) None (numbered (target_of text word disp22))
    (λ to. IfSome to (λ other. other.0 < length text.words)) (λ h. tt) (λ h. word_at-within text _)
end_by-within text word (i.Call disp30) = word_at-within text _
end_by-within text word _ = tt

end_at-within : (text : Words) (word : ℕ) → TargetsWithin (length text.words) (end_at text word)
unfolding end_at
end_at-within text word = end_by-within text word (decode_of (slice_index text.words word))

word_ends-within : (text : Words) → All (TargetsWithin (length text.words)) (word_ends text)
unfolding word_ends
word_ends-within text =
    All-map (TargetsWithin (length text.words)) (end_at text) (below (length text.words))
    (λ k d l. end_at-within text _)

end_in-within : (words : ℕ) (ends : List BlockEnd) (word : ℕ) → All (TargetsWithin words) ends
    → TargetsWithin words (end_in ends word)
end_in-within words ends word each = elim (cases_lt word (length ends)) [
  | inl l ↦ All-get_or (TargetsWithin words) ends word Fall l each
  | inr m ↦ rw (get_or-eq_default ends Fall m) tt
]

block_ends-within : (words : ℕ) (ends : List BlockEnd) (firsts blocks : List ℕ)
    → All (TargetsWithin words) ends
    → All (TargetsWithin words) (map (block_end_in ends firsts) blocks)
unfolding block_end_in
block_ends-within words ends firsts blocks each =
    All-map (TargetsWithin words) (block_end_in ends firsts) blocks
    (λ k d l. end_in-within words ends (last_word firsts (length ends) _) each)

-- how control leaves the blocks of a text
pub targets_within : (text : Words) (ends block_ends : List BlockEnd) (firsts blocks : List ℕ)
    → ends ≡ word_ends text → block_ends ≡ map (block_end_in ends firsts) blocks
    → All (TargetsWithin (length text.words)) block_ends
targets_within text ends block_ends firsts blocks are cut =
    rw (cut, are)
    (block_ends-within (length text.words) (word_ends text) firsts blocks (word_ends-within text))
