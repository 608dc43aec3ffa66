-- The bytes of the stack, part after part.
use Rattle.v8_process.proofs.Common.{◌≡◌, ℕ, ◌+◌, ◌-◌, List, ◌++◌, length, replicate, append_assoc, arith, w32, to_be_bytes, flat_map, strings, stack_start, stack_end, strings_address, argument_words, argument_size, words_address, stack_region}
use Rattle.v8_process.specs.declared.stack.Layout.{Layout}

-- where the parts stand
pub record IsLaidOut (all : List (List ℕ)) (at : Layout) : Type 0 where
  pub words : at.words ≡ words_address all
  pub words_end : at.words_end ≡ words_address all + argument_size all
  pub first : at.strings ≡ strings_address all
  pub last : at.strings_end ≡ strings_address all + length (strings all)

minus_sum : (n a b : ℕ) → n - (a + b) ≡ n - a - b
minus_sum n a b = omega arith

-- words and strings, with so many zeros around them
abbrev pub among_zeros : (words all : List ℕ) (below between above : ℕ) → List ℕ
among_zeros words all below between above =
    replicate below 0 ++ words ++ replicate between 0 ++ all ++ replicate above 0

pub parts : (all : List (List ℕ)) (at : Layout) → IsLaidOut all at
    → among_zeros (flat_map (to_be_bytes w32) (argument_words all)) (strings all)
    (at.words - stack_start) (at.strings - at.words_end) (stack_end - at.strings_end)
    ≡ (stack_region all).bytes
parts all at is =
    rw (is.words, is.first, is.words_end, is.last, minus_sum stack_end (strings_address all) (length (strings all)))
    (simp append_assoc)
