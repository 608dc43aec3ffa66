-- The basic blocks of a text.
use Rattle.std.specs.Prelude.{ℕ, zero, suc, ◌-◌, Bool, false, ◌||◌, ◌&&◌, ◌==◌, nat_le, nat_lt, if◌then◌else◌, List, [], ◌∷◌, ◌++◌, length, map, filter, slice_index, slice_index_or, Option, Some, None}
use Rattle.std.specs.List.{list_any, count_by}
use Rattle.eel_base.specs.CodeText.{Words}
use Rattle.eel_base.specs.declared.numbers.WordNo.{WordNo}
use Rattle.cfg_blocks.specs.declared.BlockEnd.{BlockEnd}
use Rattle.cfg_blocks.specs.declared.BlockEnd.TheVariants.{Fall}
use Rattle.cfg_blocks.specs.Ends.{end_at, is_transfer, target_in}

-- the numbers below n, in order
abbrev pub below : ℕ → List ℕ
below zero = []
below (suc n) = below n ++ n ∷ []

-- ---- leaders: the words with which a block begins

abbrev pub is_it : ℕ → Option WordNo → Bool
is_it word None = false
is_it word (Some target) = target.0 == word

-- Below, `end` says how control leaves each of `count` words, and `given` which words are given.

-- a branch or CALL leads to the word
abbrev pub is_target : ℕ → (ℕ → BlockEnd) → ℕ → Bool
is_target count end word = list_any (λ other. is_it word (target_in (end other))) (below count)

-- a transfer stands `back` words before
abbrev pub follows_transfer : (ℕ → BlockEnd) → ℕ → ℕ → Bool
follows_transfer end back word = nat_le back word && is_transfer (end (word - back))

-- The first word leads, the words that are given, each target, and the two words after each transfer: its delay
-- slot and the word after that.
abbrev pub leads : ℕ → (ℕ → BlockEnd) → (ℕ → Bool) → ℕ → Bool
leads count end given word =
    (word == 0) || given word || is_target count end word
    || follows_transfer end 1 word || follows_transfer end 2 word

-- the word is one of these
abbrev pub is_among : List ℕ → ℕ → Bool
is_among words word = list_any (λ other. other == word) words

unfoldable pub leaders : Words → List ℕ → List ℕ
leaders text given =
    filter (leads (length text.words) (end_at text) (is_among given)) (below (length text.words))

-- ---- blocks: each runs from a leader to the next, or to the end of the text

pub record Blocks : Type 0 where
  -- the first word of each, in order, and how many words the text has
  pub firsts : List ℕ
  pub words : ℕ
  -- how control leaves the last word of each
  pub ends : List BlockEnd

-- where the block after one begins, or the text ends
abbrev pub block_end : List ℕ → ℕ → ℕ → ℕ
block_end firsts words block =
    if nat_lt (suc block) (length firsts) then slice_index firsts (suc block) else words

abbrev pub last_word : List ℕ → ℕ → ℕ → ℕ
last_word firsts words block = block_end firsts words block - 1

unfoldable pub blocks_of : Words → List ℕ → Blocks
blocks_of text given =
    let firsts = leaders text given in
    let words = length text.words in
    record {
      firsts = firsts;
      words = words;
      ends = map (λ block. end_at text (last_word firsts words block)) (below (length firsts));
    }

-- how control leaves the last word of a block
abbrev pub end_of : Blocks → ℕ → BlockEnd
end_of b block = slice_index_or b.ends block Fall

-- how many words a block has
abbrev pub size_of : Blocks → ℕ → ℕ
size_of b block = block_end b.firsts b.words block - slice_index b.firsts block

-- the block that holds a word: the last that begins at it or before
abbrev pub holding_of : Blocks → ℕ → ℕ
holding_of b word = count_by (λ first. nat_le first word) b.firsts - 1
