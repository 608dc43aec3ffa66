-- What only contracts of private functions and models cite.
use Rattle.std.specs.Prelude.{List, length, map, ℕ, slice_index_or, Bool, false, ◌==◌, ◌||◌}
use Rattle.std.specs.List.{list_any}
use Rattle.eel_base.specs.CodeText.{Words}
use Rattle.eel_base.specs.declared.numbers.WordNo.{WordNo}
use Rattle.cfg_blocks.specs.declared.BlockEnd.{BlockEnd}
use Rattle.cfg_blocks.specs.Ends.{end_at}
use Rattle.cfg_blocks.specs.Blocks.{below, follows_transfer, last_word, leads}
use Rattle.cfg_blocks.specs.declared.BlockEnd.TheVariants.{Fall}

-- how control leaves each word of a text
unfoldable pub word_ends : Words → List BlockEnd
word_ends text = map (end_at text) (below (length text.words))

abbrev pub end_in : List BlockEnd → ℕ → BlockEnd
end_in ends word = slice_index_or ends word Fall

-- how control leaves a block
unfoldable pub block_end_in : List BlockEnd → List ℕ → ℕ → BlockEnd
block_end_in ends firsts block = end_in ends (last_word firsts (length ends) block)

-- the word has its mark
abbrev pub marked : List Bool → ℕ → Bool
marked marks word = slice_index_or marks word false

-- the word is one of these
abbrev pub is_in : List WordNo → ℕ → Bool
is_in words word = list_any (λ other. other.0 == word) words

-- the word leads, by a list of how control leaves each word and the marks of those that are given
abbrev pub leads_in : List BlockEnd → List Bool → ℕ → Bool
leads_in ends given = leads (length ends) (end_in ends) (marked given)

-- the same, where the first word and the targets are marked, too
abbrev pub leads_by : List BlockEnd → List Bool → ℕ → Bool
leads_by ends marks word =
    marked marks word || follows_transfer (end_in ends) 1 word || follows_transfer (end_in ends) 2 word
