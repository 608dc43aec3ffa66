-- How control comes into a block.
use Rattle.std.specs.Prelude.{ℕ, Bool, true, false, not, ◌&&◌, ◌==◌, List, [], ◌∷◌, length, map, filter, slice_index, Option, Some, None}
use Rattle.std.specs.List.{flat_map}
use Rattle.eel_base.specs.CodeText.{Words}
use Rattle.cfg_blocks.specs.declared.BlockEnd.{BlockEnd}
use Rattle.cfg_blocks.specs.declared.EdgeKind.{EdgeKind}
use Rattle.cfg_blocks.specs.declared.EdgeKind.TheVariants as kinds
use Rattle.cfg_blocks.specs.declared.Into.{Into}
use Rattle.cfg_blocks.specs.declared.Into.TheVariants.{Nothing, One, More}
use Rattle.cfg_blocks.specs.Ends.{Way, end_at, ways_of}
use Rattle.cfg_blocks.specs.Blocks.{Blocks, below, blocks_of, end_of, last_word, size_of, follows_transfer, is_among}

-- an edge into a block: the block that it leaves, and its kind
pub record Entry : Type 0 where
  pub from : ℕ
  pub kind : EdgeKind

-- the edges of a block that lead to a word
abbrev pub leads_to : ℕ → Option ℕ → Bool
leads_to word None = false
leads_to word (Some to) = to == word

-- the ways out of a block
abbrev pub ways_from : Blocks → ℕ → List Way
ways_from b block = ways_of b.words (last_word b.firsts b.words block) (end_of b block)

abbrev pub entries_from : Blocks → ℕ → ℕ → List Entry
entries_from b word block =
    map (λ way. record { from = block; kind = way.kind })
    (filter (λ way. leads_to word way.to) (ways_from b block))

abbrev pub is_fall : EdgeKind → Bool
is_fall kinds.Fall = true
is_fall _ = false

-- all edges that lead to a block, but for those from outside (Land)
abbrev pub all_entries : Blocks → ℕ → List Entry
all_entries b block = flat_map (entries_from b (slice_index b.firsts block)) (below (length b.firsts))

abbrev pub is_empty : List Entry → Bool
is_empty [] = true
is_empty (entry ∷ entries) = false

-- a block of one word after a transfer, which is not given
abbrev pub is_slot : (ℕ → BlockEnd) → (ℕ → Bool) → Blocks → ℕ → Bool
is_slot end given b block =
    (size_of b block == 1) && follows_transfer end 1 (slice_index b.firsts block)
    && not (given (slice_index b.firsts block))

-- A block that is only a delay slot: such a block, to which no edge leads. Its way on is taken only after a landing
-- there.
abbrev pub is_bare_slot : (ℕ → BlockEnd) → (ℕ → Bool) → Blocks → ℕ → Bool
is_bare_slot end given b block =
    is_slot end given b block && is_empty (all_entries b block)

abbrev pub is_counted : (ℕ → BlockEnd) → (ℕ → Bool) → Blocks → Entry → Bool
is_counted end given b entry = not (is_fall entry.kind && is_bare_slot end given b entry.from)

-- what leads to a block: nothing, one edge, or more
abbrev pub into_by : List Entry → Into
into_by [] = Nothing
into_by (entry ∷ []) = One (record { 0 = entry.from }) entry.kind
into_by (entry ∷ other ∷ entries) = More

unfoldable pub into_of : Words → List ℕ → Blocks → ℕ → Into
into_of text given b block =
    into_by (filter (is_counted (end_at text) (is_among given) b) (all_entries b block))

-- ---- the list of blocks: the blocks, and what leads to each

pub record Entered : Type 0 where
  pub blocks : Blocks
  pub intos : List Into

unfoldable pub entered_of : Words → List ℕ → Entered
entered_of text given =
    let b = blocks_of text given in
    record { blocks = b; intos = map (into_of text given b) (below (length b.firsts)) }
