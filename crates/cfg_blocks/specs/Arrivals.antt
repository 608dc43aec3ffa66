-- What the lists say from which it is told what leads to each block: what leads to each word.
use Rattle.std.specs.Prelude.{ℕ, Bool, true, false, not, ◌&&◌, List, [], ◌∷◌, length, map, filter, slice_index, slice_index_or}
use Rattle.std.specs.List.{flat_map}
use Rattle.cfg_blocks.specs.declared.BlockEnd.{BlockEnd}
use Rattle.cfg_blocks.specs.declared.Into.{Into}
use Rattle.cfg_blocks.specs.declared.Into.TheVariants.{Nothing, One, More}
use Rattle.cfg_blocks.specs.Ends.{Way}
use Rattle.cfg_blocks.specs.Blocks.{Blocks, below}
use Rattle.cfg_blocks.specs.Entries.{Entered, Entry, all_entries, is_empty, is_fall, is_slot, leads_to, ways_from}
use Rattle.cfg_blocks.specs.Private.{block_end_in, end_in, leads_in, marked}

abbrev pub into_at : List Into → ℕ → Into
into_at intos word = slice_index_or intos word Nothing

-- what leads to a word, and one edge or some more
abbrev pub added : Into → Entry → Into
added Nothing entry = One (record { 0 = entry.from }) entry.kind
added _ entry = More

abbrev pub added_all : Into → List Entry → Into
added_all into [] = into
added_all into (entry ∷ entries) = added_all (added into entry) entries

-- of the ways out of a block, the edges that lead to the word; the way on from a bare slot isn't counted
abbrev pub counted : ℕ → Bool → List Way → ℕ → List Entry
counted from is_bare ways word =
    filter (λ entry. not (is_fall entry.kind && is_bare))
    (map (λ way. record { from = from; kind = way.kind }) (filter (λ way. leads_to word way.to) ways))

-- the same, of so many blocks
abbrev pub counted_from : Blocks → (ℕ → Bool) → ℕ → ℕ → List Entry
counted_from b is_bare count word =
    flat_map (λ block. counted block (is_bare block) (ways_from b block) word) (below count)

-- A block that is only a delay slot, to which no edge leads: a list marks the words that are given, and another says what
-- leads to each.
abbrev pub is_nothing : Into → Bool
is_nothing Nothing = true
is_nothing _ = false

abbrev pub is_bare_in : Blocks → List BlockEnd → List Bool → List Into → ℕ → Bool
is_bare_in b word_ends given known block =
    is_slot (end_in word_ends) (marked given) b block && is_nothing (into_at known (slice_index b.firsts block))

abbrev pub is_bare_by : Blocks → List BlockEnd → List Bool → ℕ → Bool
is_bare_by b word_ends given block =
    is_slot (end_in word_ends) (marked given) b block && is_empty (all_entries b block)

-- what leads to the first word of a block
unfoldable pub into_first : List Into → List ℕ → ℕ → Into
into_first intos firsts block = into_at intos (slice_index firsts block)

-- what leads to a block
unfoldable pub into_in : Blocks → List BlockEnd → List Bool → ℕ → Into
into_in b word_ends given block =
    added_all Nothing (counted_from b (is_bare_by b word_ends given) (length b.firsts)
    (slice_index b.firsts block))

-- the list of blocks that is made of how control leaves each word, and of marks
unfoldable pub entered_in : List BlockEnd → List Bool → Entered
entered_in word_ends given =
    let firsts = filter (leads_in word_ends given) (below (length word_ends)) in
    let b : Blocks = record {
      firsts = firsts;
      words = length word_ends;
      ends = map (block_end_in word_ends firsts) (below (length firsts));
    } in
    record { blocks = b; intos = map (into_in b word_ends given) (below (length firsts)) }
