-- What only contracts of private functions and models cite.
use Rattle.std.specs.Prelude.{ℕ, Bool, false, ◌==◌, Option, Some, None, List, slice_index_or, slice_index}
use Rattle.eel_base.specs.declared.numbers.WordNo.{WordNo}
use Rattle.flows.specs.Flows.{weight_below}
use Rattle.cfg_normal.specs.declared.Node.{Node}
use Rattle.cfg_normal.specs.declared.Node.TheVariants.{Block}
use Rattle.cfg_normal.specs.declared.Edge.{Edge}
use Rattle.span_tree.specs.Links.{no_edge}
use Rattle.instr_counts.specs.Visits.{runs_slot}

-- ---- the parts of it, where the block of a word has the word's number

abbrev pub is_block : ℕ → Node → Bool
is_block word (Block block) = block.0 == word
is_block word _ = false

abbrev pub is_word : ℕ → Option WordNo → Bool
is_word word None = false
is_word word (Some other) = other.0 == word

abbrev pub edge_in : List Edge → ℕ → Edge
edge_in edges e = slice_index_or edges e no_edge

-- the counts of the first edges that lead to the word, and of those whose slot it is
abbrev pub along : List Edge → List ℕ → ℕ → ℕ → ℕ
along edges counts n word = weight_below n (slice_index counts) (λ e. is_block word (edge_in edges e).to)

abbrev pub as_slot : List Edge → List ℕ → ℕ → ℕ → ℕ
as_slot edges counts n word = weight_below n (slice_index counts) (λ e. runs_slot word (edge_in edges e))
