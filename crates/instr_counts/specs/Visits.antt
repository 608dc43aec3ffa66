-- How often the words of a text are visited, by how often the edges of its flow graph are completed, where each word is
-- a block by itself. (Ball and Larus, "Optimally Profiling and Tracing Programs", ACM TOPLAS 16 (4), 1994, take counts
-- of blocks from those of edges; here delay slots are counted too.)
use Rattle.std.specs.Prelude.{◌≡◌, ℕ, ◌+◌, ◌<◌, Bool, false, not, ◌&&◌, ◌==◌, nat_lt, if◌then◌else◌, length, Some}
use Rattle.eel_base.specs.CodeText.{Words, address_of}
use Rattle.flows.specs.Flows.{weight_below}
use Rattle.cfg_blocks.specs.Blocks.{Blocks, holding_of, size_of}
use Rattle.cfg_normal.specs.declared.Edge.{Edge}
use Rattle.cfg_normal.specs.declared.Slot.{Slot}
use Rattle.cfg_normal.specs.declared.Slot.TheVariants as slots
use Rattle.cfg_normal.specs.Nodes.{same_node}
use Rattle.cfg_normal.specs.Graph.{Graph, node_of}
use Rattle.span_tree.specs.Links.{edge_at}

-- each block has one word
abbrev pub AreSingle : Blocks → Type 0
AreSingle b = (block : ℕ) → block < length b.firsts → size_of b block ≡ 1

abbrev pub one_if : Bool → ℕ
one_if holds = if holds then 1 else 0

-- the counts of the edges that pass a test, added up
abbrev pub sum_where : Graph → (ℕ → ℕ) → (Edge → Bool) → ℕ
sum_where graph counts passes = weight_below (length graph.edges) counts (λ e. passes (edge_at graph e))

-- the edge leads to the block of a word
abbrev pub leads_to : Blocks → ℕ → Edge → Bool
leads_to b word edge = same_node edge.to (node_of b (Some word))

abbrev pub is_slot : ℕ → Slot → Bool
is_slot word (slots.Word slot) = slot.0 == word
is_slot word _ = false

-- the word is the slot that is run on the edge
abbrev pub runs_slot : ℕ → Edge → Bool
runs_slot word edge = is_slot word edge.slot

-- Visits by what was completed: a run comes to a word along an edge to its block, or begins there, or runs it as the
-- slot of an edge.
abbrev pub finished : Graph → ℕ → (ℕ → ℕ) → ℕ → ℕ
finished graph entry counts word =
    sum_where graph counts (leads_to graph.blocks word)
    + one_if (holding_of graph.blocks entry == holding_of graph.blocks word)
    + sum_where graph counts (runs_slot word)

-- A run stands at an address, for a visit of a node: that is of the word, and the node is another block. So the word is
-- a slot that was begun, and its edge isn't completed.
abbrev pub is_begun : Words → Blocks → ℕ → ℕ → ℕ → Bool
is_begun text b address node word =
    (address == address_of text word) && (nat_lt node (length b.firsts) && not (node == holding_of b word))
