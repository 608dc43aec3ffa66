-- Which of several edges of one weight comes onto the tree first, so that it isn't counted.
use Rattle.std.specs.Prelude.{ℕ, ◌+◌, ◌-◌, ◌*◌, Bool, true, false, ◌&&◌, nat_le, if◌then◌else◌, List, slice_index}
use Rattle.cfg_blocks.specs.declared.BlockEnd.{BlockEnd}
use Rattle.cfg_blocks.specs.declared.BlockEnd.TheVariants as ends
use Rattle.cfg_blocks.specs.declared.EdgeKind.{EdgeKind}
use Rattle.cfg_blocks.specs.declared.EdgeKind.TheVariants as kinds
use Rattle.cfg_blocks.specs.Blocks.{Blocks, end_of}
use Rattle.cfg_normal.specs.declared.Edge.{Edge}
use Rattle.cfg_normal.specs.declared.Node.{Node}
use Rattle.cfg_normal.specs.declared.Node.TheVariants.{Block, Landed, X}
use Rattle.cfg_normal.specs.Graph.{Graph}
use Rattle.span_tree.specs.Links.{edge_at}

abbrev pub is_call : BlockEnd → Bool
is_call (ends.Call target) = true
is_call _ = false

-- a call comes back to the block: one ends the block before that of its slot
abbrev pub follows_call : Blocks → ℕ → Bool
follows_call b block = nat_le 2 block && is_call (end_of b (block - 2))

abbrev pub is_behind_call : Blocks → Node → Bool
is_behind_call b (Block block) = follows_call b block.0
is_behind_call b (Landed block) = follows_call b block.0
is_behind_call b X = false

-- Calls and jumps come first, since all registers live behind them, then landings to which calls come back. The other
-- landings, which runs mostly never take, come last.
abbrev pub tie_by : Blocks → EdgeKind → Node → ℕ
tie_by b kinds.Call to = 3
tie_by b kinds.Out to = 3
tie_by b kinds.Land to = if is_behind_call b to then 2 else 0
tie_by b _ to = 1

abbrev pub tie_of : Blocks → Edge → ℕ
tie_of b edge = tie_by b edge.kind edge.to

-- the rank of an edge: by its weight, at most 2^32, and among equals by its tie, at most 3
abbrev pub rank_of : Graph → List ℕ → ℕ → ℕ
rank_of graph weights e = 4 * slice_index weights e + tie_of graph.blocks (edge_at graph e)
