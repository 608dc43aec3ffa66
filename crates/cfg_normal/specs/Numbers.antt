-- The nodes of a flow graph by numbers, and the kinds of its edges.
use Rattle.std.specs.Prelude.{ℕ, ◌+◌, ◌*◌, Bool, true, nat_lt, if◌then◌else◌, ◌-◌, length}
use Rattle.cfg_blocks.specs.declared.EdgeKind.{EdgeKind}
use Rattle.cfg_blocks.specs.declared.EdgeKind.TheVariants as kinds
use Rattle.cfg_normal.specs.declared.Node.{Node}
use Rattle.cfg_normal.specs.declared.Node.TheVariants.{Block, Landed, X}
use Rattle.cfg_normal.specs.Opens.{is_copied}
use Rattle.cfg_normal.specs.Graph.{Graph}

-- a block has its own number, X the one after the last block's, and then come the landed copies of blocks
abbrev pub node_number : Graph → Node → ℕ
node_number graph (Block block) = block.0
node_number graph X = length graph.blocks.firsts
node_number graph (Landed block) = length graph.blocks.firsts + 1 + block.0

-- how many numbers there are, of which some belong to no node
abbrev pub node_numbers : Graph → ℕ
node_numbers graph = 2 * length graph.blocks.firsts + 1

abbrev pub is_node : Graph → ℕ → Bool
is_node graph number =
    if nat_lt (length graph.blocks.firsts) number
    then is_copied graph.opens (number - (length graph.blocks.firsts + 1)) else true

-- the kinds by their numbers
abbrev pub kind_number : EdgeKind → ℕ
kind_number kinds.Fall = 0
kind_number kinds.Taken = 1
kind_number kinds.Untaken = 2
kind_number kinds.Call = 3
kind_number kinds.Out = 4
kind_number kinds.Land = 5
kind_number kinds.Case = 6
