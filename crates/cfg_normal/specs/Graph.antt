-- The flow graph of a text: its blocks as nodes, landed copies of those about an open switch, and X for all that lies
-- outside.
use Rattle.std.specs.Prelude.{ℕ, ◌+◌, Bool, true, false, not, ◌||◌, ◌&&◌, ◌==◌, nat_lt, if◌then◌else◌, List, [], ◌∷◌, ◌++◌, length, map, Option, Some, None}
use Rattle.std.specs.List.{filter, flat_map, list_any}
use Rattle.cfg_blocks.specs.declared.BlockEnd.{BlockEnd}
use Rattle.cfg_blocks.specs.declared.BlockEnd.TheVariants as ends
use Rattle.cfg_blocks.specs.declared.EdgeKind.{EdgeKind}
use Rattle.cfg_blocks.specs.declared.EdgeKind.TheVariants as kinds
use Rattle.cfg_blocks.specs.Ends.{Way, always}
use Rattle.cfg_blocks.specs.Blocks.{Blocks, below, end_of, holding_of, last_word}
use Rattle.cfg_blocks.specs.Entries.{ways_from}
use Rattle.cfg_blocks.specs.Switches.{is_taken}
use Rattle.cfg_normal.specs.declared.Edge.{Edge}
use Rattle.cfg_normal.specs.declared.Node.{Node}
use Rattle.cfg_normal.specs.declared.Node.TheVariants.{Block, Landed, X}
use Rattle.cfg_normal.specs.declared.Slot.{Slot}
use Rattle.cfg_normal.specs.declared.Slot.TheVariants.{Nothing, Word, Off}
use Rattle.cfg_normal.specs.Nodes.{same_kind, same_node}
use Rattle.cfg_normal.specs.Opens.{Open, is_behind, is_copied, jumps_in, targets_in}

-- the block that holds a word, or X where the text has no such word
abbrev pub node_of : Blocks → Option ℕ → Node
node_of b None = X
node_of b (Some word) = if nat_lt word b.words then Block (record { 0 = holding_of b word }) else X

-- the node at which control lands that comes to a word from outside
abbrev pub lands_of : Blocks → List Open → Option ℕ → Node
lands_of b opens None = X
lands_of b opens (Some word) =
    if nat_lt word b.words then (
    let block = holding_of b word in
    if jumps_in opens block || is_behind opens block word
    then Landed (record { 0 = block }) else Block (record { 0 = block })) else X

-- ---- delay slots

-- A transfer runs its slot on each edge, but an annulled branch only where it is taken on a condition: `ba,a`
-- never does.
abbrev pub runs_slot : BlockEnd → EdgeKind → Bool
runs_slot ends.Fall kind = false
runs_slot (ends.Branch cond annul target) kind = not annul || (is_taken kind && not (cond == always))
runs_slot (ends.Call target) kind = true
runs_slot ends.Jump kind = true

-- the slot of the word that stands there: the word after it, if the text has that
abbrev pub slot_behind : ℕ → ℕ → Slot
slot_behind words word = if nat_lt (word + 1) words then Word (record { 0 = word + 1 }) else Off

abbrev pub slot_on : Blocks → ℕ → EdgeKind → Slot
slot_on b block kind =
    if runs_slot (end_of b block) kind
    then slot_behind b.words (last_word b.firsts b.words block) else Nothing

-- ---- edges

-- the edge comes from the comparison's block itself of an open switch of the block, by the way that leads to the jump
abbrev pub is_compared : List Open → Node → EdgeKind → ℕ → Bool
is_compared opens (Block from) kind to =
    list_any (λ (o : Open). (o.block == to) && (o.switch.compare.0 == from.0) && same_kind kind o.way) opens
is_compared opens _ kind to = false

-- The node to which an edge leads: into the block of an open switch's jump comes only the edge from its comparison, and
-- all others into its landed copy.
abbrev pub directed : List Open → Node → EdgeKind → Node → Node
directed opens from kind (Block to) =
    if jumps_in opens to.0 && not (is_compared opens from kind to.0) then Landed to else Block to
directed opens from kind to = to

-- the edge of a way out of a block, for the block or its landed copy
abbrev pub edge_of : Blocks → List Open → Node → ℕ → Way → Edge
edge_of b opens from block way =
    record {
      from = from;
      to = directed opens from way.kind (node_of b way.to);
      kind = way.kind;
      slot = slot_on b block way.kind;
    }

-- each node once, where it first stands
abbrev pub once_onto : List Node → List Node → List Node
once_onto seen [] = seen
once_onto seen (node ∷ nodes) =
    once_onto (if list_any (same_node node) seen then seen else seen ++ node ∷ []) nodes

-- the nodes to which the jump of an open switch goes, in the order of their first entries
abbrev pub case_nodes : Blocks → List Open → ℕ → List Node
case_nodes b opens block = once_onto [] (map (λ word. lands_of b opens (Some word)) (targets_in opens block))

abbrev pub case_of : Blocks → ℕ → Node → Edge
case_of b block to =
    record { from = Block (record { 0 = block }); to = to; kind = kinds.Case; slot = slot_on b block kinds.Case }

abbrev pub ways_out : Blocks → List Open → Node → ℕ → List Edge
ways_out b opens from block = map (edge_of b opens from block) (ways_from b block)

-- the edges of a block, and of a landed copy
abbrev pub edges_of : Blocks → List Open → ℕ → List Edge
edges_of b opens block =
    if jumps_in opens block then map (case_of b block) (case_nodes b opens block)
    else ways_out b opens (Block (record { 0 = block })) block

abbrev pub copied_edges : Blocks → List Open → ℕ → List Edge
copied_edges b opens block = ways_out b opens (Landed (record { 0 = block })) block

-- a landing from outside
abbrev pub landing_at : Node → Edge
landing_at node = record { from = X; to = node; kind = kinds.Land; slot = Nothing }

-- The nodes of a block at which control can land: of a jump's block the copy alone, of a comparison's block both.
abbrev pub landings_of : List Open → ℕ → List Node
landings_of opens block =
    if jumps_in opens block then Landed (record { 0 = block }) ∷ [] else
    if is_copied opens block then Block (record { 0 = block }) ∷ Landed (record { 0 = block }) ∷ [] else
    Block (record { 0 = block }) ∷ []

-- The edges in the order of their numbers: the blocks' own, by blocks in address order, those of landed copies, and
-- then the landings, by blocks.
unfoldable pub edges_in : Blocks → List Open → List Edge
edges_in b opens =
    flat_map (edges_of b opens) (below (length b.firsts))
    ++ flat_map (copied_edges b opens) (filter (is_copied opens) (below (length b.firsts)))
    ++ map landing_at (flat_map (landings_of opens) (below (length b.firsts)))

-- ---- the graph: the blocks, and the edges between them

pub record Graph : Type 0 where
  pub blocks : Blocks
  pub opens : List Open
  pub edges : List Edge

abbrev pub graph_of : Blocks → List Open → Graph
graph_of b opens = record { blocks = b; opens = opens; edges = edges_in b opens }

abbrev pub lands : Graph → Option ℕ → Node
lands graph word = lands_of graph.blocks graph.opens word

-- a jump leaves the node along Case edges
abbrev pub has_cases : List Open → Node → Bool
has_cases opens (Block block) = jumps_in opens block.0
has_cases opens _ = false
