-- How often the snippet of each edge stands in new code.
use Rattle.std.specs.Prelude.{ℕ, List, Bool, Some, [], slice_index, if◌then◌else◌}
use Rattle.std.specs.List.{range_with_len, count_by}
use Rattle.cfg_blocks.specs.Blocks.{size_of}
use Rattle.cfg_normal.specs.Opens.{targets_in}
use Rattle.cfg_normal.specs.Graph.{Graph, lands}
use Rattle.cfg_normal.specs.declared.Node.{Node}
use Rattle.cfg_normal.specs.Nodes.{same_node, same_kind}
use Rattle.cfg_normal.specs.declared.Node.TheVariants.{Block, Landed, X}
use Rattle.cfg_blocks.specs.declared.EdgeKind.TheVariants as kinds
use Rattle.cfg_normal.specs.declared.Edge.{Edge}

-- How often the snippet of an edge is made: a landing's once for each word that lands at its node, a Case edge's once
-- for each entry that does, any other once.
abbrev pub is_at : Graph → Node → ℕ → Bool
is_at graph node word = same_node (lands graph (Some word)) node

abbrev pub words_at : Graph → Node → List ℕ
words_at graph (Block block) =
    range_with_len (slice_index graph.blocks.firsts block.0) (size_of graph.blocks block.0)
words_at graph (Landed block) =
    range_with_len (slice_index graph.blocks.firsts block.0) (size_of graph.blocks block.0)
words_at graph X = []

abbrev pub targets_from : Graph → Node → List ℕ
targets_from graph (Block block) = targets_in graph.opens block.0
targets_from graph _ = []

abbrev pub copies_of : Graph → Edge → ℕ
copies_of graph edge =
    if same_kind edge.kind kinds.Land then count_by (is_at graph edge.to) (words_at graph edge.to) else
    if same_kind edge.kind kinds.Case then count_by (is_at graph edge.to) (targets_from graph edge.from) else 1
