-- Which edges of a graph are counted: those off a spanning tree that weighs most.
use Rattle.std.specs.Prelude.{◌≡◌, ℕ, List, length, Option}
use Rattle.flows.specs.Flows.{IsLeast, rest, weight_in}
use Rattle.flows.specs.SpanningTrees.{IsSpanningTree}
use Rattle.cfg_normal.specs.Graph.{Graph}
use Rattle.cfg_normal.specs.Numbers.{is_node}
use Rattle.cfg_view.specs.View.{view_of}
use Rattle.span_tree.specs.Cells.{AreNumbered, has_cell}
use Rattle.span_tree.specs.Links.{links_of}
use Rattle.span_tree.specs.Weights.{weights_of}

-- Which edges of a graph are counted, by their numbers: those that are have 0, 1, 2 and so on in edge order, and the others
-- are a spanning tree of all nodes. So the counts of those that are counted determine all counts, and no set of edges whose
-- counts do weighs less, by these weights of the edges.
pub record AreCells (graph : Graph) (weights : List ℕ) (cells : List (Option ℕ)) : Type 0 where
  pub size : length cells ≡ length graph.edges
  pub numbered : AreNumbered cells
  pub spans : IsSpanningTree (links_of graph) (is_node graph) (rest (has_cell cells))
  pub least : IsLeast (links_of graph) (weight_in weights) (has_cell cells)

-- the weights that are guessed, by the loops about each edge
abbrev pub guessed_with : List ℕ → List ℕ → List ℕ
guessed_with bytes marks = let graph = (view_of bytes marks).graph in weights_of graph.blocks graph.edges
