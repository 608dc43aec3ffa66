-- What only contracts of private functions cite.
use Rattle.std.specs.Prelude.{ℕ, ◌+◌, ◌-◌, List, [], ◌∷◌, ◌++◌, map, Option, Some, None, slice_get, slice_index, take, drop}
use Rattle.std.specs.List.{range_with_len}
use Rattle.cfg_blocks.specs.Blocks.{size_of}
use Rattle.cfg_normal.specs.declared.Node.TheVariants.{Block}
use Rattle.cfg_normal.specs.Graph.{Graph}
use Rattle.layout.specs.declared.items.Item.{Item}
use Rattle.image_code.specs.declared.expansion.Codes.{Codes}
use Rattle.image_code.specs.declared.expansion.CodeSpan.{CodeSpan}
use Rattle.image_code.specs.declared.making.SnippetCode.{SnippetCode}
use Rattle.image_code.specs.declared.maker.PieceMaker.{PieceMaker}
use Rattle.image_code.specs.Labels.{Image, Label, Save}
use Rattle.image_code.specs.Made.{shape_of}
use Rattle.image_code.specs.Shapes.{items_of}

-- the words at a place in a row of words
abbrev pub words_in : List ℕ → Option CodeSpan → List ℕ
words_in words None = []
words_in words (Some span) = take span.count (drop span.start words)

-- the words of an edge, of those that were made for all edges
abbrev pub code_at : Codes → ℕ → List ℕ
code_at codes edge = words_in codes.words.items (slice_get codes.spans.items edge)

-- the words of an edge, where they were made with where the table leads
abbrev pub code_in : SnippetCode → ℕ → List ℕ
code_in code = code_at code.codes

-- ---- the pieces of labels, as they are added

-- what a maker makes of one, and of some
abbrev pub piece_for : PieceMaker → Label → List Item
piece_for maker label =
    items_of (code_at maker.codes.now) (shape_of maker.text.now maker.graph.now maker.table.0 maker.cases.0 label)

abbrev pub pieces_for : PieceMaker → List Label → List (List Item)
pieces_for maker labels = map (piece_for maker) labels

-- the images of some words of a block itself, on both sides of what saves the address of a load
abbrev pub block_labels : Graph → ℕ → ℕ → List Label
block_labels graph block load =
    let first = slice_index graph.blocks.firsts block in
    map (Image (Block (record { 0 = block }))) (range_with_len first (load - first)) ++ Save block load
    ∷ map (Image (Block (record { 0 = block }))) (range_with_len load (first + size_of graph.blocks block - load))
