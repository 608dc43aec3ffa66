use Rattle.std.specs.Prelude.{◌≡◌, ℕ, List, []}
use Rattle.eel_base.specs.CodeText.{Words}
use Rattle.cfg_blocks.specs.Entries.{entered_of}
use Rattle.cfg_view.specs.Code.{view_seen}
use Rattle.cfg_view.specs.View.{Seen, view_of}
use Rattle.tool_kit.specs.declared.edge_ref.ToolKind.TheVariants as tools
use Rattle.image_code.specs.Graphs.{IsGraphOf}
use Rattle.edit_core.proofs.Graphs.{graph_is}
use Rattle.graph_tests.proofs.pieces_tests.three_words_become_eight_pieces.Goals as goal

-- what was seen of a file has its graph
graph_of_view : (bytes : List ℕ) (seen : Seen) (text : Words) → seen ≡ view_of bytes [] → text ≡ seen.image.text
    → IsGraphOf text seen.graph
unfolding view_of entered_of
graph_of_view bytes seen text is same =
    rw (same, is) (graph_is bytes (record { kind = tools.Plain; marks = []; cells = 0; snips = [] }))

pub pieces-made-requires-clause-graph : goal.pieces-made-requires-clause-graph
pieces-made-requires-clause-graph g c =
    graph_of_view _ (view_seen c.in_ok-view.view) _ c.in_ok-view.ensures.view c.text-text.ensures
