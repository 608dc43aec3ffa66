-- Which notes are those of a text with each word marked.
use Rattle.std.specs.Prelude.{◌≡◌, ℕ, ◌<◌, List, length, slice_index_or}
use Rattle.notes.specs.Format.{NoteEdge, Notes}
use Rattle.cfg_blocks.specs.Blocks.{holding_of}
use Rattle.cfg_normal.specs.declared.Edge.{Edge}
use Rattle.cfg_normal.specs.Numbers.{node_number, kind_number}
use Rattle.cfg_normal.specs.Graph.{Graph}
use Rattle.cfg_view.specs.View.{Seen}
use Rattle.count_rebuild.specs.Noted.{no_edge as no_noted}
use Rattle.span_tree.specs.Links.{no_edge}
use Rattle.instr_counts.specs.Visits.{AreSingle}

-- notes tell of an edge its kind and its nodes
pub record IsNoted (graph : Graph) (noted : NoteEdge) (edge : Edge) : Type 0 where
  pub kind : noted.kind ≡ kind_number edge.kind
  pub from : noted.from ≡ node_number graph edge.from
  pub to : noted.to ≡ node_number graph edge.to

-- and so of each
pub record AreNoted (graph : Graph) (noted : List NoteEdge) (edges : List Edge) : Type 0 where
  pub count : length noted ≡ length edges
  pub each : (e : ℕ) → e < length edges
      → IsNoted graph (slice_index_or noted e no_noted) (slice_index_or edges e no_edge)

-- Each block has one word, and the notes' text, entry, blocks and edges are those of the view.
pub record Matches (view : Seen) (notes : Notes) : Type 0 where
  pub single : AreSingle view.graph.blocks
  pub start : notes.start ≡ view.image.text.start
  pub words : notes.words ≡ length view.image.text.words
  pub entry : notes.entry ≡ holding_of view.graph.blocks view.image.entry
  pub blocks : notes.blocks ≡ view.graph.blocks.firsts
  pub edges : AreNoted view.graph notes.edges view.graph.edges
