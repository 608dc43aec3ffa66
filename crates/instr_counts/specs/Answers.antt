-- What is answered of a view, its notes and a dump.
use Rattle.std.specs.Prelude.{◌≡◌, ℕ, ◌+◌, ◌<◌, List, length, slice_index, Option, Some, None}
use Rattle.eel_base.specs.CodeText.{Words}
use Rattle.notes.specs.Format.{NoteRange, Notes, range_at}
use Rattle.dump_file.specs.Dump.{Dump}
use Rattle.cfg_blocks.specs.Blocks.{Blocks}
use Rattle.cfg_view.specs.View.{Seen}
use Rattle.instr_counts.specs.Visits.{finished, is_begun, one_if}

-- 1 where the place is one of the word, for a visit of another block
abbrev pub begun_in : Words → Blocks → Option NoteRange → ℕ → ℕ
begun_in text b None word = 0
begun_in text b (Some range) word = one_if (is_begun text b range.address range.node word)

-- for each word how often it was visited, by the counts of edges and the place where the dump's run stands
pub record AreVisits (view : Seen) (notes : Notes) (dump : Dump) (counts visits : List ℕ) : Type 0 where
  pub len : length visits ≡ length view.image.text.words
  pub each : (word : ℕ) → word < length visits
      → slice_index visits word
      ≡ finished view.graph view.image.entry (slice_index counts) word
      + begun_in view.image.text view.graph.blocks (range_at notes dump.pc) word
