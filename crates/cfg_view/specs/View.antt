-- What an analysis of a program's file sees: its image, routines, blocks, flow graph and switches.
use Rattle.std.specs.Prelude.{ℕ, nat_lt, List, ◌++◌, length, map, filter}
use Rattle.eel_base.specs.CodeText.{Words}
use Rattle.elf32_sparc.specs.Image.{Program, image_of}
use Rattle.routines.specs.declared.Routine.{Routine}
use Rattle.routines.specs.Routines.{routines_of}
use Rattle.cfg_blocks.specs.Entries.{Entered, entered_of}
use Rattle.cfg_blocks.specs.Switches.{switches_of}
use Rattle.cfg_blocks.specs.declared.switches.Switch.{Switch}
use Rattle.cfg_normal.specs.Opens.{opens_of}
use Rattle.cfg_normal.specs.Graph.{Graph, graph_of}

-- a program's image, its routines, its blocks, its flow graph with open switches, and all its switches
pub record Seen : Type 0 where
  pub image : Program
  pub routines : List Routine
  pub blocks : Entered
  pub graph : Graph
  pub switches : List Switch

-- the words at which routines start
abbrev pub starts_of : List Routine → List ℕ
starts_of routines = map (λ routine. routine.start.0) routines

-- the marks that are words of the text
abbrev pub marks_in : Words → List ℕ → List ℕ
marks_in text marks = filter (λ mark. nat_lt mark (length text.words)) marks

-- the words that lead besides those of the text's own transfers
abbrev pub given_in : Program → List ℕ → List ℕ
given_in program marks = starts_of (routines_of program) ++ marks_in program.text marks

-- the flow graph of a text that was cut into blocks, with the open ones of its switches
abbrev pub graph_with : Words → Entered → ℕ → Graph
graph_with text list entry = graph_of list.blocks (opens_of text list (switches_of text list entry))

abbrev pub view_with : Program → List ℕ → Seen
view_with program given = record {
  image = program;
  routines = routines_of program;
  blocks = entered_of program.text given;
  graph = graph_with program.text (entered_of program.text given) program.entry;
  switches = switches_of program.text (entered_of program.text given) program.entry;
}

-- the view of a file, with some words marked
unfoldable pub view_of : List ℕ → List ℕ → Seen
view_of file marks = view_with (image_of file) (given_in (image_of file) marks)
