-- What contracts of this crate's code and laws cite beyond the statement.
use Rattle.std.specs.Prelude.{◌≡◌, ◌<◌, length}
use Rattle.std.specs.List.{All}
use Rattle.cfg_blocks.specs.Switches.{switches_of}
use Rattle.cfg_normal.specs.Code.{IsTableIn}
use Rattle.routines.specs.Routines.{routines_of}
use Rattle.cfg_view.specs.declared.View.{View}
use Rattle.cfg_view.specs.View.{Seen, graph_with}

-- what the program keeps of it
abbrev pub view_seen : View → Seen
view_seen view = record {
  image = view.image;
  routines = view.routines;
  blocks = view.blocks;
  graph = view.graph;
  switches = view.switches.items;
}

-- What is true of each view: its parts are of one program.
pub record IsView (view : View) : Type 0 where
  pub routines : view.routines ≡ routines_of view.image
  pub words : view.blocks.blocks.words ≡ length view.image.text.words
  pub graph : view.graph ≡ graph_with view.image.text view.blocks view.image.entry
  pub switches : view.switches.items ≡ switches_of view.image.text view.blocks view.image.entry
  pub tables : All (IsTableIn view.image.text) view.switches.items
  pub jumps : All (λ switch. switch.jump.0 < length view.image.text.words) view.switches.items
  pub starts : All (λ routine. routine.start.0 < length view.image.text.words) view.routines
