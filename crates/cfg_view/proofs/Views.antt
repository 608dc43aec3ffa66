-- The view of a program, by its parts.
use Rattle.std.proofs.Common.{◌≡◌, ℕ, List, length, refl}
use Rattle.eel_base.specs.CodeText.{Words}
use Rattle.elf32_sparc.specs.Image.{Program}
use Rattle.routines.specs.declared.Routine.{Routine}
use Rattle.routines.specs.Routines.{routines_of}
use Rattle.cfg_blocks.specs.Blocks.{blocks_of}
use Rattle.cfg_blocks.specs.Entries.{Entered, entered_of}
use Rattle.cfg_blocks.specs.Switches.{switches_of}
use Rattle.cfg_blocks.specs.declared.switches.Switch.{Switch}
use Rattle.cfg_normal.specs.Graph.{Graph}
use Rattle.cfg_view.specs.View.{Seen, graph_with, view_with}

pub view_is : (program : Program) (given : List ℕ)
    (routines : List Routine) (blocks : Entered) (graph : Graph) (switches : List Switch)
    → routines ≡ routines_of program → blocks ≡ entered_of program.text given → graph ≡ graph_with program.text blocks program.entry
    → switches ≡ switches_of program.text blocks program.entry
    → ◌≡◌ {A = Seen}
    (record { image = program; routines = routines; blocks = blocks; graph = graph; switches = switches })
    (view_with program given)
view_is program given routines blocks graph switches of_program of_text of_blocks of_switches =
    rw (of_program, of_blocks, of_switches, of_text) refl

pub words_of : (text : Words) (given : List ℕ) → (entered_of text given).blocks.words ≡ length text.words
unfolding entered_of blocks_of
words_of text given = refl
