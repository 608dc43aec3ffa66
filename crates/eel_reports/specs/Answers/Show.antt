-- `show FILE` prints the routines, blocks, edges and switches of the program FILE.
use Rattle.std.specs.Prelude.{ℕ, List, []}
use Rattle.cfg_view.specs.View.{Seen, view_of}
use Rattle.show_text.specs.Lines.{show_lines}

-- the lines that show a view and its switches
abbrev pub lines_of : Seen → List ℕ
lines_of view = show_lines view view.switches

-- the lines that show a file's program
abbrev pub shown_of : List ℕ → List ℕ
shown_of bytes = lines_of (view_of bytes [])
