use Rattle.snippets.proofs.Common.{◌≡◌, length, take, map, lines_of, said_of}
use Rattle.snippets.proofs.Held.{Held}
use Rattle.snippets.proofs.reading.read_script.Given as goal

abbrev pub invariant-loop-line : goal.invariant-loop-line
invariant-loop-line l = record {
  count : l.number ≡ length l.yielded;
  held : Held l.edges (take l.number (map said_of (lines_of l.bytes))) l.script.snips.items l.script.cells;
}
