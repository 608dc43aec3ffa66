use Rattle.eel.proofs.Common.{◌≡◌, words_at, vec_len}
use Rattle.eel.proofs.dumps.read_cells.Given as goal

abbrev pub invariant-loop-cell : goal.invariant-loop-cell
invariant-loop-cell l = record {
  cells : l.cells.items ≡ words_at l.fn.base l.cell l.fn.memory;
  size : vec_len l.cells ≡ l.cell;
}
