-- Operations, and snippets as the program keeps them.
use Rattle.std.specs.Prelude.{ℕ, ◌+◌, ◌^◌}
use Rattle.snippets.specs.declared.snippet.Op.{Op}
use Rattle.snippets.specs.declared.snippet.Op.TheVariants.{Add, Put, Keep, Top, Count, Log}

-- the first cell that an operation works on
abbrev pub cell_of : Op → ℕ
cell_of (Add cell amount) = cell
cell_of (Put cell value) = cell
cell_of (Keep cell reg) = cell
cell_of (Top cell reg) = cell
cell_of (Count cell) = cell
cell_of (Log cell bits value) = cell

-- how many it works on, one after the other
abbrev pub width_of : Op → ℕ
width_of (Count cell) = 2
width_of (Log cell bits value) = 1 + 2 ^ bits
width_of _ = 1

-- the cell behind the last one
abbrev pub cells_end : Op → ℕ
cells_end op = cell_of op + width_of op
