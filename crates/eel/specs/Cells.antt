-- Cells in the memory of a running program: that they can be read, whatever it does.
use Rattle.std.specs.Prelude.{ℕ, ◌+◌, ◌*◌, ◌<◌, Bool, ◌&&◌, nat_le}
use Rattle.elf32_sparc.specs.declared.program.Segment.{Segment}
use Rattle.elf32_sparc.specs.Header.{has_flag}
use Rattle.notes.specs.Format.{Notes}
use Rattle.v8_memory.specs.Regions.{Memory}
use Rattle.v8_step.specs.State.{State}
use Rattle.v8_step.specs.Run.{run}
use Rattle.code_runs.specs.Code.{CanLoad}
use Rattle.snippet_code.specs.Cells.{cell_at}

-- cells lie in a segment, with permission to be read
abbrev pub has_cells : ℕ → ℕ → Segment → Bool
has_cells base count segment =
    nat_le segment.vaddr.0 base && nat_le (base + 4 * count) (segment.vaddr.0 + segment.memsz)
    && has_flag 4 segment.flags.0

-- the cells of notes may be read
abbrev pub AreLoadable : Notes → Memory → Type 0
AreLoadable notes m = (k : ℕ) → k < notes.cells → CanLoad m (cell_at notes.base k)

-- and so they may after each step of a run
abbrev pub KeepCells : Notes → State → Type 0
KeepCells notes s0 = (n : ℕ) → AreLoadable notes (run s0 n).memory
