-- What a written file's run tells where it has ended.
use Rattle.std.specs.Prelude.{ℕ, ◌==◌, if◌then◌else◌}
use Rattle.notes.specs.Format.{Notes}
use Rattle.v8_step.specs.State.{State}
use Rattle.v8_step.specs.Run.{run}
use Rattle.snippet_code.specs.Cells.{words_at}
use Rattle.dump_file.specs.Dump.{Dump}

-- the size of the original, which dumps of version 1 don't tell
abbrev pub length_told : Notes → ℕ
length_told notes = if notes.version == 1 then 0 else notes.length

-- What a run has come to after so many steps: the version of the notes, its ending, where it stands, the steps, in version 2
-- the size of the original, and the words at the cells' base.
abbrev pub dump_of : Notes → State → ℕ → Dump
dump_of notes t steps = record {
  version = notes.version;
  ending = t.ending;
  pc = t.pc;
  steps = steps;
  length = length_told notes;
  cells = words_at notes.base notes.cells t.memory;
}

abbrev pub dump_at : Notes → State → ℕ → Dump
dump_at notes t0 m = dump_of notes (run t0 m) m
