-- What holds of all dumps.
use Rattle.std.specs.Prelude.{◌≡◌, ℕ, ◌<◌, List, Ok}
use Rattle.std.specs.List.{All}
use Rattle.dump_file.specs.Dump.{Dump}
use Rattle.dump_file.specs.Written.{dump_bytes}
use Rattle.dump_file.specs.Reading.{read_dump}
use Rattle.dump_file.specs.Code.{IsDump}

-- What was written reads back.
abbrev pub WrittenDumpsRead : Type 0
WrittenDumpsRead = (dump : Dump) → IsDump dump → read_dump (dump_bytes dump) ≡ Ok dump

-- Nothing else reads: the bytes are those that are written of the dump, whose numbers fit.
abbrev pub ReadDumpsAreWritten : Type 0
ReadDumpsAreWritten = (bytes : List ℕ) (dump : Dump) → All (λ byte. byte < 256) bytes → read_dump bytes ≡ Ok dump
    → (bytes ≡ dump_bytes dump) × IsDump dump
