use Rattle.elf32_sparc.proofs.Common.{◌≡◌, ◌+◌, ◌-◌, ◌*◌, ◌++◌, map, headers_from, program_headers, loadable, segment_of}
use Rattle.elf32_sparc.proofs.program.read_segments.Given as goal

abbrev pub invariant-loop-number : goal.invariant-loop-number
invariant-loop-number l =
    l.segments.items ++ map segment_of (loadable (headers_from l.bytes (l.table + 32 * l.number) (l.number-end - l.number)))
    ≡ map segment_of (loadable (program_headers l.bytes))
