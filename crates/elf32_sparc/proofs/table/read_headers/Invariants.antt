use Rattle.elf32_sparc.proofs.Common.{◌≡◌, ◌+◌, ◌-◌, ◌*◌, ◌++◌, vec_len, headers_from, program_headers}
use Rattle.elf32_sparc.proofs.table.read_headers.Given as goal

abbrev pub invariant-loop-number : goal.invariant-loop-number
invariant-loop-number l = record {
  read : l.headers.items ++ headers_from l.bytes (l.table + 32 * l.number) (l.count - l.number) ≡ program_headers l.bytes;
  count : vec_len l.headers ≡ l.number;
}
