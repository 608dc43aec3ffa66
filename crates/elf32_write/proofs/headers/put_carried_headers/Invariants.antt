use Rattle.elf32_write.proofs.Common.{◌≡◌, ◌++◌, take, flat_map, carried_headers, program_header}
use Rattle.elf32_write.proofs.headers.put_carried_headers.Given as goal

abbrev pub invariant-loop-header : goal.invariant-loop-header
invariant-loop-header l = l.out.items ≡ l.initial.out.items ++ flat_map program_header (carried_headers l.delta (take l.header-index l.headers))
