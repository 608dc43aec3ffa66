use Rattle.elf32_sparc.proofs.Common.{◌≡◌, ◌+◌, ◌*◌, filter_map, range_with_len, func_at, section_bytes}
use Rattle.elf32_sparc.proofs.sections.read_funcs_in.Given as goal

abbrev pub invariant-loop-number : goal.invariant-loop-number
invariant-loop-number l =
    l.funcs.items
    ≡ filter_map (λ number. func_at l.bytes l.text (section_bytes l.bytes l.strings) (l.symbols.sh_offset + 16 * number)) (range_with_len 0 l.number)
