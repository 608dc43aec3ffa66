use Rattle.elf32_write.proofs.Common.{◌≡◌, ◌++◌, flat_map, range_with_len, section_copy, section_entry}
use Rattle.elf32_write.proofs.sections.put_sections.Given as goal

abbrev pub invariant-loop-number : goal.invariant-loop-number
invariant-loop-number l =
    l.out.items ≡ l.initial.out.items ++ flat_map (λ number. section_copy l.delta (section_entry l.bytes number)) (range_with_len 0 l.number)
