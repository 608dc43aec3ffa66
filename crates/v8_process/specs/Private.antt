-- What only contracts of private functions and models cite.
use Rattle.std.specs.Prelude.{ℕ, List, take, drop, ◌-◌}
use Rattle.elf32_sparc.specs.declared.program.Segment.{Segment}
use Rattle.elf32_sparc.specs.Mapping.{Mapping}
use Rattle.v8_process.specs.Start.{stack_start, stack_end}

-- a segment of a file
abbrev pub segment_mapping : List ℕ → Segment → Mapping
segment_mapping file segment = record {
  start = segment.vaddr.0;
  length = segment.memsz;
  flags = segment.flags.0;
  first = take segment.filesz (drop segment.offset file);
}

-- the stack with these bytes, which may be read and written
abbrev pub stack_mapping : List ℕ → Mapping
stack_mapping bytes = record {
  start = stack_start;
  length = stack_end - stack_start;
  flags = 6;
  first = bytes;
}
