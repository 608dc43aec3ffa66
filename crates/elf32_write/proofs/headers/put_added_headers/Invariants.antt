use Rattle.elf32_write.proofs.Common.{◌≡◌, ◌++◌, map, take, flat_map, segment_seen, segments_end, added_headers, program_header}
use Rattle.elf32_write.proofs.headers.put_added_headers.Given as goal

abbrev pub invariant-loop-segment : goal.invariant-loop-segment
invariant-loop-segment l = record {
  end : l.file_end ≡ segments_end l.fn.end (map segment_seen (take l.segment-index l.added));
  out : l.out.items ≡ l.initial.out.items ++ flat_map program_header (added_headers l.fn.end (map segment_seen (take l.segment-index l.added)));
}
