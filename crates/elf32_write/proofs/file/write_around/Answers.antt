use Rattle.elf32_write.proofs.Common.{◌+◌, length, map, filter, append_assoc, flat_map, flat_map-append, program_headers, segment_seen, added_headers, is_carried, carried_headers, program_header, file_header, delta_in, original_end, sections_at, written}
use Rattle.elf32_write.proofs.Segments.{length-segment_headers}
use Rattle.elf32_write.proofs.file.write_around.Goals as goal

pub returns : goal.returns
unfolding written
returns c =
    let original = c.args.bytes.now in
    let carried = carried_headers (delta_in original) (program_headers original) in
    let added = added_headers (original_end original) (map segment_seen c.args.added.now) in
    let header = file_header original c.args.entry.0 (length (filter is_carried (program_headers original)) + length c.args.added.now) (sections_at original (map segment_seen c.args.added.now) c.args.notes.now) in
    let table = flat_map-append program_header carried added in
    rw (c.in_ok-put_sections.ensures, c.in_ok-extend_from_slice-2.ensures.items, c.in_ok-pad_to-2.ensures)
    (rw (c.in_ok-put_segments.ensures, c.in_ok-extend_from_slice.ensures.items)
    (rw (c.in_ok-pad_to.ensures, c.in_ok-put_locator.ensures, c.in_ok-put_added_headers.ensures, c.in_ok-put_carried_headers.ensures)
    (rw (c.in_ok-put_file_header.ensures, c.in_ok-out.ensures.items, c.count_carried.ensures.count, c.deref-2.ensures.value)
    (rw (c.deref.ensures.value, c.in_ok-headers.ensures.headers, c.of-layout.ensures.delta, c.of-layout.ensures.original_end)
    (rw (c.of-layout.ensures.notes, c.of-layout.ensures.sections, table, length-segment_headers original c.args.added.now)
    (rw (append_assoc header (flat_map program_header carried) (flat_map program_header added))))))))
