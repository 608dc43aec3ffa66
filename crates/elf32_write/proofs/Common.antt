-- The names of other crates, and of what this one states, that more than one proof cites, passed on from one place. Declares nothing.
pub use Rattle.std.proofs.Common.{All, Bool, List, None, Some, [], ap, append-nil, append_assoc, arith, cond, drop, false, filter, get_or, inl, inr, length, length-append, length-take, lit<, map, max, nat_eq, nat_le, nat_lt, not, refl, replicate, rules, slice_index, suc, sym, take, true, zero, ℕ, ◌%◌, ◌&&◌, ◌*◌, ◌++◌, ◌+◌, ◌-◌, ◌/◌, ◌<◌, ◌^◌, ◌∙◌, ◌∷◌, ◌≡◌, ◌≤◌, ◌⊎◌, unwrap_or, add-one, ◌||◌}
pub use Rattle.byteorder.specs.Endian.{big_bytes, big_number}
pub use Rattle.byteorder.specs.Numbers.{length-bytes_high_first, big_number-reads_back, big_from-lt, big_from-take}
pub use Rattle.eel_base.specs.Fields.{be_field}
pub use Rattle.elf32_sparc.proofs.Accepted.{NoneHolds, accepted, Accepted, HeaderAccepted}
pub use Rattle.elf32_sparc.proofs.Tables.{whole_header, few_headers, aligned}
pub use Rattle.elf32_sparc.specs.FileFault.{descends_from, is_aligned, leaves_file, first_that_holds, header_rows, load_rows, leaves_room, is_last_page}
unfoldable pub use Rattle.elf32_sparc.specs.FileFault.{has_bytes_outside, load_fault, is_short, has_other_magic, has_other_class, has_other_order, has_other_version, has_other_type, has_other_machine, has_other_sizes, has_bad_table, has_memory_outside, has_memory_outside_a_run, has_disorder, has_misaligned, memory_size}
pub use Rattle.elf32_sparc.specs.Header.{e_phnum, e_phoff, end_of, headers_from, is_loadable, is_text, loadable, ei_version, e_version, ei_magic}
unfoldable pub use Rattle.elf32_sparc.specs.Header.{half_at, program_headers, word_at}
pub use Rattle.elf32_sparc.specs.Image.{segment_end, segment_of, highest_end}
unfoldable pub use Rattle.elf32_sparc.specs.Image.{image_of}
pub use Rattle.elf32_sparc.specs.Mapping.{mapping_of, file_bytes}
unfoldable pub use Rattle.elf32_sparc.specs.Mapping.{mappings}
pub use Rattle.elf32_sparc.specs.Symbols.{e_shoff, section_count, e_shnum, has_sections}
pub use Rattle.elf32_sparc.specs.declared.header.ProgramHeader.{ProgramHeader}
pub use Rattle.elf32_write.specs.Bytes.{next_page, next_word}
unfoldable pub use Rattle.elf32_write.specs.Bytes.{halves_bytes, padded_to}
pub use Rattle.elf32_write.specs.Conditions.{CanWrite, AreNumbers, HasWords, CanLoad, IsInReach, Ascend}
pub use Rattle.elf32_write.specs.Headers.{AddedSegment, added_header, added_headers, carried_headers, carried_on, file_header, is_carried, section_names, segment_seen, segments_end}
unfoldable pub use Rattle.elf32_write.specs.Headers.{program_header}
pub use Rattle.elf32_write.specs.Kept.{not_executable, kept}
unfoldable pub use Rattle.elf32_write.specs.Kept.{words_bytes}
pub use Rattle.elf32_write.specs.Laws.{AreBytes, EntryIsGiven, FileIsBytes, FileLoads, mapping_added, NotesAreRead, OriginalIsHeld, SegmentsAreMapped, SizeIsBounded}
pub use Rattle.elf32_write.specs.Sections.{moved, section_entry}
unfoldable pub use Rattle.elf32_write.specs.Sections.{section_copy, section_table}
pub use Rattle.elf32_write.specs.Written.{delta_in, headers, locator, locator_at, notes_at, original_end, sections_at, segment_headers, with_segments}
unfoldable pub use Rattle.elf32_write.specs.Written.{written}
pub use Rattle.std.proofs.lemmas.Bool.{and_parts, cond_both, eqb-true, le-leb, le-ltb, lt-ltb, or_from, or_parts, cases_lt, cases_eq, or_cases, not-false, and_left}
pub use Rattle.std.proofs.lemmas.Bool.Decides.{nat_tests}
pub use Rattle.std.proofs.lemmas.Grind.{common_steps, flat_map-append}
pub use Rattle.std.proofs.lemmas.List.{length-map, map-append, take_all, take_at, drop_at, take-take, drop-drop, drop-take, take_more, take-append-drop, length-drop, length-replicate, get_or-take, length-take-le}
pub use Rattle.std.proofs.lemmas.List.Elements.{All-append, All-cons, All-drop, All-nil, All-take, All-replicate, All-map, All-filter, filter-append}
pub use Rattle.std.proofs.lemmas.List.Folds.{fold-map, list_any-append, list_any_none}
pub use Rattle.std.proofs.lemmas.List.Sums.{count_by-le-length, length-filter, sum_by-cons}
pub use Rattle.std.specs.Int.{bytes_high_first, is_power_of_two, next_multiple_of}
pub use Rattle.std.specs.List.{flat_map, fold, list_any, range_with_len, sum_by}
