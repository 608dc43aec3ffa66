-- The names that more than one proof cites, of this crate and of crates below, passed on from one place. Declares nothing.
pub use Rattle.std.proofs.Common.{[], add-one, add-zero, All, ap, append_assoc, arith, Bool, cond, drop, false, get_or, IfSome, inl, inr, length, List, ltb, map, max, min, nat_eq, nat_le, nat_lt, None, not, Option, refl, replicate, slice_index, Some, subst, suc, sym, take, true, unwrap_or, vec_len, zero, ℕ, ◌%◌, ◌&&◌, ◌*◌, ◌++◌, ◌+◌, ◌-◌, ◌/◌, ◌<◌, ◌^◌, ◌||◌, ◌∙◌, ◌∷◌, ◌≡◌, ◌≤◌}
pub use Rattle.std.specs.Prelude.{filter_map, option_map, slice_get, take_while, ◌==◌}
pub use Rattle.byteorder.specs.Endian.{big_number}
pub use Rattle.eel_base.specs.Code.{IsText}
pub use Rattle.eel_base.specs.CodeText.{numbered, Words, word_at as word_of}
pub use Rattle.elf32_sparc.specs.FileFault.{descends_from, entry_rows, first_that_holds, header_rows, is_aligned, is_dynamic, is_misshapen, is_word_address, leaves_file, leaves_room, load_rows, word_count}
unfoldable pub use Rattle.elf32_sparc.specs.FileFault.{fault, has_bad_table, has_bytes_outside, has_disorder, has_dynamic, has_large_text, has_memory_outside, has_memory_outside_a_run, has_misaligned, has_misshapen_text, has_other_class, has_other_entry, has_other_machine, has_other_magic, has_other_order, has_other_sizes, has_other_type, has_other_version, is_short, load_fault, memory_size}
pub use Rattle.elf32_sparc.specs.Header.{e_entry, e_phnum, e_phoff, end_of, headers_from, is_load, is_loadable, is_text, loadable, text_count, text_header}
unfoldable pub use Rattle.elf32_sparc.specs.Header.{half_at, program_header, program_headers, word_at}
pub use Rattle.elf32_sparc.specs.Image.{highest_end, no_text, Program, room_from, rounded_up, segment_end, segment_of, word_number, words_of}
unfoldable pub use Rattle.elf32_sparc.specs.Image.{image_of, text_from, text_of}
pub use Rattle.elf32_sparc.specs.Mapping.{file_bytes, mapping_of, memory_bytes}
unfoldable pub use Rattle.elf32_sparc.specs.Mapping.{mappings}
pub use Rattle.elf32_sparc.specs.Survey.{leaves_run, no_survey, run_survey_rows, survey_rows}
unfoldable pub use Rattle.elf32_sparc.specs.Survey.{noted, survey_of}
pub use Rattle.elf32_sparc.specs.Symbols.{e_shoff, func_at, funcs_in, funcs_with, is_function, longest_name, name_in, named, section_bytes, section_count, section_header, sections, string_table, symbol_table}
unfoldable pub use Rattle.elf32_sparc.specs.Symbols.{funcs_of}
pub use Rattle.elf32_sparc.specs.declared.fault.FileFault.{FileFault}
pub use Rattle.elf32_sparc.specs.declared.header.ProgramHeader.{ProgramHeader}
pub use Rattle.elf32_sparc.specs.declared.program.Segment.{Segment}
pub use Rattle.elf32_sparc.specs.declared.sections.Func.{Func}
pub use Rattle.elf32_sparc.specs.declared.survey.Survey.{Survey}
pub use Rattle.std.proofs.lemmas.Bool.{and_parts, cases_lt, cond_both, eqb-true, false≢true, leb-true, ltb-false, ltb-true, not-false, or_cases, or_parts}
pub use Rattle.std.proofs.lemmas.List.{append-nil, drop-drop, get_or-drop, length-take, take-take, take_all}
pub use Rattle.std.proofs.lemmas.List.Elements.{All-cons, All-drop, All-head, All-nil, All-tail, filter_map-append}
pub use Rattle.std.specs.List.{cons_option, find, flat_map, fold, list_any, prefix_len, range_with_len}
pub use Rattle.std.specs.Option.{option_map_or, option_or}
