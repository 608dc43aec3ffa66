-- The names that more than one proof cites, of this crate and of crates below, passed on from one place. Declares nothing.
pub use Rattle.std.proofs.Common.{[], All, ap, append_assoc, arith, Bool, cond, drop, false, get_or, length, List, map, nat_eq, nat_le, nat_lt, None, not, Option, refl, replicate, slice_index, Some, subst, suc, sym, take, true, zero, ℕ, ◌%◌, ◌&&◌, ◌*◌, ◌++◌, ◌+◌, ◌-◌, ◌/◌, ◌<◌, ◌^◌, ◌∙◌, ◌∷◌, ◌≡◌, ◌≤◌, ◌⊎◌}
pub use Rattle.elf32_sparc.proofs.Ranges.{mappings-room, word_at-range}
pub use Rattle.elf32_sparc.specs.Header.{e_entry, end_of, has_flag, is_loadable, loadable, text_header}
unfoldable pub use Rattle.elf32_sparc.specs.Header.{program_headers}
pub use Rattle.elf32_sparc.specs.Image.{no_text, segment_of, words_of}
unfoldable pub use Rattle.elf32_sparc.specs.Image.{image_of, text_from, text_of}
pub use Rattle.elf32_sparc.specs.Mapping.{file_bytes, Mapping, mapping_of, memory_bytes}
unfoldable pub use Rattle.elf32_sparc.specs.Mapping.{mappings}
pub use Rattle.elf32_sparc.specs.declared.header.ProgramHeader.{ProgramHeader}
pub use Rattle.std.proofs.lemmas.Bool.{and_from, and_parts, eq-eqb, le-leb, ltb-false, ltb-true, or_from, or_left, or_parts}
pub use Rattle.std.proofs.lemmas.Bool.Decides.{nat_tests}
pub use Rattle.std.proofs.lemmas.List.{append-nil, drop-drop, get_or-drop, get_or-take, length-append, length-replicate, map-append}
pub use Rattle.std.proofs.lemmas.List.Concat.{flat_map-cons}
pub use Rattle.std.proofs.lemmas.List.Elements.{All-append, All-cons, All-drop, All-head, All-map, All-nil, All-push, All-replicate, All-same, All-tail, All-take}
pub use Rattle.std.specs.Int.{from_be_bytes, to_be_bytes, w32}
pub use Rattle.std.specs.List.{filter, find, flat_map, list_all, list_any}
pub use Rattle.v8_memory.specs.Calls.{IsPlan, mapping_of_plan, memory_of}
pub use Rattle.v8_memory.specs.Code.{are_apart, heap_span, is_apart, is_apart_from, IsSameRegion, mappings_apart, span_of_mapping, without_execution}
pub use Rattle.v8_memory.specs.Regions.{covers, fetch_from, is_code, Memory, Region, word_in}
unfoldable pub use Rattle.v8_memory.specs.Regions.{fetch_of}
pub use Rattle.v8_memory.specs.Segments.{region_of}
pub use Rattle.v8_memory.specs.Spans.{IsApart, IsApartFromAll, Span}
pub use Rattle.v8_process.specs.Arguments.{texts}
pub use Rattle.v8_process.specs.Private.{segment_mapping, stack_mapping}
pub use Rattle.v8_process.specs.Start.{argument_size, argument_words, first_sp, pointers, program_name, rounded_down, rounded_up, stack_end, stack_region, stack_start, stack_top, start_memory, strings, strings_address, words_address}
unfoldable pub use Rattle.v8_process.specs.Start.{start_of}
pub use Rattle.v8_process.specs.Valid.{FitsStack, HasRoom, MappingsHaveRoom, StartsValid}
pub use Rattle.v8_step.specs.State.{AreBytes}
