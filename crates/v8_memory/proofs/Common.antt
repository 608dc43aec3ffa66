-- The names that more than one proof cites, of this crate and of crates below, passed on from one place. Declares nothing.
pub use Rattle.std.proofs.Common.{[], ap, arith, Bool, drop, false, get_or, inl, inr, length, List, map, None, not, Option, pos, refl, replicate, rules, slice_set, Some, subst, suc, sym, take, true, zero, ℕ, ◌%◌, ◌&&◌, ◌*◌, ◌++◌, ◌+◌, ◌<◌, ◌^◌, ◌∙◌, ◌∷◌, ◌≡◌, ◌≤◌}
pub use Rattle.std.specs.Prelude.{if◌then◌else◌}
pub use Rattle.elf32_sparc.specs.Mapping.{Mapping}
pub use Rattle.std.proofs.lemmas.Bool.{and_parts, and_right, both_ways, cases_Bool, cond-true, cond_both, false_from_ne_true}
pub use Rattle.std.proofs.lemmas.List.{drop_all, length-replicate}
pub use Rattle.std.specs.List.{filter, find}
pub use Rattle.std.specs.Option.{option_map}
pub use Rattle.v8_memory.specs.Calls.{Fills, mapping_of_plan, memory_of}
pub use Rattle.v8_memory.specs.Code.{are_apart, heap_span, is_apart, is_apart_from, IsSameOutside, IsSameRegion, mappings_apart, regions_apart, span_of, span_of_mapping, without_execution}
pub use Rattle.v8_memory.specs.Kept.{AreKept, IsKept}
pub use Rattle.v8_memory.specs.Laws.{AccessesAgree, AreSameWrites, CodeStays, HasCodeOf}
pub use Rattle.v8_memory.specs.Regions.{all_written, changed, covers, if_allowed, is_code, Memory, part_of, read_region, Region, region_at, write_region, written}
unfoldable pub use Rattle.v8_memory.specs.Regions.{bytes_at, with_bytes}
pub use Rattle.v8_memory.specs.Segments.{empty_heap, heap_room, heap_start, region_of}
pub use Rattle.v8_memory.specs.Spans.{IsApartFromAll, Span}
pub use Rattle.v8_memory.specs.declared.ops.Predecoded.{Predecoded}
