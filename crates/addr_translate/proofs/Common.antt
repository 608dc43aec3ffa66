-- The names that more than one proof cites, of this crate and of crates below, passed on from one place. Declares nothing.
pub use Rattle.std.proofs.Common.{[], ap, arith, bit_and, Bool, drop, false, inl, inr, length, List, map, None, Ok, refl, Some, subst, suc, sym, take, true, zero, ℕ, ◌%◌, ◌&&◌, ◌*◌, ◌++◌, ◌+◌, ◌-◌, ◌/◌, ◌<◌, ◌^◌, ◌∙◌, ◌∷◌, ◌≡◌, ◌≢◌, ◌≤◌, ◌⊎◌}
pub use Rattle.std.specs.Prelude.{if◌then◌else◌, nat_le, nat_lt, pos, slice_index, ◌==◌}
pub use Rattle.addr_translate.specs.Entries.{entry_in, is_among, second_for, third_for}
unfoldable pub use Rattle.addr_translate.specs.Entries.{entry, table_bytes, table_words}
pub use Rattle.addr_translate.specs.HalfEntries.{half_word}
unfoldable pub use Rattle.addr_translate.specs.HalfEntries.{half_bytes, half_entry, half_words}
pub use Rattle.addr_translate.specs.Halves.{entry_at, first_half, halves_size, IsHalvesOf, span_of}
pub use Rattle.addr_translate.specs.Lookup.{IsBlock, IsTable, looked_up, second_block, second_entry, TableAt, third_block, third_entry}
unfoldable pub use Rattle.addr_translate.specs.Lookup.{table_word}
pub use Rattle.addr_translate.specs.Table.{blocks, first_page, first_part, IsTableOf, last_byte, pages, parts, size_of, target_for, target_of}
pub use Rattle.addr_translate.specs.Translator.{IsAboutToTranslate, IsSecondWord, RegionsStand, Translates, translator}
pub use Rattle.code_runs.specs.StoredWords.{word_in}
unfoldable pub use Rattle.code_runs.specs.StoredWords.{memory_word}
pub use Rattle.eel_base.specs.Code.{IsText}
pub use Rattle.eel_base.specs.CodeText.{word_at, Words}
pub use Rattle.eel_base.specs.declared.numbers.Addr.{Addr}
pub use Rattle.std.proofs.lemmas.Bool.Decides.{nat_tests}
pub use Rattle.std.proofs.lemmas.List.FromFn.{get_or-map-range_with_len, length-map-range_with_len, map-range_with_len_more}
pub use Rattle.std.specs.Int.{from_be_bytes, to_be_bytes, w32}
pub use Rattle.std.specs.List.{flat_map, range_with_len}
pub use Rattle.v8_alu.specs.Numbers.{wrapped}
