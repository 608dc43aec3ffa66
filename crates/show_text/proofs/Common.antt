-- The names that more than one proof cites, of this crate and of crates below, passed on from one place. Declares nothing.
pub use Rattle.std.proofs.Common.{[], ap, append_assoc, arith, get_or, inl, inr, length, List, map, None, Option, refl, rules, slice_index, Some, sym, take, true, zero-add, ℕ, ◌*◌, ◌++◌, ◌+◌, ◌<◌, ◌∙◌, ◌∷◌, ◌≡◌, ◌≤◌}
pub use Rattle.notes.specs.Code.{edge_seen, notes_seen}
pub use Rattle.show_text.specs.CountLines.{count_line}
pub use Rattle.show_text.specs.Lines.{block_line, edge_line, line, printed, routine_line, switch_line}
pub use Rattle.std.proofs.lemmas.List.{flat_map_more, get_or-map, get_or_past, length-map, take_all, take_more}
pub use Rattle.std.proofs.lemmas.List.FromFn.{get_or-enumerate_from, get_or-range_with_len, length-enumerate_from, length-range_with_len}
pub use Rattle.std.specs.List.{All, enumerate_from, flat_map, range_with_len, sum}
