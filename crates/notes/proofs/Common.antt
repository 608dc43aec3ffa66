-- The names that more than one proof cites, of this crate and of crates below, passed on from one place. Declares nothing.
pub use Rattle.std.proofs.Common.{[], add-zero, ap, append-nil, append_assoc, arith, Bool, Err, false, if◌then◌else◌, inl, inr, length, List, map, None, not, Ok, Option, refl, replicate, Result, Some, subst, subst₂, suc, sym, take, true, zero, ℕ, ◌%◌, ◌&&◌, ◌*◌, ◌++◌, ◌+◌, ◌-◌, ◌<◌, ◌==◌, ◌^◌, ◌||◌, ◌∙◌, ◌∷◌, ◌≡◌, ◌≤◌}
pub use Rattle.std.specs.Prelude.{drop, get_or, nat_le, nat_lt}
pub use Rattle.byteorder.specs.Endian.{big_bytes}
pub use Rattle.byteorder.specs.Numbers.{big_number-reads_back, length-bytes_high_first}
pub use Rattle.notes.specs.Code.{Answers, edge_seen, IsFault, notes_seen, range_seen, segment_seen, WantsMemoryIf}
pub use Rattle.notes.specs.Format.{Absent, Bad, byte_count, cell_of, counter_width, follows, is_cell, is_counter, is_version, kept, last_tool, most_cells, no_cell, NoNotes, note_at, note_that, NoteEdge, NoteHead as Head, NoteRange, Notes, NoteSegment, ◌>>=◌}
unfoldable pub use Rattle.notes.specs.Format.{block_count_at, blocks_at, edges_at, head_of, notes_of, ranges_at, read_notes, segments_at, tables_of}
pub use Rattle.notes.specs.Parts.{is_open, with_mark}
unfoldable pub use Rattle.notes.specs.Parts.{block_at, cells_at, edge_at, head_at, original_at, range_at, segment_at, text_at}
unfoldable pub use Rattle.notes.specs.Rows.{edge_bytes, range_bytes, segment_bytes}
pub use Rattle.notes.specs.Rules.{are_blocks, are_edges, are_ranges, are_segments, AreNotes, is_edge, is_free, is_range, is_segment, with_cell}
pub use Rattle.notes.specs.Written.{cell_word, edge_words, notes_words, range_words, segment_words}
unfoldable pub use Rattle.notes.specs.Written.{notes_bytes, words_bytes}
pub use Rattle.notes.specs.declared.note.NotesFault.{NotesFault}
pub use Rattle.std.proofs.lemmas.Bool.{and_from, and_parts, cases_eq, cond_both, eq-eqb, eqb-true, le-leb, leb-true, lt-ltb, ltb-true, ne_eqb, or_right}
pub use Rattle.std.proofs.lemmas.Grind.{common_steps, flat_map-append}
pub use Rattle.std.proofs.lemmas.List.{get_or-replicate, get_or-set_other, get_or-set_same, length-append, length-replicate, length-set, map-append}
pub use Rattle.std.specs.List.{All, flat_map, list_any}
pub use Rattle.std.specs.Result.{IfErr, IsErrAnd, IsOk}
