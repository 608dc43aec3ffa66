-- The names that more than one proof cites, of this crate and of crates below, passed on from one place. Declares nothing.
pub use Rattle.std.proofs.Common.{[], add-one, ap, append-nil, append_assoc, arith, Bool, cond, count_by, drop, eqb, Err, false, get_or, IfOk, IfSome, inl, inr, is_some, length, List, ltb, map, None, not, Ok, Option, refl, replicate, Result, set, slice_get, slice_index, Some, subst, suc, sym, take, true, zero, ℕ, ◌%◌, ◌&&◌, ◌*◌, ◌++◌, ◌+◌, ◌-◌, ◌/◌, ◌<◌, ◌^◌, ◌||◌, ◌∙◌, ◌∷◌, ◌≡◌, ◌≢◌, ◌≤◌, ◌⊎◌}
pub use Rattle.std.specs.Prelude.{if◌then◌else◌, nat_le, nat_lt, negsuc, pos, ℤ, ◌==◌}
pub use Rattle.code_runs.specs.Code.{of_page, store_word}
pub use Rattle.code_runs.specs.LongJump.{IsFirstWord, long_jump}
pub use Rattle.eel_base.specs.declared.numbers.PieceNo.{PieceNo}
pub use Rattle.eel_base.specs.declared.range.Range.{Range}
pub use Rattle.layout.specs.Compact.{IsCompact, IsNeeded, LongIsEnough, NeededOnce, RoomIs, ShortIsEnough}
pub use Rattle.layout.specs.Forms.{entries_from, entries_in, entries_of, far, far_from, Forms, goal_of, is_start, IsWidened, leads_next, NoneLeft, out_of_reach, start_of, target, width}
unfoldable pub use Rattle.layout.specs.Forms.{offset}
pub use Rattle.layout.specs.Laid.{AllLead, AllMarked, AreMarked, ArePieces, Ascend, branch_long, branch_short, BranchStands, end_from, is_jump, IsLaid, IsPlaceIn, IsRangeOf, IsWordAt, item_at, jump_long, jump_nothing, jump_short, JumpStands, Lays, LeadsBelow, long_words, nop, note_range, open_from, open_in, OpenMark, opposite, piece_words, Placement, placement_of, range_in, range_of, Reaches, SaysFrom, short_words, size_of, Stands}
pub use Rattle.layout.specs.Laying.{IsLaying, IsLowestLeft, IsMarking, IsWhole, LeadsInside}
pub use Rattle.layout.specs.Order.{behind, compact_order, ends_in_jump, exit_at, first_left, is_laid, jump_to, lowest_left, next_after, next_piece}
unfoldable pub use Rattle.layout.specs.Order.{first_laid}
pub use Rattle.layout.specs.Private.{address_of, addresses, between, beyond, beyond_of, branch_in_form, closed, closes, code_at, entries_left, entry_code, far_of, FitsIn, forms_in, goal_in, has_condition, IsEmitted, IsFormed, IsListing, IsOffsets, IsPassed, IsPut, IsWidening, IsWithin, jump_in_form, noted, opens, or_zero, ranges_from, StartsBelow, target_offset, widens}
unfoldable pub use Rattle.layout.specs.Private.{code_to}
pub use Rattle.layout.specs.declared.entries.Entry.{Entry}
pub use Rattle.layout.specs.declared.items.Item.{Item}
pub use Rattle.layout.specs.declared.items.Placed.{Placed}
pub use Rattle.layout.specs.declared.ranges.OpenRange.{OpenRange}
pub use Rattle.notes.specs.Format.{NoteRange}
pub use Rattle.std.proofs.Math.Seq.{drop-length, take-suc}
pub use Rattle.std.proofs.lemmas.Bool.{and_parts, cases_Bool, cases_eq, cases_lt, cond_both, eq-eqb, eqb-true, false_from_ne_true, false≢true, lt-ltb, ltb-true, ne_eqb, not-true, or_parts, or_right}
pub use Rattle.std.proofs.lemmas.Bool.Decides.{nat_tests}
pub use Rattle.std.proofs.lemmas.List.{get_or-replicate, get_or-set_other, get_or-set_same, get_or_past, length-append, length-drop, length-map, length-replicate, length-set, map-append, take_all, take_more}
pub use Rattle.std.proofs.lemmas.List.Sums.{count_by-le-length, sum_by-cons, sum_by-set}
pub use Rattle.std.proofs.lemmas.Option.{slice_get-get_or, slice_get_past, slice_get_within}
pub use Rattle.std.specs.List.{All, AllByRecursion, sum_by}
unfoldable pub use Rattle.std.specs.List.{IsDistinct}
pub use Rattle.std.specs.Option.{option_copied, option_map}
pub use Rattle.v8_decode.specs.declared.Instr.{Instr}
