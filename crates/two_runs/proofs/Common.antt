-- The names that more than one proof cites, of this crate and of crates below, passed on from one place. Declares nothing.
pub use Rattle.std.proofs.Common.{[], add-suc, ap, append-nil, arith, Bool, drop, Err, false, get_or, inl, inr, length, length-append, List, map, None, Ok, Option, refl, Result, set, Some, subst, suc, sym, take, true, zero, ℕ, ◌%◌, ◌&&◌, ◌++◌, ◌+◌, ◌-◌, ◌<◌, ◌^◌, ◌∙◌, ◌∷◌, ◌≡◌, ◌≢◌, ◌≤◌, ◌⊎◌}
pub use Rattle.std.specs.Prelude.{bit_xor, if◌then◌else◌, nat_le, slice_index, ◌==◌}
pub use Rattle.notes.specs.Format.{holds, Notes, NoteSegment}
pub use Rattle.std.proofs.lemmas.Bool.{and_parts, cases_Bool, cases_eq, cases_lt, cond_both, eqb-true, leb-true, or_parts}
pub use Rattle.std.proofs.lemmas.Bool.Decides.{nat_tests}
pub use Rattle.std.specs.Int.{byte_len, from_be_bytes, to_be_bytes, w16, w32, w8, Width}
pub use Rattle.std.specs.List.{filter, find, list_any}
pub use Rattle.std.specs.Option.{option_map, unwrap_or}
pub use Rattle.two_runs.specs.Alike.{AreSameAfter, IsReady, IsSameWorld, StepsAlike}
pub use Rattle.two_runs.specs.Visits.{as_list, if_live, in_pages, own_trail, page_of, pages_of, trail_of, visit_of}
pub use Rattle.v8_alu.specs.Alike.{AgreeOn, AreAlike}
unfoldable pub use Rattle.v8_alu.specs.Conditions.{holds_of}
pub use Rattle.v8_alu.specs.declared.AluOut.{AluOut}
pub use Rattle.v8_alu.specs.declared.AluTrap.{AluTrap}
pub use Rattle.v8_alu.specs.declared.AluTrap.TheVariants.{DivZero, TagOverflow}
pub use Rattle.v8_alu.specs.declared.Codes.{Codes as Flags}
pub use Rattle.v8_decode.specs.Effects.{alu_inputs, loaded_parts, op2_parts, pair, reads_all, reg, stored_parts, when, writes_of, writes_y}
unfoldable pub use Rattle.v8_decode.specs.Words.{decode_of}
pub use Rattle.v8_decode.specs.declared.Instr.{Instr}
pub use Rattle.v8_decode.specs.declared.Op2.{Op2}
pub use Rattle.v8_decode.specs.declared.Part.TheVariants.{Icc, Reg, Y}
pub use Rattle.v8_memory.proofs.Same.{bytes_same, same_region, with_bytes-same}
pub use Rattle.v8_memory.specs.Code.{IsSameOutside, IsSameRegion, span_of}
pub use Rattle.v8_memory.specs.Laws.{AreSameWrites}
pub use Rattle.v8_memory.specs.Regions.{all_written, buffer_read, buffer_written, byte_at, changed, code_of, covers, heap_end_of, if_allowed, is_code, is_heap_end, Memory, part_of, read_region, Region, region_at, with_heap_end, word_in, write_region, written}
unfoldable pub use Rattle.v8_memory.specs.Regions.{bytes_at, fetch_of, with_bytes}
pub use Rattle.v8_memory.specs.Spans.{AllApart, IsApart, IsApartFromAll, Span}
pub use Rattle.v8_step.proofs.KeptOutside.{apart_first, apart_rest, kept_act, length-stored, store_some}
pub use Rattle.v8_step.proofs.Live.{live_puts, live_step, puts_nothing, stays_ended}
pub use Rattle.v8_step.specs.Accesses.{exchange_step, load_size, loaded, on_bytes, on_memory, store_size, stored}
unfoldable pub use Rattle.v8_step.specs.Accesses.{ldstub_step, load_step, store_step, swap_step}
pub use Rattle.v8_step.specs.Calls.{answered, heap_call, is_output, read_call, read_into, refuses, succeeds, system_step, write_call, write_from}
unfoldable pub use Rattle.v8_step.specs.Calls.{system_call, trap_step}
pub use Rattle.v8_step.specs.Code.{AreSameAt}
pub use Rattle.v8_step.specs.Items.{Codes, is_transfer, IsAmong, IsSameAt, Register, StateItem, YRegister}
pub use Rattle.v8_step.specs.Judged.{buffer_span, frame_span, judged_after, judged_by, judged_by_call, judged_by_trap, saved_span}
unfoldable pub use Rattle.v8_step.specs.Judged.{judged_by_spills}
pub use Rattle.v8_step.specs.Run.{run, run_puts}
pub use Rattle.v8_step.specs.State.{operand_of, register_of, State, sum_of, with_register}
pub use Rattle.v8_step.specs.Step.{on_word, trap_number, unless_ended, written_out}
unfoldable pub use Rattle.v8_step.specs.Step.{act, alu_step, puts_by, step_of}
pub use Rattle.v8_step.specs.Transfers.{branched, ended, next, trapped, unless_couple}
unfoldable pub use Rattle.v8_step.specs.Transfers.{branch_step, call_step, jump_step}
pub use Rattle.v8_step.specs.Traps.{call_system, cp_disabled, data_access_exception, division_by_zero, EBADF, EFAULT, ENOMEM, ENOSYS, flush_windows, fp_disabled, illegal_instruction, instruction_access_exception, mem_address_not_aligned, privileged_instruction, tag_overflow, trap_instruction}
pub use Rattle.v8_step.specs.WindowMoves.{enter, fill, fill_from, frame_read, frame_written, leave, oldest_window, save_address, saved_memory, spill, spill_many}
unfoldable pub use Rattle.v8_step.specs.WindowMoves.{restore_step, save_step}
pub use Rattle.v8_step.specs.declared.Ending.{Ending}
pub use Rattle.v8_step.specs.declared.Ending.TheVariants.{Exit, Trap, Window}
pub use Rattle.v8_windows.proofs.Places.{length-frame_bytes, length-register_set}
pub use Rattle.v8_windows.specs.Frames.{frame_address, frame_bytes, frame_pointer, oldest_of, with_frame}
pub use Rattle.v8_windows.specs.Registers.{pair_set, place_of, register_in, register_set, window_after, window_before}
