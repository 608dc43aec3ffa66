-- The names that more than one proof cites, of this crate and of crates below, passed on from one place. Declares nothing.
pub use Rattle.std.proofs.Common.{[], add-one, All, ap, append-nil, append_assoc, arith, Bool, drop, Err, false, get_or, get_or-set_other, IfSome, inl, inr, length, length-append, length-drop, length-set, length-take, List, nat_le, negsuc, None, Ok, Option, pos, refl, replicate, Result, rules, set, slice_index, Some, subst, suc, sym, take, true, zero, ℕ, ℤ, ◌%◌, ◌&&◌, ◌*◌, ◌++◌, ◌+◌, ◌-◌, ◌/◌, ◌<◌, ◌==◌, ◌^◌, ◌∙◌, ◌∷◌, ◌≡◌, ◌≢◌, ◌≤◌, ◌⊎◌}
pub use Rattle.std.specs.Prelude.{FitsSigned, if◌then◌else◌, IsTrue}
pub use Rattle.std.proofs.lemmas.Bool.{and_parts, cases_lt, cond_both, eqb-true, le-ltb, leb-true, lt-ltb}
pub use Rattle.std.proofs.lemmas.Bool.Decides.{nat_tests}
pub use Rattle.std.proofs.lemmas.List.{drop-drop, length-replicate}
pub use Rattle.std.proofs.lemmas.List.Elements.{All-append, All-cons, All-drop, All-head, All-map, All-nil, All-replicate, All-same, All-set, All-tail, All-take, All-weaker}
pub use Rattle.std.specs.Int.{byte_len, bytes_high_first, cast_unsigned, from_be_bytes, to_be_bytes, w16, w32, w64, w8, Width}
pub use Rattle.std.specs.List.{find, flat_map}
pub use Rattle.v8_alu.specs.Conditions.{holds_of}
pub use Rattle.v8_alu.specs.Numbers.{wrapped}
pub use Rattle.v8_alu.specs.declared.AluOut.{AluOut}
pub use Rattle.v8_alu.specs.declared.AluTrap.{AluTrap}
pub use Rattle.v8_alu.specs.declared.AluTrap.TheVariants.{DivZero, TagOverflow}
pub use Rattle.v8_alu.specs.declared.Codes.{Codes}
pub use Rattle.v8_decode.specs.Words.{decode_of}
pub use Rattle.v8_decode.specs.declared.Instr.{Instr}
pub use Rattle.v8_decode.specs.declared.Op2.{Op2}
pub use Rattle.v8_decode.specs.declared.Op2.TheVariants.{Imm, Reg}
pub use Rattle.v8_decode.specs.declared.StoreKind.{StoreKind}
pub use Rattle.v8_memory.specs.Calls.{Exchanges as MemoryExchanges, Fills as Written}
pub use Rattle.v8_memory.specs.Kept.{AreKept, IsKept, StandsFor}
pub use Rattle.v8_memory.specs.Ops.{instr_by, IsSum, operand_in, plain, plain_operand}
unfoldable pub use Rattle.v8_memory.specs.Ops.{instr_of}
pub use Rattle.v8_memory.specs.Private.{is_record}
pub use Rattle.v8_memory.specs.Regions.{all_written, buffer_read, buffer_written, changed, code_of, covers, fetch_from, if_allowed, is_heap_end, Memory, part_of, read_region, Region, region_at, with_heap_end, write_region, written}
unfoldable pub use Rattle.v8_memory.specs.Regions.{bytes_at, fetch_of, with_bytes}
pub use Rattle.v8_memory.specs.Segments.{empty_heap, heap_room}
pub use Rattle.v8_memory.specs.Spans.{AllApart, IsApartFromAll, Span}
pub use Rattle.v8_memory.specs.declared.ops.Predecoded.{Predecoded}
pub use Rattle.v8_memory.specs.declared.ops.OpCode.{OpCode}
pub use Rattle.v8_memory.specs.declared.ops.OpCode.TheVariants.{Other}
pub use Rattle.v8_step.specs.Accesses.{exchange_step, extended, load_size, loaded, on_bytes, on_memory, store_size, stored, word_of}
unfoldable pub use Rattle.v8_step.specs.Accesses.{ldstub_step, load_step, store_step, swap_step}
pub use Rattle.v8_step.specs.Ahead.{address_at, at_here, at_places, GoesOn, HasTurned, placed, slot_of}
unfoldable pub use Rattle.v8_step.specs.Ahead.{slot_by}
pub use Rattle.v8_step.specs.Calls.{answered, heap_call, is_output, read_into, refuses, write_from}
unfoldable pub use Rattle.v8_step.specs.Calls.{system_call, trap_step}
pub use Rattle.v8_step.specs.Judged.{buffer_span, judged_after, judged_by, judged_by_call, saved_span}
unfoldable pub use Rattle.v8_step.specs.Judged.{judged_by_spills}
pub use Rattle.v8_step.specs.Laws.{CodeStays, ValidStays, WindowStays}
pub use Rattle.v8_step.specs.Private.{Exchanges, Fills, quiet_act, Spills}
pub use Rattle.v8_step.specs.Run.{first_state, run, run_puts, zeros}
pub use Rattle.v8_step.specs.State.{AreBytes, operand_of, register_of, State, sum_of, with_register}
pub use Rattle.v8_step.specs.Step.{on_word, puts_on_word, puts_unless_ended, trap_number, unless_ended}
unfoldable pub use Rattle.v8_step.specs.Step.{act, alu_step, puts_by, puts_of, step_of}
pub use Rattle.v8_step.specs.Transfers.{branched, delayed, ended, next, target_of, trapped, unless_couple}
unfoldable pub use Rattle.v8_step.specs.Transfers.{branch_step, call_step, jump_step}
pub use Rattle.v8_step.specs.Traps.{call_system, data_access_exception, EBADF, EFAULT, ENOMEM, ENOSYS, flush_windows, trap_instruction}
pub use Rattle.v8_step.specs.Turns.{IsQuietRun}
pub use Rattle.v8_step.specs.Valid.{IsValid, IsValidHeap, IsValidMemory, IsValidRegion}
pub use Rattle.v8_step.specs.WindowMoves.{enter, fill, fill_from, frame_read, frame_written, leave, oldest_window, save_address, saved_memory, spill, spill_many}
unfoldable pub use Rattle.v8_step.specs.WindowMoves.{restore_step, save_step}
pub use Rattle.v8_step.specs.declared.Ending.{Ending}
pub use Rattle.v8_step.specs.declared.Ending.TheVariants.{Exit, Trap, Window}
pub use Rattle.v8_step.specs.declared.Slot.{Slot}
pub use Rattle.v8_step.specs.declared.Slot.TheVariants.{NoSlot, Taken, Untaken}
pub use Rattle.v8_step.specs.declared.ahead.Control.TheVariants.{At, On, Past, Stop, To}
pub use Rattle.v8_step.specs.declared.ahead.Cursor.{Cursor}
pub use Rattle.v8_windows.proofs.Places.{length-frame_bytes, place_of-below}
pub use Rattle.v8_windows.specs.Calls.{frame_words, frame_words as words_of_frame}
pub use Rattle.v8_windows.specs.Code.{AreRegisters}
pub use Rattle.v8_windows.specs.Frames.{frame_bytes, frame_of, frame_pointer, frame_registers, registers_from, with_frame}
pub use Rattle.v8_windows.specs.Registers.{place_of, register_in, register_set, window_after, window_before, windows}
