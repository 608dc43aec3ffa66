-- The names that more than one proof cites, of this crate and of crates below, passed on from one place. Declares nothing.
pub use Rattle.std.proofs.Common.{[], ap, append_assoc, arith, Bool, drop, drop-drop, eqb-true, Err, false, get_or, get_or-set_other, IfSome, inl, inr, length, length-append, length-drop, List, map, None, not, Ok, Option, refl, Result, Some, subst, suc, sym, take, true, zero, ℕ, ◌%◌, ◌&&◌, ◌*◌, ◌++◌, ◌+◌, ◌-◌, ◌/◌, ◌<◌, ◌^◌, ◌||◌, ◌∙◌, ◌∷◌, ◌≡◌, ◌≢◌, ◌≤◌, ◌⊎◌}
pub use Rattle.std.specs.Prelude.{if◌then◌else◌, pos, slice_index, ℤ, ◌==◌}
pub use Rattle.code_runs.specs.Code.{AllAt, any_of_word, CanLoad, CanStore, of_page, store_all, Stores, word_span}
unfoldable pub use Rattle.code_runs.specs.Code.{store_word}
pub use Rattle.code_runs.specs.Counted.{count_stores, on_fetched, one_if, stores_at, unless_over}
unfoldable pub use Rattle.code_runs.specs.Counted.{any_byte, stores_in_step}
pub use Rattle.code_runs.specs.Hops.{hopped, Hops}
pub use Rattle.code_runs.specs.Leads.{IsBetween, IsSilent, Leads}
pub use Rattle.code_runs.specs.Ours.{AreOwn, HasNot, HasWordAt, IsAmongWords, IsIn, IsOurs, OursAreStored, OursStay, WordsStay}
pub use Rattle.code_runs.specs.Picked.{AreHeld, Is, IsAlike, pair, Works, WorksInTwo}
pub use Rattle.code_runs.specs.Points.{ActsAnywhere, moved}
pub use Rattle.code_runs.specs.StoredWords.{word_in}
unfoldable pub use Rattle.code_runs.specs.StoredWords.{memory_word}
pub use Rattle.code_runs.specs.Straight.{HasWords, IsReady, Says, StandIn}
pub use Rattle.std.proofs.Math.Seq.{drop-append-add, drop-append_seam, ext_get_or, take-append_seam}
pub use Rattle.std.proofs.lemmas.Bool.{cases_eq, cases_lt, cond_both, false_from_ne_true, true≢false}
pub use Rattle.std.proofs.lemmas.Bool.Decides.{nat_tests}
pub use Rattle.std.specs.Int.{byte_len, cast_unsigned, from_be_bytes, to_be_bytes, w32, w8, Width}
pub use Rattle.std.specs.List.{find, list_any, range_with_len}
pub use Rattle.std.specs.Option.{option_map}
unfoldable pub use Rattle.v8_alu.specs.Conditions.{holds_of}
pub use Rattle.v8_alu.specs.Numbers.{wrapped}
pub use Rattle.v8_alu.specs.declared.Codes.{Codes, Codes as CodesOf}
pub use Rattle.v8_decode.specs.Words.{decode_of}
pub use Rattle.v8_decode.specs.declared.AluOp.{AluOp}
pub use Rattle.v8_decode.specs.declared.Instr.{Instr}
pub use Rattle.v8_decode.specs.declared.Op2.{Op2}
pub use Rattle.v8_memory.proofs.Same.{covers-written, find-written}
pub use Rattle.v8_memory.specs.Regions.{all_written, buffer_read, buffer_written, changed, code_of, covers, fetch_from, if_allowed, is_heap_end, Memory, part_of, read_region, Region, region_at, with_heap_end, written}
unfoldable pub use Rattle.v8_memory.specs.Regions.{bytes_at, fetch_of, with_bytes}
pub use Rattle.v8_memory.specs.Spans.{AllApart, IsApartFromAll, Span}
pub use Rattle.v8_step.proofs.KeptOutside.{kept_act}
pub use Rattle.v8_step.proofs.Quiet.{IsPlain, puts_nothing}
pub use Rattle.v8_step.specs.Accesses.{exchange_step, load_size, on_bytes, on_memory, store_size, stored}
unfoldable pub use Rattle.v8_step.specs.Accesses.{ldstub_step, load_step, store_step, swap_step}
pub use Rattle.v8_step.specs.Judged.{judged_by}
pub use Rattle.v8_step.specs.Run.{run, run_puts}
pub use Rattle.v8_step.specs.State.{AreBytes, operand_of, register_of, State, sum_of, with_register}
pub use Rattle.v8_step.specs.Step.{on_word, puts_unless_ended, trap_number, unless_ended}
unfoldable pub use Rattle.v8_step.specs.Step.{act, alu_step, puts_by, puts_of, step_of}
pub use Rattle.v8_step.specs.Transfers.{branched, delayed, next, target_of, trapped, unless_couple}
unfoldable pub use Rattle.v8_step.specs.Transfers.{branch_step, call_step, jump_step}
pub use Rattle.v8_step.specs.Traps.{call_system, data_access_exception, flush_windows, mem_address_not_aligned}
pub use Rattle.v8_step.specs.Valid.{IsValid, IsValidMemory, IsValidRegion}
pub use Rattle.v8_step.specs.declared.Ending.{Ending}
pub use Rattle.v8_step.specs.declared.Ending.TheVariants.{Couple, Trap, Window}
pub use Rattle.v8_step.specs.declared.Slot.{Slot}
pub use Rattle.v8_step.specs.declared.Slot.TheVariants.{NoSlot, Taken, Untaken}
pub use Rattle.v8_windows.proofs.Places.{length-register_set, place_of-below, place_of-some, register_in-other, register_in-set}
pub use Rattle.v8_windows.specs.Registers.{place_of, register_in, register_set, windows}
