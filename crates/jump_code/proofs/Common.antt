-- The names that more than one proof cites, of this crate and of crates below, passed on from one place. Declares nothing.
pub use Rattle.std.proofs.Common.{Bool, List, None, Ok, Some, [], ap, arith, false, inl, inr, length, map, refl, rules, subst, suc, sym, true, zero, ℕ, ◌%◌, ◌*◌, ◌+◌, ◌-◌, ◌/◌, ◌<◌, ◌^◌, ◌∙◌, ◌∷◌, ◌≡◌, ◌≢◌, ◌≤◌}
pub use Rattle.std.specs.Prelude.{pos, ◌==◌, if◌then◌else◌, nat_lt}
pub use Rattle.addr_translate.specs.Halves.{found_in, IsTwoLevel, entry_at, half_at}
pub use Rattle.addr_translate.specs.Lookup.{TableAt, table_word}
pub use Rattle.code_runs.proofs.Acts.{says_step, says_puts, ld_traps, jump_acts, jump_traps}
pub use Rattle.code_runs.proofs.Hops.{hops_through, works_same, works_state, read_is}
pub use Rattle.code_runs.proofs.Leads.{leads_then, leads_weaker, silent_then, leads_one, silent_one}
pub use Rattle.code_runs.proofs.Picked.{Gives, HasTwo, IsNext, alu, both, equal_or_not, first, goes_on, in_two, ld_in, none_in_two, second, sethi, st_in, two_registers, word, Acts, HasBlock, held_put, put, stores_next, says_here, unpicked_is}
pub use Rattle.code_runs.proofs.StoredWords.{can_load, loads_stored, memory_word-range, other_loaded, other_word_stored, still_stored, whole_of, word_stored, word_bytes, word_written, code-store_word}
pub use Rattle.code_runs.proofs.Stores.{stores_none, stores_then, stores_one}
pub use Rattle.code_runs.proofs.Straight.{nth, nth_says, says_at}
pub use Rattle.code_runs.specs.Code.{CanStore, Stores, of_page, store_word, CanLoad, any_of_word, word_span}
pub use Rattle.code_runs.specs.Counted.{count_stores, one_if, stores_in_step}
pub use Rattle.code_runs.specs.Leads.{IsBetween, IsSilent, Leads}
pub use Rattle.code_runs.specs.LongJump.{IsFirstWord, long_jump}
pub use Rattle.code_runs.specs.Page.{page_word}
pub use Rattle.code_runs.specs.Picked.{Is, IsAlike, WorksInTwo, pair, Works}
pub use Rattle.code_runs.specs.Points.{moved}
pub use Rattle.code_runs.specs.StoredWords.{memory_word}
pub use Rattle.code_runs.specs.Straight.{HasWords, Says, StandIn, IsReady}
pub use Rattle.jump_code.specs.Choosing.{choice_at, ChoicesHop, ChoicesSimulate, jump_by_case, chosen, chosen_memory, ComesToCase, IsAboutToGo, switch_jump}
pub use Rattle.jump_code.specs.Finding.{ComesFound, EndsFinding, FindsIt, found_memory, IsAboutToFind, translate_target, LooksUp, LookUpSimulates, jump_translated, ResumeHops, sought_memory, TrapsFinding}
pub use Rattle.jump_code.specs.FreeRegister.{free_register, IsApart, IsNotIn, other_register, second_register}
pub use Rattle.jump_code.specs.Jumped.{CallsSimulate, jumped}
pub use Rattle.jump_code.specs.Keeping.{AddressesAreSaved, IsAboutToSave, kept_memory, save_load_address, SavesLoadAddress}
pub use Rattle.jump_code.specs.Leaving.{FarGoes, foreign, ForeignLeaves}
pub use Rattle.jump_code.specs.Links.{address_into, CallsAct, IsAboutToCall, link, past}
pub use Rattle.jump_code.specs.PageWords.{found_there, IsPageWord, saved_address, waiting}
pub use Rattle.layout.specs.Emitting.{words_of}
pub use Rattle.v8_alu.proofs.Ranges.{wrapped_range}
unfoldable pub use Rattle.v8_alu.specs.Alu.{alu_of}
pub use Rattle.v8_alu.specs.Numbers.{wrapped}
pub use Rattle.v8_alu.specs.declared.Codes.{Codes}
pub use Rattle.v8_decode.specs.declared.Instr.{Instr}
pub use Rattle.v8_decode.specs.declared.Op2.{Op2}
pub use Rattle.v8_decode.specs.declared.Op2.TheVariants.{Imm, Reg}
pub use Rattle.v8_encode.specs.Code.{has_word, op2_fits}
unfoldable pub use Rattle.v8_encode.specs.Code.{encode_of}
pub use Rattle.v8_memory.specs.Regions.{Memory, code_of, Region}
pub use Rattle.v8_step.proofs.ValidStates.{register_of-range}
pub use Rattle.v8_step.proofs.ValidSteps.{run-valid}
pub use Rattle.v8_step.specs.State.{State, operand_of, register_of, sum_of, with_register}
pub use Rattle.v8_step.specs.Step.{step_of}
unfoldable pub use Rattle.v8_step.specs.Step.{act}
pub use Rattle.v8_step.specs.Transfers.{delayed, next, trapped}
unfoldable pub use Rattle.v8_step.specs.Transfers.{call_step}
pub use Rattle.v8_step.specs.Traps.{mem_address_not_aligned}
pub use Rattle.v8_step.specs.Valid.{IsValid, IsValidMemory}
pub use Rattle.v8_step.specs.declared.Slot.TheVariants.{NoSlot}
