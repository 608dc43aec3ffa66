-- The names of other crates, and of what this one states, that more than one proof cites, passed on from one place. Declares nothing.
pub use Rattle.std.proofs.Common.{List, None, Some, [], ap, arith, drop, false, inl, inr, length, map, refl, suc, sym, true, zero, ℕ, ◌%◌, ◌*◌, ◌++◌, ◌+◌, ◌-◌, ◌/◌, ◌<◌, ◌^◌, ◌∙◌, ◌∷◌, ◌≡◌, ◌≤◌, Bool, nat_eq, pos, negsuc, length-append, append_assoc, subst, mul-le-mul, replicate, append-nil}
pub use Rattle.byteorder.specs.Endian.{big_number}
pub use Rattle.byteorder.specs.Numbers.{big_number-reads_back, length-bytes_high_first}
pub use Rattle.elf32_sparc.specs.Header.{e_entry, loadable, text_header, is_text, ei_magic, e_type, e_machine, e_version, e_phoff, e_ehsize, e_phentsize, e_phnum}
unfoldable pub use Rattle.elf32_sparc.specs.Header.{program_headers, half_at, word_at, program_header}
pub use Rattle.elf32_sparc.specs.Image.{words_of, highest_end, room_from, rounded_up, segment_of}
unfoldable pub use Rattle.elf32_sparc.specs.Image.{image_of, text_from, text_of}
pub use Rattle.notes.proofs.Bytes.{length-flat_map}
pub use Rattle.std.proofs.lemmas.Bool.{cases_lt, le-ltb, lt-ltb, eq-eqb, lt-leb, ne_eqb, le-leb}
pub use Rattle.std.proofs.lemmas.List.{length-map, map-append, take_all, drop-drop}
pub use Rattle.std.proofs.lemmas.List.Sums.{sum_by-cons}
pub use Rattle.std.specs.Int.{to_be_bytes, w32, cast_unsigned}
pub use Rattle.std.specs.List.{flat_map, range_with_len, sum_by}
pub use Rattle.two_runs.specs.Needed.{instr_at, judged_in, decoded}
pub use Rattle.v8_alu.specs.declared.Codes.{Codes}
pub use Rattle.v8_decode.specs.declared.Instr.{Instr}
pub use Rattle.v8_encode.specs.Encoding.{word_of}
pub use Rattle.v8_memory.specs.Regions.{fetch_of, Memory}
pub use Rattle.v8_process.specs.Start.{start_memory, first_sp, program_name}
unfoldable pub use Rattle.v8_process.specs.Start.{start_of}
pub use Rattle.v8_step.proofs.Live.{live_step, stays_ended}
pub use Rattle.v8_step.specs.Run.{run, zeros, first_state}
pub use Rattle.v8_step.specs.State.{State, register_of}
pub use Rattle.v8_step.specs.Step.{step_of}
unfoldable pub use Rattle.v8_step.specs.Step.{act, alu_step}
pub use Rattle.v8_step.specs.declared.Ending.TheVariants.{Exit}
pub use Rattle.workload.specs.Generated.{bytes_of, call_of, caller_code, code_of, drawn, exit_code, file_of, first_word, header_words, routine_code, routine_from, routines_from, stirred, move, nop}
unfoldable pub use Rattle.workload.specs.Generated.{generated}
pub use Rattle.workload.specs.Laws.{IsTextWord, routine_steps, routine_sum, HasNoFault, first, step_count, text_span, total, GeneratedRunsEnd, GeneratedHoldsItsCode}
pub use Rattle.workload.specs.declared.draws.Routine.{Routine}
