-- The names that more than one proof cites, of this crate and of crates below, passed on from one place. Declares nothing.
pub use Rattle.std.proofs.Common.{All, Bool, List, Ok, Some, [], ap, append_assoc, arith, bit_and, cond, drop, false, get_or, inl, inr, length, length-append, length-drop, map, max, min, refl, rules, subst, suc, sym, take, true, zero, ℕ, ◌%◌, ◌*◌, ◌++◌, ◌+◌, ◌-◌, ◌/◌, ◌<◌, ◌==◌, ◌^◌, ◌||◌, ◌∙◌, ◌∷◌, ◌≡◌, ◌≢◌, ◌≤◌, ◌⊎◌, set, ap₂, length-take, Option, None, bit_or, append-nil, Result, Err, not, ◌&&◌}
pub use Rattle.std.specs.Prelude.{if◌then◌else◌, nat_lt, negsuc, pos, slice_index, nat_le, ℤ, filter}
pub use Rattle.code_runs.proofs.Leads.{split_below, leads_one, leads_then, silent_one, silent_then}
pub use Rattle.code_runs.proofs.Picked.{equal_or_not, put, put_other, put_same, unpicked_is, Acts, IsNext, goes_on, says_here, stores_next, works_to, HasBlock, held_put}
pub use Rattle.code_runs.proofs.StoredWords.{can_load, covers_first, memory_word-range, other_word_stored, part, placed_in, shape, still_stored, whole_of, word_stored}
pub use Rattle.code_runs.proofs.Stores.{stores_none, stores_then}
pub use Rattle.code_runs.specs.Code.{CanStore, any_of_word, store_word, word_span, of_page, store_all, AllAt, Stores}
pub use Rattle.code_runs.specs.Counted.{one_if, stores_at, stores_in_step, count_stores}
pub use Rattle.code_runs.specs.Picked.{IsAlike, Works}
pub use Rattle.code_runs.specs.StoredWords.{word_in}
unfoldable pub use Rattle.code_runs.specs.StoredWords.{memory_word}
pub use Rattle.code_runs.specs.Straight.{Says, StandIn}
pub use Rattle.scavenge.proofs.Picks.{are_picked, all_off, joined, registers_ascend, registers_count}
pub use Rattle.scavenge.specs.Code.{ArePicked, picked, register_count, spilled, free_live, is_register}
pub use Rattle.scavenge.specs.Picks.{spills, free_dead}
unfoldable pub use Rattle.scavenge.specs.Picks.{registers}
pub use Rattle.snippet_code.specs.Cells.{cell_at, words_at}
pub use Rattle.snippet_code.specs.Code.{IsCellIn, IsCellOf, kept_word}
pub use Rattle.snippet_code.specs.Laws.{CanExpand, CostsHold, EndLow, EndsLow, SnippetCodeRuns, SnippetsRun}
pub use Rattle.snippet_code.specs.Runs.{DoesJust, IsAboutToRun, MayStore, RunsPast}
pub use Rattle.snippet_code.specs.Spills.{is_small, op_registers, registers_for, spills_of}
pub use Rattle.snippet_code.specs.Words.{add_low, add_one, add_words, all_words, code_of_snippet, compare, cost_of, cost_of_all, count_words, high, load_low, load_next, log_words, low, next_if_greater, numbered, of_two, op_cost, op_words, put_words, restore, save, small, snippet_words, store_low, store_next, top_words, with_number}
pub use Rattle.snippets.specs.Cells.{named_by, update, changed, with_wide, updated_by, read_by}
pub use Rattle.snippets.specs.Grammar.{IsOp}
pub use Rattle.snippets.specs.Ops.{cells_end, cell_of}
pub use Rattle.snippets.specs.declared.snippet.Op.{Op}
pub use Rattle.snippets.specs.declared.snippet.Op.TheVariants.{Add, Count, Keep, Log, Put, Top}
pub use Rattle.std.proofs.Math.Seq.{ext_get_or}
pub use Rattle.std.proofs.lemmas.Bool.{cases_lt, cond_both, or_parts, or_from, le-leb, lt-leb, leb-true, leb-false, or_right}
pub use Rattle.std.proofs.lemmas.Bool.Decides.{nat_tests}
pub use Rattle.std.proofs.lemmas.List.{get_or-drop, length-map, map-append, take_more, get_or-set_same, get_or-set_other, length-set, take_all}
pub use Rattle.std.proofs.lemmas.List.Elements.{All-head, All-tail, All-get_or, All-push, filter-append}
pub use Rattle.std.proofs.lemmas.Nat.{and_le_l, mod_below, pow_pos, and_mask, and_comm, or_lt}
pub use Rattle.std.proofs.lemmas.Nat.Bits.{bit_at_and, bit_at_or}
pub use Rattle.std.specs.Int.{bit_at, w32, cast_unsigned, to_be_bytes, from_be_bytes}
pub use Rattle.std.specs.List.{range_with_len}
pub use Rattle.v8_alu.specs.Alu.{codes_of, sum_overflows, difference_overflows, shifted_right}
unfoldable pub use Rattle.v8_alu.specs.Alu.{alu_of}
unfoldable pub use Rattle.v8_alu.specs.Conditions.{holds_of}
pub use Rattle.v8_alu.specs.Numbers.{complement, wrapped, is_negative}
pub use Rattle.v8_alu.specs.declared.Codes.{Codes}
pub use Rattle.v8_decode.specs.Parts.{has, is_same, is_member, registers_from, set_of}
unfoldable pub use Rattle.v8_decode.specs.Parts.{every_part, members}
pub use Rattle.v8_decode.specs.Words.{decode_of}
pub use Rattle.v8_decode.specs.declared.AluOp.{AluOp}
pub use Rattle.v8_decode.specs.declared.Instr.{Instr}
pub use Rattle.v8_decode.specs.declared.Op2.{Op2}
pub use Rattle.v8_decode.specs.declared.Part.{Part}
pub use Rattle.v8_decode.specs.declared.Part.TheVariants.{Icc, Reg, Y}
pub use Rattle.v8_encode.specs.Encoding.{word_of}
pub use Rattle.v8_memory.specs.Regions.{Memory, Region, code_of, covers, region_at, written}
pub use Rattle.v8_step.proofs.ValidStates.{register_of-range}
pub use Rattle.v8_step.specs.Items.{Codes as CodesItem, IsAmong, IsSameAt, Register, StateItem, YRegister, item_of}
pub use Rattle.v8_step.specs.State.{State, operand_of, register_of, sum_of, with_register}
pub use Rattle.v8_step.specs.Valid.{IsValid, IsValidMemory}
pub use Rattle.v8_step.specs.declared.Slot.TheVariants.{NoSlot, Taken}
