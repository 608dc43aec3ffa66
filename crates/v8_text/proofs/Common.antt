-- The names that more than one proof cites, of this crate and of crates below, passed on from one place. Declares nothing.
pub use Rattle.std.proofs.Common.{[], ap, append_assoc, ap₂, arith, Bool, codes, decimal, false, get_or, if◌then◌else◌, inl, inr, length, List, map, nat_le, nat_lt, negsuc, None, Option, pos, refl, rules, slice_index, Some, subst, suc, sym, take, true, zero, ℕ, ℤ, ◌%◌, ◌&&◌, ◌*◌, ◌++◌, ◌+◌, ◌-◌, ◌/◌, ◌<◌, ◌==◌, ◌^◌, ◌∙◌, ◌∷◌, ◌≡◌, ◌≢◌, ◌≤◌, ◌⊎◌}
pub use Rattle.eel_base.specs.Fields.{hex_digit, hex_digit_at, hex_of}
pub use Rattle.line_words.proofs.Digits.{address_back, address_read}
pub use Rattle.line_words.proofs.Numbers.{number_back, number_read}
pub use Rattle.line_words.proofs.Registers.{register_back, register_read}
pub use Rattle.line_words.proofs.Split.{decimal_digits, decimal_whole, is_whole, split_back, split_read}
pub use Rattle.line_words.proofs.Steps.{chosen, mapped, step, tested}
pub use Rattle.line_words.specs.Registers.{hex_number_of, register_text}
pub use Rattle.line_words.specs.Words.{is_digit, number_of, ◌>>=◌}
unfoldable pub use Rattle.line_words.specs.Words.{register_of, split_at}
pub use Rattle.std.proofs.lemmas.Bool.{and_from, and_parts, cond_both, eq-eqb, eqb-false, eqb-true, false_from_ne_true, le-leb, ltb-true, ne_eqb, true≢false}
pub use Rattle.std.proofs.lemmas.Bool.Decides.{nat_tests}
pub use Rattle.std.proofs.lemmas.List.FromFn.{get_or-map-range_with_len, get_or-range_with_len, length-range_with_len}
pub use Rattle.std.specs.List.{All, find, list_all, list_any, range_with_len}
pub use Rattle.std.specs.Option.{option_map}
pub use Rattle.std.specs.Str.{bytes_eq}
pub use Rattle.v8_decode.proofs.Rows.{decode_of-ranges}
pub use Rattle.v8_decode.specs.Forms.{has_form}
pub use Rattle.v8_decode.specs.Ranges.{has_even_pair, is_in_range, op2_in_range, operands_in_range}
pub use Rattle.v8_decode.specs.Words.{field, signed}
unfoldable pub use Rattle.v8_decode.specs.Words.{arithmetic, branch_or_sethi, decode_of, memory}
pub use Rattle.v8_decode.specs.declared.AluOp.{AluOp}
pub use Rattle.v8_decode.specs.declared.Instr.{Instr}
pub use Rattle.v8_decode.specs.declared.LoadKind.{LoadKind}
pub use Rattle.v8_decode.specs.declared.Op2.{Op2}
pub use Rattle.v8_decode.specs.declared.StoreKind.{StoreKind}
pub use Rattle.v8_encode.specs.Code.{cleared, fits_signed, has_word, ignored_of, op2_fits}
unfoldable pub use Rattle.v8_encode.specs.Code.{encode_of}
pub use Rattle.v8_encode.specs.Encoding.{is_instruction, signed_field, word_of}
pub use Rattle.v8_text.specs.Code.{IsUnlisted, ListingsReadBack, ReadsBack}
pub use Rattle.v8_text.specs.Laws.{IsWordOf, TextsReadBack}
pub use Rattle.v8_text.specs.Parts.{all_loads, all_stores, below_zero, first_of, integer_by, leaving, setting, small, unspelled, with_operands, with_sources, words_between}
unfoldable pub use Rattle.v8_text.specs.Parts.{behind, displacement_of, instr_in, instr_of, integer_of, joined_of, loaded_of, name_of, number_in, op2_of, operands_of, raw_of, read_y_of, sethi_of, single_of, sources_of, stored_of, word_in, write_y_of}
pub use Rattle.v8_text.specs.Texts.{alu_text, branch_text, comma, instr_text, integer_text, is_spelled, line_text, lines_from, listing_text, load_text, loaded, named, number_text, op2_text, operands, raw_text, same_instr, sources, store_text, stored, target_of, trap_text}
unfoldable pub use Rattle.v8_text.specs.Texts.{is_least, word_text}
pub use Rattle.v8_text.specs.declared.names.Name.{Name}
