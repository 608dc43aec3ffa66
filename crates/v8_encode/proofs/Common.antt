-- The names that more than one proof cites, of this crate and of crates below, passed on from one place. Declares nothing.
pub use Rattle.std.proofs.Common.{[], ap, ap₂, arith, Bool, cond, false, get_or, length, List, map, nat_lt, negsuc, None, pos, refl, set, Some, suc, sym, take, true, ℕ, ℤ, ◌%◌, ◌&&◌, ◌*◌, ◌+◌, ◌-ℤ◌, ◌-◌, ◌<◌, ◌==◌, ◌^◌, ◌∙◌, ◌∷◌, ◌≡◌, ◌≤◌}
pub use Rattle.std.specs.Prelude.{IfSome, if◌then◌else◌, IsSome, IsTrue, ◌↔◌}
pub use Rattle.std.proofs.lemmas.Bool.{and_from, and_parts, cond_both, eqb-false, eqb-true, le-ltb, lt-ltb, ltb-false, ltb-true, true≢false}
pub use Rattle.std.proofs.lemmas.Bool.Decides.{nat_tests}
pub use Rattle.std.proofs.lemmas.List.{length-replicate, length-set, map-append, take_all, take_more, take_more_set}
pub use Rattle.v8_decode.proofs.Rows.{decode_of-arithmetic, decode_of-call, decode_of-format2, decode_of-memory, row_by_row}
unfoldable pub use Rattle.v8_decode.proofs.Rows.{Each}
pub use Rattle.v8_decode.specs.Forms.{has_form}
pub use Rattle.v8_decode.specs.Ranges.{has_even_pair, is_in_range, op2_in_range, operands_in_range}
pub use Rattle.v8_decode.specs.Words.{alu, arithmetic_rows, call, cond_of, field, load, memory_rows, op2_of, op2_rows, op3_of, rd_of, Row, row_of, rs1_of, signed, store}
unfoldable pub use Rattle.v8_decode.specs.Words.{arithmetic, branch_or_sethi, decode_of, memory}
pub use Rattle.v8_decode.specs.declared.AluOp.{AluOp}
pub use Rattle.v8_decode.specs.declared.Instr.{Instr}
pub use Rattle.v8_decode.specs.declared.LoadKind.{LoadKind}
pub use Rattle.v8_decode.specs.declared.Op2.{Op2}
pub use Rattle.v8_decode.specs.declared.StoreKind.{StoreKind}
pub use Rattle.v8_encode.specs.Code.{cleared, fits_signed, has_word, ignored_beside, ignored_of, op2_fits, words_of}
unfoldable pub use Rattle.v8_encode.specs.Code.{encode_of}
pub use Rattle.v8_encode.specs.Encoding.{alu_op3, annul_bit, format2, format3, is_instruction, load_op3, op2_field, signed_field, store_op3, word_of}
