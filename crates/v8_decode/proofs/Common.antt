-- The names that more than one proof cites, of this crate and of crates below, passed on from one place. Declares nothing.
pub use Rattle.std.proofs.Common.{[], ap, arith, bit_and, bit_or, bit_xor, Bool, cond, length, List, nat_eq, nat_le, nat_lt, not, refl, suc, sym, true, zero, ℕ, ◌%◌, ◌&&◌, ◌*◌, ◌++◌, ◌+◌, ◌-◌, ◌/◌, ◌<◌, ◌==◌, ◌^◌, ◌||◌, ◌∙◌, ◌∷◌, ◌≡◌, ◌≤◌}
pub use Rattle.std.specs.Prelude.{filter}
pub use Rattle.std.proofs.Math.Bool.{and-or_distrib_left, and_assoc, or-false, or-true, or_assoc}
pub use Rattle.std.proofs.lemmas.Bool.{and_from, cond_both, eqb-true, lt-ltb}
pub use Rattle.std.proofs.lemmas.Bool.Decides.{nat_tests}
pub use Rattle.std.proofs.lemmas.Nat.{and_le_l, and_mask, and_mod, mod-pow-add, one_shl, ones-le, ones_cat, or_lt, or_mod, shr-shr}
pub use Rattle.std.proofs.lemmas.Nat.Bits.{bit_at-lt, bit_at_and, bit_at_clear_other, bit_at_clear_same, bit_at_lowest, bit_at_or, bit_at_set_other, bit_at_set_same, bit_at_xor, shr_and_one}
pub use Rattle.v8_decode.specs.Code.{minus, without}
pub use Rattle.v8_decode.specs.Effects.{alu_inputs, op2_parts, read_set, reg, when, write_set}
pub use Rattle.v8_decode.specs.MaskLaws.{every_part_length, every_part_placed, IsPlacedFrom, mask_of-parts_of}
pub use Rattle.v8_decode.specs.Masks.{is_marked, parts_of, place_of}
pub use Rattle.v8_decode.specs.Parts.{has, is_member, is_same, registers_from, set_of}
unfoldable pub use Rattle.v8_decode.specs.Parts.{every_part, members}
pub use Rattle.v8_decode.specs.declared.Part.{Part}
pub use Rattle.v8_decode.specs.declared.Part.TheVariants.{Icc, Reg, Y}
