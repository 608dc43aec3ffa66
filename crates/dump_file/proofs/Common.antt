-- The names that more than one proof cites, of this crate and of crates below, passed on from one place. Declares nothing.
pub use Rattle.std.proofs.Common.{[], ap, arith, Bool, drop, false, get_or, if◌then◌else◌, length, List, None, Ok, Option, refl, Result, Some, subst, suc, sym, take, true, zero, ℕ, ◌*◌, ◌++◌, ◌+◌, ◌<◌, ◌==◌, ◌^◌, ◌∙◌, ◌∷◌, ◌≡◌, ◌≤◌}
pub use Rattle.std.specs.Prelude.{nat_le}
pub use Rattle.byteorder.specs.Endian.{big_bytes, big_number, IsRead}
pub use Rattle.byteorder.specs.Numbers.{big_from-lt, big_number-reads_back, length-bytes_high_first}
pub use Rattle.dump_file.specs.Code.{IsDump}
pub use Rattle.dump_file.specs.Dump.{Dump, kind_of, number_of}
pub use Rattle.dump_file.specs.Reading.{count_place, ending_of, field_at, fits, found, kept, length_at, number_limit}
unfoldable pub use Rattle.dump_file.specs.Reading.{count_at, ending_at, read_dump, version_at, words_of}
pub use Rattle.dump_file.specs.Written.{mark}
unfoldable pub use Rattle.dump_file.specs.Written.{dump_bytes, words_bytes}
pub use Rattle.notes.specs.Format.{is_version}
pub use Rattle.std.proofs.Math.Seq.{drop-append_seam, take-append_seam}
pub use Rattle.std.proofs.lemmas.Bool.{eq-eqb, eqb-true, false≢true, le-leb, leb-true, ltb-true}
pub use Rattle.std.proofs.lemmas.List.{append_assoc, drop-drop, get_or-drop, length-append, length-drop}
pub use Rattle.std.specs.List.{All, flat_map}
pub use Rattle.v8_step.specs.declared.Ending.{Ending}
