-- The names that more than one proof cites, of this crate and of crates below, passed on from one place. Declares nothing.
pub use Rattle.std.proofs.Common.{[], ap, append-nil, append_assoc, ap₂, arith, Bool, codes, decimal, drop, Err, false, get_or, if◌then◌else◌, inl, inr, length, List, map, max, None, Ok, Option, refl, replicate, Result, rules, slice_set, Some, subst, suc, sym, take, tests, true, zero, ℕ, ◌++◌, ◌+◌, ◌-◌, ◌<◌, ◌==◌, ◌^◌, ◌∙◌, ◌∷◌, ◌≡◌, ◌≢◌, ◌≤◌}
pub use Rattle.snippets.specs.Cells.{changed, named_by, read_by, update, updated_by, WorksBelow, WorksIn}
pub use Rattle.snippets.specs.Code.{Answers, filler, IsFault, IsFilled, IsScript}
pub use Rattle.snippets.specs.Grammar.{AllSay, IsLine, IsOp, IsSilent, IsSpelled, line_text, lines_of, Says}
pub use Rattle.snippets.specs.Laws.{IsWithin, NamedRegistersDecide}
pub use Rattle.snippets.specs.Ops.{cell_of, cells_end}
pub use Rattle.snippets.specs.Parts.{after_edge, cells_after, fault_in, IsCause, ops_at, padded, said_by, snips_after, with_op}
unfoldable pub use Rattle.snippets.specs.Parts.{bare_of, full_of, number_of, op_of, operation_of, register_of, said_of, split_at}
pub use Rattle.snippets.specs.Scripts.{cell_end, edge_end, end_of, fault_of, IsFirstFault, IsGood, on_edge, ops_on, snips_of}
pub use Rattle.snippets.specs.declared.line.Said.{Said}
pub use Rattle.snippets.specs.declared.line.Said.TheVariants.{Does, Nothing, Wrong}
pub use Rattle.snippets.specs.declared.snippet.Op.{Op}
pub use Rattle.snippets.specs.declared.snippet.Op.TheVariants.{Add, Count, Keep, Log, Put, Top}
pub use Rattle.std.proofs.Math.Seq.{get_or-append_seam, take-append_seam, take-length}
pub use Rattle.std.proofs.lemmas.Bool.{and_from, cases_lt, cond_both, eq-eqb, eqb-true, leb-false, lt-ltb, ltb-false, ne_eqb, or_left, or_right}
pub use Rattle.std.proofs.lemmas.List.{drop-drop, drop-set-lt, get_or-map, get_or-set_other, get_or-take, get_or_append_left, get_or_past, length-append, length-map, length-replicate, length-set, length-take, length_push, take-append-le, take-take, take_more}
pub use Rattle.std.specs.List.{All, range_with_len}
pub use Rattle.v8_decode.specs.Parts.{every_part, has, is_member, is_same, members, set_of}
pub use Rattle.v8_decode.specs.declared.Part.TheVariants.{Reg}
