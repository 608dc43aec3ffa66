-- The names that more than one proof cites, of this crate and of crates below, passed on from one place. Declares nothing.
pub use Rattle.std.proofs.Common.{[], ap, append_assoc, ap₂, arith, Bool, codes, decimal, drop, Err, false, get_or, if◌then◌else◌, inl, inr, length, List, nat_le, nat_lt, None, not, Ok, Option, refl, Result, rules, set, Some, subst, sym, take, true, ℕ, ◌%◌, ◌&&◌, ◌*◌, ◌++◌, ◌+◌, ◌/◌, ◌<◌, ◌==◌, ◌^◌, ◌||◌, ◌∙◌, ◌∷◌, ◌≡◌, ◌≢◌, ◌≤◌}
pub use Rattle.std.specs.Prelude.{IfErr, IfOk, slice_set, Vec}
pub use Rattle.cfg_view.specs.Code.{view_seen}
pub use Rattle.cfg_view.specs.View.{Seen}
pub use Rattle.std.proofs.lemmas.Bool.{and_from, and_parts, cases_Bool, cond_both, eq-eqb, eqb-true, false_from_ne_true, le-leb, leb-true, ne_eqb}
pub use Rattle.std.proofs.lemmas.List.{get_or-replicate, get_or-set_other, length-append, take-append-drop}
pub use Rattle.std.proofs.lemmas.Option.{slice_get_read, slice_get_within}
pub use Rattle.std.proofs.lemmas.Slice.Eq.{bytes_eq-Decides}
pub use Rattle.std.specs.List.{All, flat_map, list_all, list_any, slice_get, sum_by}
pub use Rattle.std.specs.Option.{is_some, option_map}
pub use Rattle.std.specs.Str.{bytes_eq}
pub use Rattle.weights_in.specs.Parts.{Edge, entry_in, if_spelled, is_spelled, IsEnd, IsFirst, IsTaken, IsWithin, Last, Said, said_by, said_in}
unfoldable pub use Rattle.weights_in.specs.Parts.{behind, entry_of, next_of, said_of, total_of}
pub use Rattle.weights_in.specs.Weights.{AreEntries, AreGood, AreLines, AreRefused, AreWeights, count_on, Entry, entry_line, is_address, is_kind, is_node, IsBadEntry, IsBadTotal, IsBehind, IsEdgeOf, IsEntry, IsGood, IsNoLine, IsRight, IsStray, IsTotal, next_after, total_line, weight_of, weights_of}
pub use Rattle.weights_in.specs.declared.line.Total.{Total}
pub use Rattle.weights_in.specs.declared.reading.WeightFault.{WeightFault}
