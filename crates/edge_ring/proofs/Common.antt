-- The names of other crates, and of what this one states, that more than one proof cites, passed on from one place. Declares nothing.
pub use Rattle.std.proofs.Common.{List, None, [], ap, arith, drop, get_or, length, map, nat_lt, refl, replicate, rules, subst, suc, sym, take, zero, ℕ, ◌%◌, ◌++◌, ◌+◌, ◌-◌, ◌<◌, ◌^◌, ◌∙◌, ◌∷◌, ◌≡◌, ◌≤◌, inl, inr, ap₂, ◌*◌, ◌/◌, set, Bool, true, false, Option}
pub use Rattle.dump_file.specs.Code.{dump_seen}
pub use Rattle.dump_file.specs.Dump.{Dump}
pub use Rattle.edge_ring.specs.Code.{IsRingOf, IsRefused}
pub use Rattle.edge_ring.specs.Laws.{AllRingsKeepTheLast, IsOfWalk, MayRefuse, RingsTellTheLast}
pub use Rattle.edge_ring.specs.Lines.{edge_line, ring_line}
unfoldable pub use Rattle.edge_ring.specs.Lines.{ring_lines}
pub use Rattle.edge_ring.specs.Ring.{edge_in, edges_in, last_of, ring_on, round_from, next_place}
pub use Rattle.edge_ring.specs.Traces.{bad_place, IsTrace, IsWhole}
pub use Rattle.notes.specs.Code.{notes_seen, edge_seen}
pub use Rattle.notes.specs.Format.{Notes}
pub use Rattle.snippets.specs.Cells.{update, WorksBelow, place_in}
pub use Rattle.std.proofs.Math.Pow.{mod-mod-pow, pow-lt}
pub use Rattle.std.proofs.Math.Seq.{drop-append_seam, drop-nil, take-append_seam}
pub use Rattle.std.proofs.lemmas.Bool.{cases_lt, eq-eqb, eqb-true, false≢true, ltb-false}
pub use Rattle.std.proofs.lemmas.List.{append-nil, append_assoc, length-drop, length-map, take_rest, drop-append-le, drop-drop, drop-map, drop-set-lt, drop_all, length-append, length-replicate, length-set, map-append, take_all, take_more_set, take-append-drop, get_or-map}
pub use Rattle.std.proofs.lemmas.List.Elements.{All-append, All-drop, All-head, All-tail, filter_map-append, All-map, All-replicate, All-weaker, All-take, All-cons, All-nil}
pub use Rattle.std.specs.List.{All, filter_map, flat_map, position, Any, list_any, range_with_len, position_or_len}
