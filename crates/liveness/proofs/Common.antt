-- The names that more than one proof cites, of this crate and of crates below, passed on from one place. Declares nothing.
pub use Rattle.std.proofs.Common.{[], ap, arith, Bool, false, inl, inr, length, length-take, List, map, not, refl, slice_index, subst, suc, sym, take, true, zero, ℕ, ◌&&◌, ◌*◌, ◌++◌, ◌+◌, ◌-◌, ◌<◌, ◌||◌, ◌↔◌, ◌∙◌, ◌∷◌, ◌≡◌, ◌≤◌, ◌⊎◌}
pub use Rattle.std.specs.Prelude.{if◌then◌else◌, IsTrue, nat_lt, Some}
pub use Rattle.cfg_blocks.specs.Blocks.{block_end, holding_of, size_of}
pub use Rattle.cfg_blocks.specs.Code.{AreFirsts}
pub use Rattle.cfg_normal.specs.Code.{IsEdgeIn, IsGraph, IsNodeIn}
pub use Rattle.cfg_normal.specs.Graph.{Graph, lands}
pub use Rattle.cfg_normal.specs.Numbers.{node_number, node_numbers}
pub use Rattle.cfg_normal.specs.Opens.{is_behind, is_copied, jumps_in, Open}
pub use Rattle.cfg_normal.specs.declared.Edge.{Edge}
pub use Rattle.cfg_normal.specs.declared.Node.{Node}
pub use Rattle.cfg_normal.specs.declared.Node.TheVariants.{Block, Landed, X}
pub use Rattle.flood.specs.Flood.{AreLinks, at, IsLiveIn, link_at, Passes, Reaches, Sets}
pub use Rattle.flood.specs.declared.Link.{Link}
pub use Rattle.liveness.specs.Live.{After, Along, At, Behind, beyond, edge_at, Goes, GoesOnAt, Holds, HoldsIn, is_landing, is_outside, IsFirst, IsLast, IsLive, IsLiveOn, named_on, Point, reads_at, slot_writes, writes_at}
pub use Rattle.liveness.specs.Search.{Adds, AreCopies, AreJoined, AreLinksOf, AreLivePlaces, AreMarks, AreRead, Between, copies_from, edge_link, first_in, In, is_ahead, is_marked, IsInside, IsMarked, IsOf, IsOnward, landing_link, last_in, LinksAlong, LinksAlongAny, LinksIn, LinksInAny, LinksLanding, LinksNext, LinksOnto, LinksOntoAny, LinksOntoBlock, LivesAtLanding, LivesInCopy, LivesOnto, next_link, node_place, nodes_from, place_of, ReadsAt, ReadsIn, ReadsOf, ReadsOfAny, ReadsOnAny, ReadsOnEdge, target_of}
pub use Rattle.std.proofs.lemmas.Bool.{and_from, and_parts, cases_lt, cases_order, cond_both, false_from_ne_true, false≢true, le-ltb, lt-ltb, not-true, not_from_false, or_cases, or_from, or_left, or_parts, or_right}
pub use Rattle.std.proofs.lemmas.List.{get_or-take, get_or_append_left, get_or_default, get_or_push, get_or_read}
pub use Rattle.std.proofs.lemmas.List.Elements.{All-get_or, Contains-append_left, Contains-get_or, Contains-push, Contains-push_cases}
pub use Rattle.std.specs.List.{Contains}
pub use Rattle.v8_decode.specs.Code.{minus}
pub use Rattle.v8_decode.specs.Parts.{has, set_of}
unfoldable pub use Rattle.v8_decode.specs.Parts.{every_part, members}
pub use Rattle.v8_decode.specs.declared.Part.{Part}
