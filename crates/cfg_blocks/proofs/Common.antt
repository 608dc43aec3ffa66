-- The names that more than one proof cites, of this crate and of crates below, passed on from one place. Declares nothing.
pub use Rattle.std.proofs.Common.{[], add-one, add-zero, ap, arith, Bool, cond, count_by, false, filter, get_or, IfSome, inl, inr, length, length-append, List, map, nat_le, None, not, Option, refl, replicate, rules, slice_index, Some, suc, sym, take, true, zero, ℕ, ◌&&◌, ◌++◌, ◌+◌, ◌-◌, ◌<◌, ◌==◌, ◌||◌, ◌∙◌, ◌∷◌, ◌≡◌, ◌≤◌}
pub use Rattle.std.specs.Prelude.{slice_set}
pub use Rattle.cfg_blocks.specs.Arrivals.{added, added_all, counted, counted_from, into_at, is_bare_by, is_bare_in, is_nothing}
unfoldable pub use Rattle.cfg_blocks.specs.Arrivals.{entered_in, into_first, into_in}
pub use Rattle.cfg_blocks.specs.Blocks.{below, block_end, Blocks, follows_transfer, is_among, is_it, is_target, last_word, leads}
unfoldable pub use Rattle.cfg_blocks.specs.Blocks.{blocks_of, leaders}
pub use Rattle.cfg_blocks.specs.Code.{AreFirsts, IsAscending, TargetsWithin}
pub use Rattle.cfg_blocks.specs.Ends.{end_by, is_transfer, never, target_in, Way}
unfoldable pub use Rattle.cfg_blocks.specs.Ends.{end_at}
pub use Rattle.cfg_blocks.specs.Entries.{all_entries, Entered, entries_from, Entry, into_by, is_bare_slot, is_counted, is_empty, is_fall, leads_to, ways_from}
unfoldable pub use Rattle.cfg_blocks.specs.Entries.{entered_of, into_of}
pub use Rattle.cfg_blocks.specs.Marks.{numbers}
pub use Rattle.cfg_blocks.specs.Private.{end_in, is_in, leads_by, leads_in, marked}
unfoldable pub use Rattle.cfg_blocks.specs.Private.{block_end_in, word_ends}
pub use Rattle.cfg_blocks.specs.declared.BlockEnd.{BlockEnd}
pub use Rattle.cfg_blocks.specs.declared.BlockEnd.TheVariants.{Fall}
pub use Rattle.cfg_blocks.specs.declared.Into.{Into}
pub use Rattle.cfg_blocks.specs.declared.Into.TheVariants.{More, Nothing}
pub use Rattle.eel_base.specs.CodeText.{address_of, numbered, target_of, word_at, Words}
pub use Rattle.std.proofs.Math.Seq.{take-append_seam, take-length}
pub use Rattle.std.proofs.lemmas.Bool.{cases_lt, cond_both, le-leb, le-ltb, leb-false, leb-true, lt-leb, lt-ltb}
pub use Rattle.std.proofs.lemmas.Bool.Decides.{nat_tests}
pub use Rattle.std.proofs.lemmas.Grind.{common_steps, flat_map-append, get_or_default_zero}
pub use Rattle.std.proofs.lemmas.List.{append-nil, get_or-map, get_or-replicate, get_or_default, length-map, map-append}
pub use Rattle.std.proofs.lemmas.List.Elements.{All-get_or, All-map, filter-append}
pub use Rattle.std.proofs.lemmas.List.Folds.{list_any-append}
pub use Rattle.std.specs.List.{All, AllWithin, flat_map, list_any}
pub use Rattle.std.specs.List.Sorted.{IsPartitionedBy, IsPartitionPoint}
