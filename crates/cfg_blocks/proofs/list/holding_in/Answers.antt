use Rattle.std.proofs.Common.{rules, nat_le, sym}
use Rattle.std.proofs.lemmas.List.Sorted.{IsPartitionPoint-from_clause}
use Rattle.cfg_blocks.proofs.Counts.{partitioned, some_begun}
use Rattle.cfg_blocks.proofs.Held.{held, is_held}
use Rattle.cfg_blocks.proofs.list.holding_in.Goals as goal

pub overflow_sub-result : goal.overflow_sub-result
overflow_sub-result c =
    let point = IsPartitionPoint-from_clause
    (λ first. nat_le first c.args.word) _ _ c.partition_point.ensures.partitioned
    (partitioned _ _ c.requires.firsts.ascend) (λ a r q k. search rules) in
    some_begun _ _ _ _ c.requires.firsts point

pub returns : goal.returns
returns c =
    let point = IsPartitionPoint-from_clause
    (λ first. nat_le first c.args.word) _ _ c.partition_point.ensures.partitioned
    (partitioned _ _ c.requires.firsts.ascend) (λ a r q k. search rules) in
    let h = held _ _ c.requires.firsts _ _ c.requires.word c.partition_point.ensures.bound point in
    record { block = sym (is_held _ _ c.requires.firsts _ _ h); within = h.within; above = h.above; below = h.below }
