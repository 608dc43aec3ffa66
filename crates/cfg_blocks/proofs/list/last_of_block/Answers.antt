use Rattle.std.proofs.Common.{rules, ◌≡◌, ◌<◌, ◌≤◌, suc, length, slice_index, arith}
use Rattle.cfg_blocks.proofs.Held.{ends_at_next, ends_at_words}
use Rattle.cfg_blocks.proofs.list.last_of_block.Goals as goal

pub returns-in-Some : goal.returns-in-Some
returns-in-Some c =
    let more : suc c.args.block < length c.args.firsts.now = search rules in
    let next : c.in-Some.next.now ≡ slice_index c.args.firsts.now (suc c.args.block) = search rules in
    let end = ends_at_next _ _ c.requires.firsts c.args.block more in
    let within = c.requires.firsts.within (suc c.args.block) more in
    record { value = omega arith; within = omega arith }

pub returns-in-None : goal.returns-in-None
returns-in-None c =
    let last : length c.args.firsts.now ≤ suc c.args.block = search rules in
    let end = ends_at_words _ _ c.requires.firsts c.args.block last in
    record { value = omega arith; within = omega (arith, c.requires.firsts.some, c.requires.firsts.few) }

pub overflow_sub-result : goal.overflow_sub-result
overflow_sub-result c =
    let more : suc c.args.block < length c.args.firsts.now = search rules in
    let next : c.in-Some.next.now ≡ slice_index c.args.firsts.now (suc c.args.block) = search rules in
    omega (arith, c.requires.firsts.ascend c.args.block (suc c.args.block) (omega arith) more)
