use Rattle.cfg_blocks.proofs.Common.{rules, ◌≡◌, ◌<◌, ◌∙◌, length, slice_index, ap, arith, get_or_default_zero, AreFirsts, Entered}
use Rattle.cfg_blocks.proofs.list.BlockList.first.Goals as goal

pub returns : goal.returns
returns c =
    let kept = ap (λ (l : Entered). l.blocks.firsts) c.self.view_is in
    let inside : c.args.b.0 < length c.self.inside.firsts.items = rw kept c.requires in
    let first : c.index.result.now ≡ slice_index c.args.self.now.blocks.firsts c.args.b.0 =
    rw (← kept) (c.index.ensures ∙ get_or_default_zero _ _ _ inside) in
    let firsts : AreFirsts c.args.self.now.blocks.words c.args.self.now.blocks.firsts = search rules in
    record { first = first; within = omega (arith, firsts.within c.args.b.0 c.requires) }
