use Rattle.cfg_blocks.proofs.Common.{length, ◌∙◌, arith, rules, into_in, into_first}
use Rattle.cfg_blocks.proofs.Below.{map_below_same}
use Rattle.cfg_blocks.proofs.Entering.{all_more, into_first_is}
use Rattle.cfg_blocks.proofs.entries.CutText.intos.Goals as goal

pub returns : goal.returns
returns c =
    let list = c.args.self.now.list.now in
    let ends = c.args.self.now.word_ends.now in
    let given = c.args.self.now.given.now in
    c.in_ok-at.ensures
    ∙ map_below_same (length list.blocks.firsts) (into_first c.deref-3.result.now list.blocks.firsts) (into_in list.blocks ends given)
    (λ k h. into_first_is list.blocks ends given c.deref.result.now c.deref-2.result.now
    (λ j l. all_more _ j _ (c.deref.ensures.value ∙ c.in_ok-all.ensures.items_if_clones_equal (λ y h. h)) (omega (arith, c.args.self.now.of_ends))) (search rules) (search rules) c.deref-3.result.now k h (search rules))
