use Rattle.cfg_normal.proofs.Common.{sym, ap, ◌∙◌, is_jump_block}
use Rattle.cfg_normal.proofs.LandingFacts.{closed_jumps, closed_meets}
use Rattle.cfg_normal.proofs.opening.is_closed.Goals as goal

pub returns-then-is_jump_block : goal.returns-then-is_jump_block
returns-then-is_jump_block c = λ opens are tabled.
    c.if-is_jump_block.true ∙ closed_jumps c.args.text.now c.args.blocks.now opens c.args.switch c.args.block.0 _ c.requires.holding (are.each c.args.block.0 c.requires.block)
    (ap is_jump_block (sym c.landing_of.ensures) ∙ sym c.is_jump_block.ensures ∙ c.if-is_jump_block.true)

pub returns-else-is_jump_block : goal.returns-else-is_jump_block
returns-else-is_jump_block c = λ opens are tabled.
    c.any_marked.ensures ∙ closed_meets c.args.text.now c.args.blocks.now opens c.args.switch c.args.block.0 _ c.args.tabled.now c.table_start.result
    c.requires.holding (are.each c.args.block.0 c.requires.block)
    (ap is_jump_block (sym c.landing_of.ensures) ∙ sym c.is_jump_block.ensures ∙ c.if-is_jump_block.false) tabled
    c.table_start.ensures.start c.table_start.ensures.within
