use Rattle.image_code.proofs.Common.{le-ltb, lt-ltb, refl, sym, ◌∙◌}
use Rattle.image_code.proofs.OpenNumbers.{behind_numbered, none_numbered}
use Rattle.image_code.proofs.maker.PieceMaker.saved_before.Goals as goal

pub returns-then-word-load : goal.returns-then-word-load
returns-then-word-load c =
    sym (behind_numbered c.args.self.now.text.now c.args.self.now.graph.now c.args.block.0 _ _ _
    (sym c.jump_of.ensures.number ∙ c.in-Some.is) c.load.ensures
    ∙ rw (lt-ltb _ _ c.if-word-load.true) refl)

pub returns-else-word-load : goal.returns-else-word-load
returns-else-word-load c =
    sym (behind_numbered c.args.self.now.text.now c.args.self.now.graph.now c.args.block.0 _ _ _
    (sym c.jump_of.ensures.number ∙ c.in-Some.is) c.load.ensures
    ∙ rw (le-ltb _ _ c.if-word-load.false) refl)

pub returns-in-None : goal.returns-in-None
returns-in-None c =
    sym (none_numbered c.args.self.now.text.now c.args.self.now.graph.now c.args.block.0 (sym c.jump_of.ensures.number ∙ c.in-None.is) _)
