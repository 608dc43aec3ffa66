use Rattle.std.proofs.Common.{sym, ◌∙◌}
use Rattle.image_code.proofs.Operands.{operand_fits}
use Rattle.image_code.proofs.maker.PieceMaker.image.Goals as goal

pub jump_image-requires-clause-fits : goal.jump_image-requires-clause-fits
jump_image-requires-clause-fits c = operand_fits _ _ (sym c.decode.ensures.value ∙ c.in-Jmpl.is)
