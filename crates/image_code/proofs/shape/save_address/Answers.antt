use Rattle.std.proofs.Common.{sym, ◌∙◌}
use Rattle.image_code.proofs.Operands.{operand_fits}
use Rattle.image_code.proofs.shape.save_address.Goals as goal

pub save_load_address_code-requires : goal.save_load_address_code-requires
save_load_address_code-requires c = record { fits = operand_fits _ _ (sym c.decode.ensures.value ∙ c.in-Load.is) }
