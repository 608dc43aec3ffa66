-- the shifted word under a mask of `width` ones is the field
use Rattle.v8_decode.proofs.Common.{◌/◌, ◌-◌, ◌^◌, bit_and, ap, ◌∙◌, and_mask, one_shl}
use Rattle.v8_decode.proofs.tables.bits.Goals as goal

pub returns-clause-value : goal.returns-clause-value
returns-clause-value c =
    ap (λ m. bit_and (c.args.word / 2 ^ c.args.low) (m - 1)) (one_shl c.args.width 32 c.requires.width)
    ∙ and_mask (c.args.word / 2 ^ c.args.low) c.args.width
