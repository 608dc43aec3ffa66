use Rattle.v8_alu.proofs.Forms.{decode_of-form}
use Rattle.v8_alu.proofs.decoded_forms.Goals as goal

pub returns : goal.returns
returns c = decode_of-form
