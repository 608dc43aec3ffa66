use Rattle.v8_decode.proofs.Common.{◌++◌, ap, sym, ◌∙◌, reg, op2_parts, set_of}
use Rattle.v8_decode.proofs.Marks.{joined}
use Rattle.v8_decode.proofs.effects.registers.Goals as goal

pub returns-in-Reg : goal.returns-in-Reg
returns-in-Reg c =
    joined _ _ _ _ _ c.union.ensures.value c.register.ensures c.register-in-Reg.ensures
    ∙ sym (ap (λ op2. set_of (reg c.args.rs1 ++ op2_parts op2)) c.in-Reg.is)
