use Rattle.v8_decode.proofs.Common.{ap, sym, ◌∙◌, read_set}
use Rattle.v8_decode.proofs.Marks.{joined}
use Rattle.v8_decode.proofs.effects.reads.Goals as goal

pub returns-in-Alu : goal.returns-in-Alu
returns-in-Alu c = joined _ _ _ _ _ c.union.ensures.value c.registers.ensures c.inputs.ensures ∙ sym (ap read_set c.in-Alu.is)

pub returns-in-Store : goal.returns-in-Store
returns-in-Store c =
    joined _ _ _ _ _ c.union-in-Store.ensures.value c.registers-in-Store.ensures c.stored.ensures ∙ sym (ap read_set c.in-Store.is)

pub returns-in-Swap : goal.returns-in-Swap
returns-in-Swap c =
    joined _ _ _ _ _ c.union-in-Swap.ensures.value c.registers-in-Swap.ensures c.register.ensures ∙ sym (ap read_set c.in-Swap.is)
