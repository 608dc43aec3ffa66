use Rattle.instr_counts.proofs.Common.{◌≡◌, sym, ◌∙◌, eq-eqb, eqb-true, holding_of}
use Rattle.instr_counts.proofs.matching.has_entry.Goals as goal

pub returns : goal.returns
returns c =
    let v = c.args.v.now in
    let is : c.holding.result.0 ≡ holding_of v.graph.blocks v.image.entry =
    rw c.entry.ensures.word at c.holding.ensures.block in
    (λ same. eqb-true _ _ same ∙ is, λ same. eq-eqb _ _ (same ∙ sym is))
