use Rattle.image_code.proofs.Common.{length-append, sym, ◌∙◌, arith, inl, inr, cases_lt}
use Rattle.image_code.proofs.Codes.{beyond, code_past, codes_are, codes_more, does_more, no_code}
use Rattle.image_code.proofs.expansion.codes_of.Goals as goal

pub loop-edge-preserved : goal.loop-edge-preserved
loop-edge-preserved c = record {
  long = simp (c.in_ok-add.ensures.spans, length-append) (omega arith);
  codes = rw (c.in_ok-add.ensures.words, c.in_ok-add.ensures.spans, c.deref.ensures.value)
      (codes_more _ _ _ _ _ c.loop-edge.invariant.long c.in_ok-code.ensures.code c.loop-edge.invariant.codes);
  does = does_more _ _ _ _ c.loop-edge.invariant.does c.in_ok-code.ensures.does;
}

pub returns-clause-codes : goal.returns-clause-codes
returns-clause-codes c = λ edge. elim (cases_lt edge c.loop-edge.edge) [
  | inl l ↦ codes_are _ c.loop-edge.codes _ _ c.loop-edge.invariant.codes l
  | inr m ↦ code_past c.loop-edge.codes edge (omega arith) ∙ sym (no_code _ _ _ edge (omega arith))
]

pub returns-clause-does : goal.returns-clause-does
returns-clause-does c = λ edge. elim (cases_lt edge c.loop-edge.edge) [
  | inl l ↦ c.loop-edge.invariant.does edge l
  | inr m ↦ beyond _ _ _ c.requires.aligned edge (omega arith)
]
