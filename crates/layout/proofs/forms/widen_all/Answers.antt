use Rattle.layout.proofs.Common.{◌∙◌, length-replicate}
use Rattle.layout.proofs.Passing.{pass_smaller, widening_few, widening_none}
use Rattle.layout.proofs.forms.widen_all.Goals as goal

pub returns-then-all-clause-formed : goal.returns-then-all-clause-formed
returns-then-all-clause-formed c =
    widening_few _ _ _ _ c.offsets-all.ensures.at c.offsets-all.ensures.all c.if-all.true
    (rw c.requires.short (length-replicate _ _)) (rw c.requires.short (widening_none _ _))

pub loop-pass-init : goal.loop-pass-init
loop-pass-init c = record {
  len = rw c.requires.short (length-replicate _ _);
  starts = c.offsets-all.ensures.len;
  offsets = c.offsets-all.ensures.at;
  widening = rw c.requires.short (widening_none _ _);
}

pub loop-pass-preserved : goal.loop-pass-preserved
loop-pass-preserved c = record {
  len = c.widen-pass.ensures.pass.len ∙ c.loop-pass.invariant.len;
  starts = c.widen-pass.ensures.count ∙ c.loop-pass.invariant.starts;
  offsets = c.widen-pass.ensures.pass.offsets;
  widening = c.widen-pass.ensures.pass.widening;
}

pub loop-pass-smaller : goal.loop-pass-smaller
loop-pass-smaller c =
    pass_smaller _ _ _ _ c.loop-pass.invariant.len c.widen-pass.ensures.pass.len c.widen-pass.ensures.pass.count
    c.if-pass-eq0.false
