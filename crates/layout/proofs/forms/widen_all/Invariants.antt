use Rattle.layout.proofs.Common.{◌≡◌, ◌-◌, length, count_by, forms_in, IsOffsets, IsWidening}
use Rattle.layout.proofs.forms.widen_all.Given as goal

abbrev pub invariant-loop-pass : goal.invariant-loop-pass
invariant-loop-pass l = record {
  len : length l.forms ≡ length l.entries;
  starts : length l.at ≡ length l.fn.at;
  offsets : IsOffsets l.entries (forms_in l.forms) l.at;
  widening : IsWidening l.entries (forms_in l.forms);
}

abbrev pub decreases-loop-pass : goal.decreases-loop-pass
decreases-loop-pass l = length l.entries - count_by (λ b. b) l.forms
