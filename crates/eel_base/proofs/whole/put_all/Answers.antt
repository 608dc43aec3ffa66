use Rattle.std.proofs.Common.{length-drop, arith}
use Rattle.std.proofs.lemmas.List.{take_rest}
use Rattle.eel_base.proofs.Parts.{appended-rest}
use Rattle.eel_base.proofs.whole.put_all.Goals as goal

pub loop-at-preserved : goal.loop-at-preserved
loop-at-preserved g c = record {
  within = let h = simp take_rest at c.in_ok-at.ensures.within in omega (arith, h, length-drop c.loop-at.at c.args.bytes.now);
  taken = appended-rest _ _ _ c.args.bytes.now c.loop-at.at c.in_ok-at.field-0 c.loop-at.invariant.taken c.in_ok-at.ensures.took;
  later = omega (arith, c.write.ensures.later);
}
