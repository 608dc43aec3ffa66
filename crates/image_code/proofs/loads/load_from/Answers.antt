use Rattle.image_code.proofs.Common.{◌≡◌, suc, ◌+◌, ◌-◌, refl, ap, ◌∙◌, arith, load_after, loads_at}
use Rattle.cfg_blocks.specs.Values.{followed}
use Rattle.image_code.proofs.Sources.{found_next}
use Rattle.image_code.proofs.loads.load_from.Goals as goal

pub loop-word-preserved : goal.loop-word-preserved
loop-word-preserved c =
    let first = c.args.approach.first in
    let word = c.loop-word.word in
    let more : suc (word - first) ≡ word + 1 - first = omega arith in
    let here : word + 0 ≡ first + (word - first) = omega arith in
    record {
      values = rw (c.follow.ensures.value, c.loop-word.invariant.values, here)
          (ap (followed c.args.text.now c.args.values.now first) more);
      long = c.follow.ensures.count;
      left = c.loop-word.invariant.left
          ∙ found_next (loads_at c.args.text.now c.args.values.now c.args.approach c.args.table) word _ c.loop-word-test.true
          ∙ rw (← c.loop-word.invariant.values, ← c.word.ensures, ← c.is_load.ensures, c.if-is_load.false) refl;
    }

pub returns-then-is_load-clause-load : goal.returns-then-is_load-clause-load
unfolding load_after
returns-then-is_load-clause-load c =
    let next = found_next (loads_at c.args.text.now c.args.values.now c.args.approach c.args.table) _ _
    c.loop-word-test.true in
    rw (c.loop-word.invariant.left, next, ← c.loop-word.invariant.values, ← c.word.ensures)
    (rw (← c.is_load.ensures, c.if-is_load.true) refl)

pub returns-clause-load : goal.returns-clause-load
unfolding load_after
returns-clause-load c =
    let none : c.args.approach.jump - c.loop-word.word ≡ 0 = omega arith in
    rw (c.loop-word.invariant.left, none) refl
