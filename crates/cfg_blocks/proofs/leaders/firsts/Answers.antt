use Rattle.cfg_blocks.proofs.Common.{◌≡◌, true, length, ◌∙◌, refl, rules, arith, slice_set, take-append_seam}
use Rattle.cfg_blocks.proofs.Below.{filter_below_same, filter_below_firsts}
use Rattle.cfg_blocks.proofs.Marks.{leads_marked}
use Rattle.cfg_blocks.proofs.leaders.firsts.Goals as goal

pub returns-clause-words : goal.returns-clause-words
returns-clause-words c =
    let before : c.deref_mut.result.now ≡ slice_set c.args.given.now 0 true = search rules in
    let long : c.in_ok-marks.marks.len ≡ length c.mark_targets.new.marks = search rules in
    let after : c.deref.result.now ≡ c.mark_targets.new.marks = c.deref.ensures.value ∙ rw long (take-append_seam _ _) in
    c.in_ok-words.ensures ∙ filter_below_same (length c.args.ends.now) _ _ (λ k h.
    leads_marked c.args.ends.now c.args.given.now c.deref.result.now k (omega (arith, c.requires.some, c.requires.words))
    (rw (after, ← before) (c.mark_targets.ensures k (search rules))))

pub returns-clause-firsts : goal.returns-clause-firsts
returns-clause-firsts c =
    rw (returns-clause-words c) (filter_below_firsts _ _ c.requires.some refl)
