use Rattle.count_rebuild.proofs.Common.{sym, ◌<◌, Bool, ◌||◌, List, get_or, length, refl, ap, ◌∙◌, arith, ◌==◌, list_any, take_all, or-false, marked, range_seen, lies_at}
use Rattle.eel_base.specs.declared.range.Range as declared_range
use Rattle.count_rebuild.proofs.NodeMarks.{any_more}
use Rattle.count_rebuild.proofs.nodes.mark_ranges.Goals as goal

abbrev no_range : declared_range.Range
no_range = record { lo = record { 0 = 0 }; hi = record { 0 = 0 }; address = record { 0 = 0 }; node = 0 }

pub loop-range-init : goal.loop-range-init
loop-range-init c = record { len = refl; marks = λ node l. sym (or-false _) }

pub loop-range-preserved : goal.loop-range-preserved
loop-range-preserved c =
    let before = c.loop-range.invariant in
    let ranges = c.args.ranges.now in
    let i = c.loop-range.range-index in
    record {
      len = c.mark.ensures.len ∙ before.len;
      marks = λ node l.
          let within : node < length c.loop-range.nodes = omega (arith, l, before.len) in
          let range : declared_range.Range = get_or ranges i no_range in
          c.mark.ensures.marks node within
          ∙ ap (λ (x : Bool). x || (range.node == node)) (before.marks node l)
          ∙ any_more (λ (range : declared_range.Range). lies_at node (range_seen range)) ranges i no_range c.loop-range-test.true _;
    }

pub returns-clause-marks : goal.returns-clause-marks
returns-clause-marks c =
    λ node l.
    c.loop-range.invariant.marks node l
    ∙ ap (λ (ranges : List declared_range.Range). marked c.args.nodes.now node || list_any (λ range. lies_at node (range_seen range)) ranges)
    (take_all c.loop-range.range-index c.args.ranges.now c.loop-range-test.false)
