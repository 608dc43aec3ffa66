use Rattle.layout.proofs.Common.{length, ◌∙◌, refl, sym, append-nil, arith, address_of, forms_in}
use Rattle.layout.proofs.Offsets.{ranges_more}
use Rattle.layout.proofs.Widening.{rises}
use Rattle.layout.proofs.Walked.{more_left, walk_end, walk_low, walk_more, walk_none}
use Rattle.layout.proofs.assembler.Assembler.ranges_of.Goals as goal

pub loop-long-init : goal.loop-long-init
loop-long-init c = record {
  walk = walk_none _ _ _ c.cursor-left.ensures;
  ranges = rw (c.in_ok-ranges.ensures.items, c.cursor-left.ensures) refl;
}

pub next-entry-requires : goal.next-entry-requires
next-entry-requires c =
    let layout = c.args.self.now in
    record {
      more = more_left layout.entries.now _ _ c.loop-long.invariant.walk.rest
          (omega (arith, c.loop-long-test.true, layout.formed));
    }

pub address-requires : goal.address-requires
address-requires c =
    let layout = c.args.self.now in
    let r = rises layout.entries.now (forms_in layout.forms.now) c.loop-long.long-index (length layout.entries.now)
    (omega (arith, c.loop-long-test.true, layout.formed)) in
    record { low = omega (arith, r, c.loop-long.invariant.walk.words, layout.low) }

pub overflow_add-here : goal.overflow_add-here
overflow_add-here c =
    let layout = c.args.self.now in
    let low = walk_low _ _ _ _ _ c.loop-long.invariant.walk (omega (arith, c.loop-long-test.true, layout.formed))
    layout.small in
    omega (arith, low, c.width-here.ensures.small)

pub loop-long-preserved : goal.loop-long-preserved
loop-long-preserved c =
    let layout = c.args.self.now in
    record {
      walk = walk_more _ _ _ _ _ _ _ _ c.loop-long.invariant.walk c.next-entry.ensures c.width-here.ensures.value;
      ranges = ranges_more (address_of layout.base.0 layout.entries.now (forms_in layout.forms.now)) _ _ _ _ _ _ _ _ _ _
          c.next-entry.ensures (cc (c.address.ensures, c.loop-long.invariant.walk.words)) c.loop-long.invariant.ranges
          c.in_ok-open_mark.ensures.ranges c.in_ok-open_mark.ensures.mark;
    }

pub returns : goal.returns
returns c =
    let none = walk_end _ _ _ _ _ c.loop-long.invariant.walk
    (omega (arith, c.loop-long-test.false, c.loop-long.auto.long-index-end, c.args.self.now.formed)) in
    sym (append-nil c.loop-long.ranges.items) ∙ rw none at c.loop-long.invariant.ranges
