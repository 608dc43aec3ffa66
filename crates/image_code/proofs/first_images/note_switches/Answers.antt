use Rattle.image_code.proofs.Common.{arith, ◌∙◌}
use Rattle.image_code.proofs.OpenNumbers.{open_more, facts_of, switch_noted}
use Rattle.image_code.proofs.Positions.{looked_up}
use Rattle.image_code.proofs.Sources.{item_stands}
use Rattle.image_code.proofs.first_images.note_switches.Goals as goal

pub pieces_of-requires : goal.pieces_of-requires
pieces_of-requires c =
    let stands = item_stands c.requires.source c.opens-found-items.ensures _ _ c.loop-found-test.true c.found-item.is in
    record { compare = stands.from; block = stands.block }

pub note_switch-requires : goal.note_switch-requires
note_switch-requires c =
    let stands = item_stands c.requires.source c.opens-found-items.ensures _ _ c.loop-found-test.true c.found-item.is in
    record {
      compare = stands.from;
      block = stands.block;
      long = c.loop-found.invariant.long ∙ c.requires.long;
      small = omega (arith, c.in_ok-end.ensures.few, c.in_ok-end.ensures.same);
    }

pub loop-found-preserved : goal.loop-found-preserved
loop-found-preserved c =
    let among = looked_up _ _ _ _ c.opens-found-items.ensures c.loop-found-test.true c.found-item.is in
    record {
      noted = switch_noted _ _ (facts_of _ _ c.requires.source) _ _ among _ _ _
          (rw c.loop-found.invariant.here at c.note_switch.ensures.noted) c.loop-found.invariant.noted;
      long = c.note_switch.ensures.long ∙ c.loop-found.invariant.long;
      here = c.in_ok-end.ensures.same ∙ open_more c.args.text.now c.args.graph.now _ c.opens-found-items.ensures _ _
          c.loop-found-test.true c.found-item.is _ _ (c.from.ensures ∙ c.loop-found.invariant.here) c.pieces_of.ensures.count;
      few = omega (arith, c.in_ok-end.ensures.few);
    }
