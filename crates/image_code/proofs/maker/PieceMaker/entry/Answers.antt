use Rattle.image_code.proofs.Common.{◌∙◌, ◌+◌, length, arith, length-below, length-map, le_prop}
use Rattle.image_code.proofs.Pushed.{at_below}
use Rattle.image_code.proofs.Sources.{known, known_number}
use Rattle.image_code.proofs.maker.PieceMaker.entry.Goals as goal

pub number_at-requires : goal.number_at-requires
number_at-requires c = record {
  place = known c.args.self.now.found le_prop (λ _ l.
      rw (c.deref.ensures.value, l.entries, length-map, length-below) (omega arith));
}

pub returns : goal.returns
returns c =
    c.number_at.ensures ∙ known_number c.args.self.now.found (λ _ l. rw (c.deref.ensures.value, l.entries)
    (at_below _ (length c.args.self.now.graph.now.opens + 1) c.args.number (omega arith)))
