use Rattle.image_code.proofs.Common.{◌∙◌, length-map, le_prop, load_of}
use Rattle.image_code.proofs.Sources.{known, known_number}
use Rattle.image_code.proofs.Pushed.{map_at}
use Rattle.image_code.proofs.maker.PieceMaker.load.Goals as goal

pub number_at-requires : goal.number_at-requires
number_at-requires c = record {
  place = known c.args.self.now.found le_prop (λ _ l. rw (c.deref.ensures.value, l.loads, length-map) c.requires.number);
}

pub returns : goal.returns
returns c = λ o here. c.number_at.ensures
    ∙ known_number c.args.self.now.found (λ _ l. rw (c.deref.ensures.value, l.loads)
    (map_at (load_of c.args.self.now.text.now) c.args.self.now.graph.now.opens _ o here))
