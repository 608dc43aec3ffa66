use Rattle.image_code.proofs.Sources.{known}
use Rattle.image_code.proofs.OpenNumbers.{reached_prop, first_word_of}
use Rattle.image_code.proofs.maker.PieceMaker.way.Goals as goal

pub way_by-requires : goal.way_by-requires
way_by-requires c = record {
  edge = c.requires.edge;
  to = known c.args.self.now.found (reached_prop c.args.self.now.graph.now c.args.edge.now.to c.first_word.result.0) (λ g _.
      rw c.first_word.ensures (first_word_of _ _ g _ c.requires.edge.to));
}
