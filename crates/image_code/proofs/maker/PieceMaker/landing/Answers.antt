use Rattle.image_code.proofs.Sources.{lands_within}
use Rattle.image_code.proofs.maker.PieceMaker.landing.Goals as goal

pub enter-requires : goal.enter-requires
enter-requires c = lands_within c.args.self.now.found _ _ c.requires.node c.requires.word
