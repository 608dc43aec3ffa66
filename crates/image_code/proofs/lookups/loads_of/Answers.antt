use Rattle.image_code.proofs.Sources.{item_stands}
use Rattle.image_code.proofs.lookups.loads_of.Goals as goal

pub load_of-requires : goal.load_of-requires
load_of-requires c = record {
  stands = item_stands c.requires.source c.opens-found-items.ensures _ _ c.loop-found-test.true c.found-item.is;
}
