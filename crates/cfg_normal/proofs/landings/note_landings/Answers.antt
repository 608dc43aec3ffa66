use Rattle.cfg_normal.proofs.LandingFacts.{noted_is}
use Rattle.cfg_normal.proofs.landings.note_landings.Goals as goal

pub returns : goal.returns
returns c = λ opens n are. record {
  long = c.put_landings.ensures.long;
  each = λ block l. rw (c.put_landings.ensures.each block) (noted_is opens c.args.found.now block c.args.number _ n (are.each block l));
}
