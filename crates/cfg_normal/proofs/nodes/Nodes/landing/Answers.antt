use Rattle.cfg_normal.specs.Landings.{AreNodes}
use Rattle.cfg_normal.proofs.nodes.Nodes.landing.Goals as goal

pub returns : goal.returns
returns c =
    let known : AreNodes c.args.self.now c.self.inside.landings.items = rw c.self.view_is at c.self.invariant in
    record {
      landing = rw (c.landing_of.ensures, c.deref.ensures.value) (known.landings.each c.args.block.0 c.requires);
      opens = known.opens;
    }
