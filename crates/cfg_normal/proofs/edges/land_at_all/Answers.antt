use Rattle.cfg_normal.proofs.Common.{add-one, append_assoc, append-nil, map-append, flat_map-append}
use Rattle.cfg_normal.proofs.edges.land_at_all.Goals as goal

pub loop-block-preserved : goal.loop-block-preserved
loop-block-preserved c =
    rw (add-one, c.in_ok-land_in.ensures, c.loop-block.invariant)
    (simp (flat_map-append, map-append, append_assoc, append-nil))
