use Rattle.std.proofs.Common.{◌∙◌}
use Rattle.image_code.proofs.Sources.{load_is}
use Rattle.image_code.proofs.loads.load_of.Goals as goal

pub returns-clause-load : goal.returns-clause-load
returns-clause-load c =
    c.load_from.ensures.load ∙ rw (c.follow_slot.ensures.value, c.approach-approach.ensures, c.switch.ensures)
    (load_is c.args.text.now c.args.found.now)
