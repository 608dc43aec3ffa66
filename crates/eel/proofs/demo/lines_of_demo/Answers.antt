use Rattle.eel_reports.proofs.Made.{made_is_tame}
use Rattle.eel.proofs.demo.lines_of_demo.Goals as goal

pub told_of-requires : goal.told_of-requires
told_of-requires c =
    rw (c.deref.ensures.value, c.in_ok-original.ensures.file)
    (made_is_tame c.args.number c.args.routines c.requires.some c.requires.few)
