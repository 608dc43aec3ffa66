use Rattle.eel.proofs.Answered.{done_shown, refused_shown, unrefused_shown, wanting_shown, failed_shown}
use Rattle.eel.proofs.top.eel.Goals as goal

pub returns-clause-done : goal.returns-clause-done
returns-clause-done g c =
    done_shown _ _ _ _ _ c.show.ensures.shows c.perform-outcome.ensures.err_faults c.show.ensures.later _
    c.perform-outcome.ensures.follows

pub returns-clause-refused : goal.returns-clause-refused
returns-clause-refused g c =
    refused_shown _ _ _ _ _ c.show.ensures.shows c.perform-outcome.ensures.err_faults c.show.ensures.later _
    c.perform-outcome.ensures.follows

pub returns-clause-unrefused : goal.returns-clause-unrefused
returns-clause-unrefused g c =
    unrefused_shown _ _ _ _ _ c.show.ensures.shows c.perform-outcome.ensures.err_faults c.show.ensures.later _
    c.perform-outcome.ensures.follows

pub returns-clause-wanting : goal.returns-clause-wanting
returns-clause-wanting g c =
    wanting_shown _ _ _ _ _ c.show.ensures.shows c.perform-outcome.ensures.err_faults c.show.ensures.later _
    c.perform-outcome.ensures.follows

pub returns-clause-failed : goal.returns-clause-failed
returns-clause-failed g c =
    failed_shown _ _ _ _ _ c.show.ensures.shows c.perform-outcome.ensures.err_faults c.show.ensures.later _
    c.perform-outcome.ensures.follows
