use Rattle.std.proofs.Common.{ℕ, List, ap, ◌∙◌, refl, subst}
use Rattle.cfg_view.specs.View.{Seen, view_of}
use Rattle.count_rebuild.specs.Code.{IsRefused}
use Rattle.count_rebuild.specs.declared.fault.CountFault.{CountFault}
use Rattle.count_rebuild.specs.declared.fault.CountFault.TheVariants as faults
use Rattle.dump_file.specs.Dump.{Dump}
use Rattle.dump_file.specs.Code.{dump_seen}
use Rattle.notes.specs.Format.{Notes}
use Rattle.notes.specs.Code.{notes_seen}
use Rattle.instr_counts.specs.Answers.{AreVisits}
use Rattle.instr_counts.specs.Lines.{visit_lines}
use Rattle.eel_reports.specs.Answers.Visits.{HasEveryWord, IsUnvisited}
use Rattle.eel_reports.specs.Private.{uncounted_of}
use Rattle.eel_reports.proofs.visits.visit_lines.Goals as goal

-- what refuses counts refuses visits
unvisited : (written file name : List ℕ) (notes : Notes) (dump : Dump) (fault : CountFault) → HasEveryWord file notes
    → IsRefused notes dump fault → IsUnvisited written file name notes dump (uncounted_of written name fault)
unvisited written file name notes dump faults.NoProfile every is = (refl, every, is)
unvisited written file name notes dump (faults.Version of wanted) every is = (refl, every, is)
unvisited written file name notes dump (faults.Other length wanted) every is = (refl, every, is)
unvisited written file name notes dump (faults.Shape cells wanted) every is = (refl, every, is)
unvisited written file name notes dump (faults.TooLong steps) every is = (refl, every, is)
unvisited written file name notes dump (faults.Between pc) every is = (refl, every, is)
unvisited written file name notes dump (faults.Negative edge value) every is = (refl, every, is)
unvisited written file name notes dump (faults.Large edge value) every is = (refl, every, is)
unvisited written file name notes dump faults.NoMemory every is = every.sound

pub returns-clause-lines : goal.returns-clause-lines
unfolding view_of
returns-clause-lines c =
    let (visits, are, tell) = c.in_ok-lines.ensures in
    let seen = c.in_ok-view.ensures.view in
    let notes = notes_seen c.args.notes.now in
    record {
      counts = c.in-Ok.times.items;
      visits = visits;
      every = c.in_ok-view.ensures.every;
      flow = c.in-Ok.ensures.counts;
      are = subst
          (λ (view : Seen). AreVisits view notes (dump_seen c.args.state.now) c.in-Ok.times.items visits) seen (rw c.deref.ensures.value at are);
      tell = tell ∙ ap (λ (view : Seen). visit_lines view.image.text visits) seen;
    }

pub returns-in-Err-clause-refused : goal.returns-in-Err-clause-refused
returns-in-Err-clause-refused c =
    rw c.refusal.ensures (unvisited _ _ _ _ _ _ c.in_ok-view.ensures.every c.in-Err.ensures.refused)
