use Rattle.weights_in.proofs.Common.{◌+◌, ap, inl, refl, sym, view_seen, Edge, Last, entry_in, said_in}
use Rattle.weights_in.proofs.Lines.{no_next, IsNext}
use Rattle.weights_in.proofs.Read.{Answers, bad_entry, ended, fault_out, more, most_out, next_said, shorter, stray}
use Rattle.weights_in.proofs.reading.read_lines.Goals as goal
use Rattle.weights_in.proofs.reading.read_lines.Goals.{After-finish}

-- the line of an edge comes next
pub loop-line-smaller : goal.loop-line-smaller
loop-line-smaller c =
    let line : IsNext c.loop-line.rest.now (Edge (entry_in c.in-Edge.entry)) c.in-Some.after.now =
    next_said _ _ _ _ c.in-Some.ensures (ap said_in c.in-Edge.is) in
    shorter _ _ _ line.1

pub loop-line-preserved : goal.loop-line-preserved
loop-line-preserved c =
    let line : IsNext c.loop-line.rest.now (Edge (entry_in c.in-Edge.entry)) c.in-Some.after.now =
    next_said _ _ _ _ c.in-Some.ensures (ap said_in c.in-Edge.is) in
    more _ _ _ _ c.loop-line.invariant _ _ _ line.0 line.1 c.in_ok-take-in-Edge.ensures.taken

pub returns-in_err-take-in-Edge-clause-refused : goal.returns-in_err-take-in-Edge-clause-refused
returns-in_err-take-in-Edge-clause-refused c =
    let line : IsNext c.loop-line.rest.now (Edge (entry_in c.in-Edge.entry)) c.in-Some.after.now =
    next_said _ _ _ _ c.in-Some.ensures (ap said_in c.in-Edge.is) in
    let refused = c.in_err-take-in-Edge.ensures in
    let why =
    bad_entry _ _ _ _ c.loop-line.invariant (c.loop-line.reading.lines + 1) _ _ line.0 line.1 refused.bad refl in
    fault_out _ _ _ _ c.from_residual.ensures.1 (rw refused.fault why)

-- the last line comes next
answers : (c : After-finish) → Answers (view_seen c.args.v.now) c.args.bytes.now c.finish.result
answers c =
    let line : IsNext c.loop-line.rest.now (Last c.in-Last.total) c.in-Some.after.now =
    next_said _ _ _ _ c.in-Some.ensures (ap said_in c.in-Last.is) in
    ended _ _ _ _ c.loop-line.invariant _ line.0 _ line.1 _ c.finish.ensures

pub returns-in-Last-clause-weights : goal.returns-in-Last-clause-weights
returns-in-Last-clause-weights c = (answers (goal.at.returns-in-Last-clause-weights c).After-finish).weights

pub returns-in-Last-clause-refused : goal.returns-in-Last-clause-refused
returns-in-Last-clause-refused c = (answers (goal.at.returns-in-Last-clause-refused c).After-finish).refused

pub returns-in-Last-clause-most : goal.returns-in-Last-clause-most
returns-in-Last-clause-most c = most_out _ _ _ (answers (goal.at.returns-in-Last-clause-most c).After-finish)

-- no line comes next
pub returns-clause-refused : goal.returns-clause-refused
returns-clause-refused c = inl (stray _ _ _ _ c.loop-line.invariant _ (no_next _ (sym c.in_default.ensures)) refl)
