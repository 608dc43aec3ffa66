use Rattle.std.proofs.Common.{◌≡◌, ◌≤◌, take}
use Rattle.eel_base.specs.Outside.{appended}
use Rattle.eel_said.specs.Private.{joined}
use Rattle.eel_said.proofs.outcome.put_pieces.Given as goal

abbrev pub invariant-loop-piece : goal.invariant-loop-piece
invariant-loop-piece g l = record {
  taken : g.E.Sink.taken l.err ≡ appended (g.E.Sink.taken l.initial.err) (joined (take l.piece-index l.pieces));
  later : g.E.Sink.faults l.initial.err ≤ g.E.Sink.faults l.err;
}
