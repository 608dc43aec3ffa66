use Rattle.std.proofs.Common.{ℕ, List, [], ◌∷◌, sym, subst}
use Rattle.std.specs.Prelude.{codes}
use Rattle.eel_said.specs.Private.{Wrote}
use Rattle.eel_said.specs.Seen.{stream_seen}
use Rattle.eel_said.proofs.Lines.{one_number}
use Rattle.eel_said.proofs.outcome.put_number.Goals as goal

pub returns : goal.returns
returns g c =
    subst (λ (line : List ℕ). Wrote (stream_seen g.E.Sink c.args.err.now) (stream_seen g.E.Sink c.put_pieces.new.err) line c.put_pieces.result)
    (sym (one_number (codes "eel: ") c.args.name.now (codes ": ") c.args.before.now (g.N.Integer.text c.args.number)
    c.args.after.now (10 ∷ [])))
    (rw (c.as_bytes-name.ensures.value, c.as_bytes-number.ensures.value, c.format.ensures.text) at c.put_pieces.ensures)
