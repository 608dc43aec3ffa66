use Rattle.std.proofs.Common.{ℕ, List, [], ◌∷◌, sym, subst}
use Rattle.std.specs.Prelude.{codes}
use Rattle.eel_said.specs.Private.{Wrote}
use Rattle.eel_said.specs.Seen.{stream_seen}
use Rattle.eel_said.proofs.Lines.{two_numbers}
use Rattle.eel_said.proofs.outcome.put_numbers.Goals as goal

pub returns : goal.returns
returns g c =
    subst (λ (line : List ℕ). Wrote (stream_seen g.E.Sink c.args.err.now) (stream_seen g.E.Sink c.put_pieces.new.err) line c.put_pieces.result)
    (sym (two_numbers (codes "eel: ") c.args.name.now (codes ": ") c.args.before.now (g.M.Integer.text c.args.first)
    c.args.between.now (g.N.Integer.text c.args.second) c.args.after.now (10 ∷ [])))
    (rw (c.as_bytes-name.ensures.value, c.as_bytes-first.ensures.value, c.as_bytes-second.ensures.value, c.format.ensures.text, c.format-2.ensures.text) at c.put_pieces.ensures)
