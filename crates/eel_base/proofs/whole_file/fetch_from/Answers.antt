use Rattle.std.proofs.Common.{arith}
use Rattle.eel_base.proofs.Parts.{all-taken}
use Rattle.eel_base.proofs.whole_file.fetch_from.Goals as goal

pub returns-clause-all : goal.returns-clause-all
returns-clause-all g c =
    all-taken (g.R.Read.remaining c.args.reader) c.read_to_end.new.buf.items c.take-first.result.limit
    (rw (c.requires, c.take-first.ensures.inner) at c.in_default.ensures.bytes)
    (omega (arith, c.read_to_end.new.buf.ok, c.read_to_end.new.buf.small))
