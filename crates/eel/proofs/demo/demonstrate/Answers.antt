use Rattle.eel.proofs.Common.{refl, printed}
use Rattle.eel.proofs.demo.demonstrate.Goals as goal

pub returns-in-Ok-clause-tells : goal.returns-in-Ok-clause-tells
returns-in-Ok-clause-tells g c = λ files feed err.
    printed c.in-Ok.lines.items c.in-Ok.ensures.lines (rw c.deref.ensures.value at c.print.ensures.printed) refl
