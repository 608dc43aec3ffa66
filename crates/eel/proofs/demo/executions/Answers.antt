use Rattle.eel.proofs.Common.{ap, ◌∙◌, sum}
use Rattle.eel.proofs.Tame.{adds_up, ends, tells}
use Rattle.eel.proofs.demo.executions.Goals as goal

pub last_dump-requires-clause-ends : goal.last_dump-requires-clause-ends
last_dump-requires-clause-ends c =
    rw c.deref-2.ensures.value
    (ends _ _ c.requires.tame c.in_ok-written.ensures.written _ (rw c.deref.ensures.value at c.in_ok-notes.ensures.notes))

pub counts_of-requires-clause-tells : goal.counts_of-requires-clause-tells
counts_of-requires-clause-tells c =
    tells _ _ c.requires.tame c.in_ok-written.ensures.written _ (rw c.deref.ensures.value at c.in_ok-notes.ensures.notes)
    _ (rw c.deref-2.ensures.value at c.in_ok-dump.ensures.dump)

pub returns-clause-sum : goal.returns-clause-sum
returns-clause-sum c = λ ending steps ran.
    c.sum.ensures ∙ ap sum c.deref-3.ensures.value
    ∙ adds_up _ _ c.requires.tame c.in_ok-written.ensures.written _
    (rw c.deref.ensures.value at c.in_ok-notes.ensures.notes) _ (rw c.deref-2.ensures.value at c.in_ok-dump.ensures.dump)
    _ c.in_ok-counts.ensures ending steps ran
