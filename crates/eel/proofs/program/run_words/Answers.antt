use Rattle.eel.proofs.program.run_words.Goals as goal

pub returns-clause-ran : goal.returns-clause-ran
returns-clause-ran g c = rw (c.deref.ensures.value, c.in_ok-words.ensures) at c.eel.ensures.ran

pub returns-clause-done : goal.returns-clause-done
returns-clause-done g c = rw (c.deref.ensures.value, c.in_ok-words.ensures) at c.eel.ensures.done

pub returns-clause-refused : goal.returns-clause-refused
returns-clause-refused g c = c.eel.ensures.refused

pub returns-clause-unrefused : goal.returns-clause-unrefused
returns-clause-unrefused g c = rw (c.deref.ensures.value, c.in_ok-words.ensures) at c.eel.ensures.unrefused

pub returns-clause-wanting : goal.returns-clause-wanting
returns-clause-wanting g c = rw (c.deref.ensures.value, c.in_ok-words.ensures) at c.eel.ensures.wanting

pub returns-clause-failed : goal.returns-clause-failed
returns-clause-failed g c = rw (c.deref.ensures.value, c.in_ok-words.ensures) at c.eel.ensures.failed
