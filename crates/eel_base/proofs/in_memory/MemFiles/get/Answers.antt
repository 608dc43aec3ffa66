use Rattle.eel_base.proofs.HoldingLemmas.{bytes_under-holding}
use Rattle.eel_base.proofs.in_memory.MemFiles.get.Goals as goal

pub returns-in-Some : goal.returns-in-Some
returns-in-Some c = rw (← c.self.view_is) (rw (bytes_under-holding, ← c.in-Some.ensures.value, c.as_slice.ensures.value))

pub returns-in-None : goal.returns-in-None
returns-in-None c = rw (← c.self.view_is) (rw (bytes_under-holding, ← c.in-None.ensures.value))
