use Rattle.eel_base.proofs.HoldingLemmas.{holding-insert}
use Rattle.eel_base.proofs.in_memory.MemFiles.add.Goals as goal

pub returns-clause-ok : goal.returns-clause-ok
returns-clause-ok c = rw (← c.self.view_is) (rw (c.in_ok-insert.ensures.entries, holding-insert, c.in_ok-name.ensures.ok, c.in_ok-bytes.ensures.items))
