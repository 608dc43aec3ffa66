use Rattle.std.proofs.Common.{ap, Some, List, ℕ, length-take, length-drop, arith}
use Rattle.eel_base.proofs.Parts.{left-copied}
use Rattle.eel_base.proofs.in_memory.MemSourceSource.read.Goals as goal

pub returns-clause-moved : goal.returns-clause-moved
returns-clause-moved c = rw (← c.self.view_is) (ap (λ (z : List ℕ). Some z) (left-copied c.self.inside.bytes.items c.copy_from_slice.new.self _ c.self.inside.at c.min-count.result (rw (← c.deref.ensures.value) c.copy_from_slice.ensures.after) (let e = simp (c.deref.ensures.value, length-take, length-drop) at c.min-count.ensures in omega arith)))
