use Rattle.std.proofs.Common.{rules, true, refl}
use Rattle.v8_memory.proofs.Apart.{write_heap_first}
use Rattle.v8_memory.proofs.memory.Memory.write.Goals as goal

pub returns-then-may_write : goal.returns-then-may_write
returns-then-may_write c =
    let items = c.self.inside.regions.items in
    rw c.self.view_is at (write_heap_first (record { heap = c.self.inside.heap; regions = items })
    (record { heap = c.put.new.self; regions = items }) c.args.address c.args.bytes.now true
    (search rules) (search rules) (search rules) (search rules) (search rules) c.put.ensures.after refl
    (search rules))
