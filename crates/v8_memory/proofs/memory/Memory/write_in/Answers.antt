use Rattle.std.proofs.Common.{rules, slice_set, true, refl}
use Rattle.v8_memory.proofs.Apart.{may_at, stay_at, write_region_done, written_at}
use Rattle.v8_memory.proofs.memory.Memory.write_in.Goals as goal

pub invariant_of-self : goal.invariant_of-self
invariant_of-self c =
    let items = c.self.inside.regions.items in
    let stays =
    stay_at c.args.address c.args.bytes.now items (slice_set items c.args.index c.put.new.self)
    c.self.inside.records.first c.self.inside.records.ops.items
    (written_at c.args.address c.args.bytes.now items c.args.index c.index_mut.result.now c.put.new.self
    (search rules) (search rules) (search rules) (search rules) (search rules) c.put.ensures.after)
    (search rules) (search rules) in
    (search rules, search rules, search rules, stays.0, stays.1)

pub returns : goal.returns
returns c =
    let address = c.args.address in
    let bytes = c.args.bytes.now in
    let old = c.self.inside.regions.items in
    let new = slice_set old c.args.index c.put.new.self in
    rw c.self.view_is at (write_region_done (record { heap = c.self.inside.heap; regions = old })
    (record { heap = c.self.inside.heap; regions = new }) address bytes true (search rules) (search rules)
    (search rules) (search rules) refl
    (written_at address bytes old c.args.index c.index_mut.result.now c.put.new.self (search rules) (search rules)
    (search rules) (search rules) (search rules) c.put.ensures.after)
    (may_at address bytes old c.args.index c.index_mut.result.now true (search rules) (search rules)
    (search rules) (search rules) (search rules) (search rules)))
