use Rattle.v8_memory.proofs.Common.{rules, length, take, drop, ◌++◌, refl, ap, ◌∙◌, find, option_map, Region, covers, written}
use Rattle.v8_memory.proofs.Apart.{all_stay, write_heap_done, write_region_done}
use Rattle.v8_memory.proofs.Kept.{written_through}
use Rattle.v8_memory.proofs.memory.Memory.write_searched.Goals as goal

pub invariant_of-self : goal.invariant_of-self
invariant_of-self c =
    let stays =
    all_stay c.args.address c.args.bytes.now c.self.inside.regions.len c.self.inside.regions.items
    c.deref_mut.result.now c.write_one.new.regions c.self.inside.records.first c.self.inside.records.ops.items
    (search rules) c.deref_mut.ensures.value c.write_one.ensures.after (search rules) (search rules) in
    (search rules, search rules, search rules, stays.0, stays.1)

pub invariant_of-self-in-None : goal.invariant_of-self-in-None
invariant_of-self-in-None c =
    let stays =
    all_stay c.args.address c.args.bytes.now c.self.inside.regions.len c.self.inside.regions.items
    c.deref_mut.result.now c.write_one.new.regions c.self.inside.records.first c.self.inside.records.ops.items
    (search rules) c.deref_mut.ensures.value c.write_one.ensures.after (search rules) (search rules) in
    (search rules, search rules, search rules, stays.0, stays.1)

pub returns-in-Some : goal.returns-in-Some
returns-in-Some c =
    let address = c.args.address in
    let bytes = c.args.bytes.now in
    let old = c.self.inside.regions.items in
    let new = take c.self.inside.regions.len (c.write_one.new.regions ++ drop (length c.write_one.new.regions) old) in
    rw c.self.view_is at (write_region_done (record { heap = c.self.inside.heap; regions = old })
    (record { heap = c.self.inside.heap; regions = new }) address bytes c.in-Some.done (search rules) (search rules)
    (search rules) (search rules) refl
    (written_through (written address bytes) c.self.inside.regions.len old c.deref_mut.result.now
    c.write_one.new.regions (search rules) c.deref_mut.ensures.value c.write_one.ensures.after)
    (c.in-Some.ensures.may
    ∙ ap (λ rs. option_map (λ (r : Region). r.writable) (find (covers address (length bytes)) rs))
    c.deref_mut.ensures.value))

pub returns-in-None : goal.returns-in-None
returns-in-None c =
    let address = c.args.address in
    let bytes = c.args.bytes.now in
    let old = c.self.inside.regions.items in
    let new = take c.self.inside.regions.len (c.write_one.new.regions ++ drop (length c.write_one.new.regions) old) in
    rw c.self.view_is at (write_heap_done (record { heap = c.self.inside.heap; regions = old })
    (record { heap = c.write_heap.new.heap; regions = new }) address bytes c.write_heap.result
    (c.in-None.ensures.may
    ∙ ap (λ rs. option_map (λ (r : Region). r.writable) (find (covers address (length bytes)) rs))
    c.deref_mut.ensures.value)
    c.write_heap.ensures.after
    (written_through (written address bytes) c.self.inside.regions.len old c.deref_mut.result.now
    c.write_one.new.regions (search rules) c.deref_mut.ensures.value c.write_one.ensures.after)
    c.write_heap.ensures.may)
