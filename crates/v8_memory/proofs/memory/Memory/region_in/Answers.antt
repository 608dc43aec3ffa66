use Rattle.v8_memory.proofs.Common.{rules, ◌≡◌, Some, subst, region_at}
use Rattle.v8_memory.proofs.Apart.{covers_at, found_at, heap_last}
use Rattle.v8_memory.proofs.memory.Memory.region_in.Goals as goal

pub returns-clause-found : goal.returns-clause-found
returns-clause-found c =
    subst (λ m. region_at m c.args.address c.args.count ≡ Some c.index.result.now) c.self.view_is
    (heap_last (record { heap = c.self.inside.heap; regions = c.self.inside.regions.items }) c.args.address
    c.args.count c.index.result.now (search rules) (search rules) (search rules) (search rules)
    (found_at c.args.address c.args.count c.self.inside.regions.items c.args.index c.index.result.now (search rules)
    (search rules) (search rules) (search rules) (search rules)))

pub returns-clause-whole : goal.returns-clause-whole
returns-clause-whole c =
    covers_at c.args.address c.args.count c.self.inside.regions.items c.args.index c.index.result.now (search rules)
    (search rules)
