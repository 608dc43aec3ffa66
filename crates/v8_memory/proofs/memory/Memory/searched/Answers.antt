use Rattle.v8_memory.proofs.Common.{rules, ◌≡◌, Some, ap, sym, subst, ◌∙◌, find, covers, region_at}
use Rattle.v8_memory.proofs.Apart.{heap_last}
use Rattle.v8_memory.proofs.memory.Memory.searched.Goals as goal

pub returns-in-Some : goal.returns-in-Some
returns-in-Some c = (
  subst (λ m. region_at m c.args.address c.args.count ≡ Some c.in-Some.region.now) c.self.view_is
      (heap_last (record { heap = c.self.inside.heap; regions = c.self.inside.regions.items }) c.args.address
      c.args.count c.in-Some.region.now (search rules) (search rules) (search rules) (search rules)
      (ap (find (covers c.args.address c.args.count)) (sym c.deref.ensures.value) ∙ c.in-Some.ensures.0)),
  c.in-Some.ensures.1,
)
