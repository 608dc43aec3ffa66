use Rattle.layout.proofs.Common.{◌≡◌, ◌++◌, None, address_of, forms_in, ranges_from}
use Rattle.layout.proofs.Walked.{IsWalk}
use Rattle.layout.proofs.assembler.Assembler.ranges_of.Given as goal

abbrev pub invariant-loop-long : goal.invariant-loop-long
invariant-loop-long l = record {
  walk : IsWalk l.self.entries.now (forms_in l.self.forms.now) l.left l.long-index l.here;
  ranges : l.ranges.items ++ ranges_from (address_of l.self.base.0 l.self.entries.now (forms_in l.self.forms.now))
      l.long-index l.open_mark l.left
      ≡ ranges_from (address_of l.self.base.0 l.self.entries.now (forms_in l.self.forms.now)) 0 None l.self.entries.now;
}
