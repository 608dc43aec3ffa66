use Rattle.layout.specs.Private.{forms_in, IsEmitted}
use Rattle.layout.proofs.Walked.{IsWalk}
use Rattle.layout.proofs.assembler.Assembler.emit.Given as goal

abbrev pub invariant-loop-long : goal.invariant-loop-long
invariant-loop-long l = record {
  walk : IsWalk l.self.entries.now (forms_in l.self.forms.now) l.left l.long-index l.here;
  emitted : IsEmitted l.self.base.0 l.self.entries.now (forms_in l.self.forms.now) l.code.items l.long-index;
}
