use Rattle.std.proofs.Common.{◌≡◌, ◌+◌, ◌-◌, ◌≤◌, vec_len}
use Rattle.eel_base.specs.Outside.{preceded}
use Rattle.eel_base.proofs.whole.read_all.Given as goal

abbrev pub invariant-loop-chunk : goal.invariant-loop-chunk
invariant-loop-chunk g l = record {
  read : g.S.Source.left l.initial.s ≡ preceded l.all.items (g.S.Source.left l.s);
  within : vec_len l.all ≤ l.limit + 1;
  few_reads : g.S.Source.reads l.s ≤ g.S.Source.reads l.initial.s + vec_len l.all;
  unfaulted : g.S.Source.faults l.s ≡ g.S.Source.faults l.initial.s;
}

abbrev pub decreases-loop-chunk : goal.decreases-loop-chunk
decreases-loop-chunk g l = l.limit + 1 - vec_len l.all
