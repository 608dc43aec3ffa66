-- The steps so far were all made, and the run goes on at a place with a record.
use Rattle.v8_step.proofs.Common.{◌≡◌, ◌+◌, ◌-◌, ◌<◌, ◌≤◌, None, AreKept, code_of, at_places, slot_by, IsQuietRun}
use Rattle.v8_step.proofs.ahead.run_predecoded.Given as goal

abbrev pub invariant-turns : goal.invariant-turns
invariant-turns l = record {
  live : l.m.ending ≡ None;
  run : IsQuietRun l.initial.m (l.limit + l.next - l.len - 1 - l.spare)
      (at_places l.m l.first l.cur l.next (slot_by l.next l.slot_end l.slot));
  kept : AreKept (code_of l.m.memory) l.first l.ops;
  cur : l.cur < l.len;
  next : l.next ≤ l.len;
  ahead : l.cur + 1 < l.len → l.next < l.len;
  most : l.spare + l.len + 1 ≤ l.limit + l.next;
  slot : l.slot_end ≤ l.next + 1;
}

abbrev pub decreases-turns : goal.decreases-turns
decreases-turns l = l.spare + l.len + 1 - l.next
