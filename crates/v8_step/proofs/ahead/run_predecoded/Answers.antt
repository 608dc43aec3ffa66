-- One turn more.
use Rattle.v8_step.proofs.Common.{rules, arith, length, ℕ, ◌≡◌, ◌+◌, ◌-◌, ◌<◌, ◌≤◌, ◌∙◌, ap, sym, Cursor, On, Past, To, At, Stop, State, Slot, NoSlot, Untaken, Taken, slot_by}
use Rattle.v8_step.proofs.InOrder.{at_start, comes_on, in_slot, jump_place, no_slot, not_last}
use Rattle.v8_step.proofs.ahead.run_predecoded.Goals as goal

abbrev here : ℕ → ℕ → ℕ → ℕ → ℕ → ℕ → Slot → Cursor
here first len cur next spare slot_end slot = record {
  first = first;
  len = len;
  cur = cur;
  next = next;
  spare = spare;
  slot_end = slot_end;
  slot = slot;
}

on_goes : On ≡ Stop → ⊥
on_goes stops = cc stops

past_goes : Past ≡ Stop → ⊥
past_goes stops = cc stops

to_goes : (place : ℕ) → To place ≡ Stop → ⊥
to_goes place stops = cc stops

at_goes : (place : ℕ) → At place ≡ Stop → ⊥
at_goes place stops = cc stops

-- what a turn in order, a transfer behind its slot and one without a slot do to the count of steps
record IsOnward (limit len next spare : ℕ) : Type 0 where
  count : limit + next - len - 1 - spare + 1 ≡ limit + (next + 1) - len - 1 - spare
  within : next + 1 ≤ len
  most : spare + len + 1 ≤ limit + (next + 1)

onward : (limit len next spare : ℕ) → next < len → spare + len + 1 ≤ limit + next → IsOnward limit len next spare
onward limit len next spare below most = record { count = omega arith; within = omega arith; most = omega arith }

record IsTransfer (limit len next spare place : ℕ) : Type 0 where
  count : limit + next - len - 1 - spare + 1 ≡ limit + place - len - 1 - (spare - next - 1 + place)
  within : place ≤ len
  most : spare - next - 1 + place + len + 1 ≤ limit + place

transfer : (limit len next spare place : ℕ) → place < len → next < spare → spare + len + 1 ≤ limit + next
    → IsTransfer limit len next spare place
transfer limit len next spare place below room most =
    record { count = omega arith; within = omega arith; most = omega arith }

record IsJump (limit len next spare place : ℕ) : Type 0 where
  count : limit + next - len - 1 - spare + 1 ≡ limit + (place + 1) - len - 1 - (spare - next + place)
  within : place + 1 ≤ len
  most : spare - next + place + len + 1 ≤ limit + (place + 1)

jump : (limit len next spare place : ℕ) → place < len → next < spare → spare + len + 1 ≤ limit + next
    → IsJump limit len next spare place
jump limit len next spare place below room most =
    record { count = omega arith; within = omega arith; most = omega arith }

one_on : (n m : ℕ) → m ≤ n + 1 → m ≤ n + 1 + 1
one_on n m low = omega arith

two_on : (n : ℕ) → n + 2 ≤ n + 1 + 1
two_on n = omega arith

just_below : (n : ℕ) → n < n + 1
just_below n = omega arith

below_two : (n : ℕ) → n + 1 < n + 2
below_two n = omega arith

leq_refl : (n : ℕ) → n ≤ n
leq_refl n = omega arith

zero_least : (n : ℕ) → 0 ≤ n
zero_least n = omega arith

pub turns-init : goal.turns-init
turns-init c = record {
  live = c.requires.going;
  run = at_start c.args.m.now c.args.first _ _ _ c.m.inside.slot
      (jump_place c.args.first c.m.inside.pc (omega arith) (omega arith) (search rules)
      ∙ ap (λ (t : State). t.pc) c.m.view_is)
      (jump_place c.args.first c.m.inside.npc (omega arith) (omega arith) (search rules)
      ∙ ap (λ (t : State). t.npc) c.m.view_is)
      (ap (λ (t : State). t.slot) c.m.view_is) (omega arith);
  kept = c.requires.kept;
  cur = search rules;
  next = omega arith;
  ahead = λ h. search rules;
  most = omega arith;
  slot = omega arith;
}

pub overflow_add-next : goal.overflow_add-next
overflow_add-next c =
    let more : c.turns.cur + 1 < length c.args.ops.now =
    not_last c.args.ops.now _ _ c.turns.cur _ On c.op_in-op.ensures.item c.op_in-last.ensures.item (search rules) c.in-On.ensures.said on_goes c.turns.invariant.cur in
    search (rules, c.turns.invariant.ahead more)

pub overflow_add-next-in-Past : goal.overflow_add-next-in-Past
overflow_add-next-in-Past c =
    let more : c.turns.cur + 1 < length c.args.ops.now =
    not_last c.args.ops.now c.op_in-op.result.now c.op_in-last.result.now c.turns.cur _ Past c.op_in-op.ensures.item
    c.op_in-last.ensures.item (search rules) c.in-Past.ensures.said past_goes c.turns.invariant.cur in
    search (rules, c.turns.invariant.ahead more)

pub turns-preserved-in-On : goal.turns-preserved-in-On
turns-preserved-in-On c =
    let i = c.turns.invariant in
    let more : c.turns.cur + 1 < length c.args.ops.now =
    not_last c.args.ops.now _ _ c.turns.cur _ On c.op_in-op.ensures.item c.op_in-last.ensures.item (search rules) c.in-On.ensures.said on_goes i.cur in
    let n = onward c.args.limit (length c.args.ops.now) c.turns.next c.turns.spare (i.ahead more) i.most in
    let on =
    comes_on c.args.m.now c.turns.m c.execute.new.self (here c.args.first (length c.args.ops.now) c.turns.cur c.turns.next
    c.turns.spare c.turns.slot_end c.turns.slot) On c.turns.next (c.turns.next + 1)
    (c.args.limit + c.turns.next - length c.args.ops.now - 1 - c.turns.spare)
    (c.args.limit + (c.turns.next + 1) - length c.args.ops.now - 1 - c.turns.spare) NoSlot (slot_by (c.turns.next + 1) c.turns.slot_end c.turns.slot) c.op_in-op.result.now c.args.ops.now
    i.live i.run i.kept (c.op_in-op.ensures.kept _ i.kept) c.in-On.ensures.turned.0 c.in-On.ensures.said on_goes
    n.count (sym (no_slot _ _ _ i.slot)) in
    record {
      live = c.execute.ensures.turned.2 ∙ i.live;
      run = on.0;
      kept = on.1;
      cur = i.ahead more;
      next = n.within;
      ahead = λ h. h;
      most = n.most;
      slot = one_on _ _ i.slot;
    }

pub turns-preserved-in-Past : goal.turns-preserved-in-Past
turns-preserved-in-Past c =
    let i = c.turns.invariant in
    let more : c.turns.cur + 1 < length c.args.ops.now =
    not_last c.args.ops.now c.op_in-op.result.now c.op_in-last.result.now c.turns.cur _ Past c.op_in-op.ensures.item
    c.op_in-last.ensures.item (search rules) c.in-Past.ensures.said past_goes i.cur in
    let n = onward c.args.limit (length c.args.ops.now) c.turns.next c.turns.spare (i.ahead more) i.most in
    let on =
    comes_on c.args.m.now c.turns.m c.execute.new.self (here c.args.first (length c.args.ops.now) c.turns.cur c.turns.next
    c.turns.spare c.turns.slot_end c.turns.slot) Past c.turns.next (c.turns.next + 1)
    (c.args.limit + c.turns.next - length c.args.ops.now - 1 - c.turns.spare)
    (c.args.limit + (c.turns.next + 1) - length c.args.ops.now - 1 - c.turns.spare) Untaken (slot_by (c.turns.next + 1) (c.turns.next + 2) Untaken) c.op_in-op.result.now c.args.ops.now
    i.live i.run i.kept (c.op_in-op.ensures.kept _ i.kept) c.in-Past.ensures.turned.0 c.in-Past.ensures.said past_goes
    n.count (sym (in_slot _ _ _ (below_two c.turns.next))) in
    record {
      live = c.execute.ensures.turned.2 ∙ i.live;
      run = on.0;
      kept = on.1;
      cur = i.ahead more;
      next = n.within;
      ahead = λ h. h;
      most = n.most;
      slot = two_on c.turns.next;
    }

pub turns-preserved-in-To : goal.turns-preserved-in-To
turns-preserved-in-To c =
    let i = c.turns.invariant in
    let w = c.in-To.ensures.turned.1 in
    let more : c.turns.cur + 1 < length c.args.ops.now =
    not_last c.args.ops.now c.op_in-op.result.now c.op_in-last.result.now c.turns.cur _ (To c.in-To.place) c.op_in-op.ensures.item
    c.op_in-last.ensures.item (search rules) c.in-To.ensures.said (to_goes _) i.cur in
    let n = transfer c.args.limit (length c.args.ops.now) c.turns.next c.turns.spare c.in-To.place w.0 w.1 i.most in
    let on =
    comes_on c.args.m.now c.turns.m c.execute.new.self (here c.args.first (length c.args.ops.now) c.turns.cur c.turns.next
    c.turns.spare c.turns.slot_end c.turns.slot) (To c.in-To.place) c.turns.next c.in-To.place
    (c.args.limit + c.turns.next - length c.args.ops.now - 1 - c.turns.spare)
    (c.args.limit + c.in-To.place - length c.args.ops.now - 1 - (c.turns.spare - c.turns.next - 1 + c.in-To.place)) Taken (slot_by c.in-To.place (c.in-To.place + 1) Taken) c.op_in-op.result.now c.args.ops.now
    i.live i.run i.kept (c.op_in-op.ensures.kept _ i.kept) c.in-To.ensures.turned.0 c.in-To.ensures.said (to_goes _)
    n.count (sym (in_slot _ _ _ (just_below c.in-To.place))) in
    record {
      live = c.execute.ensures.turned.2 ∙ i.live;
      run = on.0;
      kept = on.1;
      cur = i.ahead more;
      next = n.within;
      ahead = λ h. w.0;
      most = n.most;
      slot = leq_refl _;
    }

pub turns-preserved : goal.turns-preserved
turns-preserved c =
    let i = c.turns.invariant in
    let w = c.in-At.ensures.turned.1 in
    let n = jump c.args.limit (length c.args.ops.now) c.turns.next c.turns.spare c.in-At.place w.0 w.1 i.most in
    let on =
    comes_on c.args.m.now c.turns.m c.execute.new.self (here c.args.first (length c.args.ops.now) c.turns.cur c.turns.next
    c.turns.spare c.turns.slot_end c.turns.slot) (At c.in-At.place) c.in-At.place (c.in-At.place + 1)
    (c.args.limit + c.turns.next - length c.args.ops.now - 1 - c.turns.spare)
    (c.args.limit + (c.in-At.place + 1) - length c.args.ops.now - 1 - (c.turns.spare - c.turns.next + c.in-At.place)) NoSlot (slot_by (c.in-At.place + 1) 0 c.turns.slot) c.op_in-op.result.now c.args.ops.now
    i.live i.run i.kept (c.op_in-op.ensures.kept _ i.kept) c.in-At.ensures.turned.0 c.in-At.ensures.said (at_goes _)
    n.count (sym (no_slot _ _ _ (zero_least _))) in
    record {
      live = c.execute.ensures.turned.2 ∙ i.live;
      run = on.0;
      kept = on.1;
      cur = w.0;
      next = n.within;
      ahead = λ h. h;
      most = n.most;
      slot = zero_least _;
    }
