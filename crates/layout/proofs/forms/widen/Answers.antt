use Rattle.layout.proofs.Common.{◌^◌, Bool, length, refl, ap, ◌∙◌, arith, count_by-le-length, forms_in}
use Rattle.layout.proofs.Offsets.{noted_len, offset_small, start_below}
use Rattle.layout.proofs.Passing.{few_words, leads, passing_all, passing_none, passing_turn}
use Rattle.layout.proofs.Walked.{more_left, turn, walk_low, walk_none}
use Rattle.layout.proofs.forms.widen.Goals as goal

pub loop-n-init : goal.loop-n-init
loop-n-init c = record {
  pass = passing_none _ _ _ _ c.requires.len (walk_none _ _ _ c.cursor-left.ensures) c.requires.listing
      c.requires.offsets c.requires.widening;
  count = refl;
}

pub next-entry-requires : goal.next-entry-requires
next-entry-requires c = record {
  more = more_left c.args.entries.now _ _ c.loop-n.invariant.pass.walk.rest (omega (arith, c.loop-n-test.true, c.requires.len));
}

pub widen_entry-widened-requires : goal.widen_entry-widened-requires
widen_entry-widened-requires c =
    let entries = c.args.entries.now in
    let pass = c.loop-n.invariant.pass in
    let low = walk_low _ _ _ _ _ pass.walk (omega (arith, c.loop-n-test.true, c.requires.len)) c.requires.small in
    let all = offset_small entries (forms_in c.loop-n.forms) (length entries) in
    record {
      inside = omega (arith, c.loop-n-test.true, c.requires.len, pass.len);
      leads = leads _ _ _ _ _ _ _ _ _ _ _ pass c.next-entry.ensures;
      before = omega (arith, low, pass.less);
      words = few_words _ _ _ _ _ _ _ _ _ _ _ pass c.next-entry.ensures (2 ^ 63) (omega (arith, all, c.requires.small));
    }

pub overflow_add-widened : goal.overflow_add-widened
overflow_add-widened c =
    let pass = c.loop-n.invariant.pass in
    let few = count_by-le-length (λ (b : Bool). b) c.loop-n.forms in
    omega (arith, pass.count, pass.len, few, c.widen_entry-widened.ensures.one, c.requires.small)

pub overflow_add-before : goal.overflow_add-before
overflow_add-before c =
    let pass = c.loop-n.invariant.pass in
    let low = walk_low _ _ _ _ _ pass.walk (omega (arith, c.loop-n-test.true, c.requires.len)) c.requires.small in
    omega (arith, low, pass.less, c.width-was.ensures.small)

pub overflow_add-here : goal.overflow_add-here
overflow_add-here c =
    let low = walk_low _ _ _ _ _ c.loop-n.invariant.pass.walk (omega (arith, c.loop-n-test.true, c.requires.len))
    c.requires.small in
    omega (arith, low, c.width-here.ensures.small)

pub note_start-requires : goal.note_start-requires
note_start-requires c =
    let t = turn c.args.entries.now _ _ _ _ c.loop-n.invariant.pass.walk.rest c.next-entry.ensures in
    record { inside = start_below _ _ _ _ c.loop-n.invariant.pass.listing t.entry }

pub loop-n-preserved : goal.loop-n-preserved
loop-n-preserved c = record {
  pass = rw c.note_start.ensures (passing_turn _ _ _ _ _ _ _ _ _ _ _ c.loop-n.invariant.pass c.next-entry.ensures _ _ _ _
      c.widen_entry-widened.ensures.forms c.widen_entry-widened.ensures.value c.width-was.ensures.value
      c.width-here.ensures.value);
  count = ap length c.note_start.ensures ∙ noted_len _ _ _ ∙ c.loop-n.invariant.count;
}

pub returns-clause-pass : goal.returns-clause-pass
returns-clause-pass c =
    passing_all _ _ _ _ _ _ _ _ _ c.loop-n.invariant.pass
    (omega (arith, c.loop-n-test.false, c.loop-n.auto.n-end, c.requires.len)) c.requires.len
