use Rattle.layout.proofs.Common.{◌≡◌, ◌+◌, ◌*◌, ◌^◌, ◌<◌, ◌++◌, ℕ, List, length, ap, ◌∙◌, arith, forms_in}
use Rattle.layout.proofs.Emitted.{emitted_none, emitted_more}
use Rattle.layout.proofs.Walked.{code_is, goal_low, goal_near, leads_inside, more_left, turn, walk_low, walk_more, walk_none}
use Rattle.layout.proofs.assembler.Assembler.emit.Goals as goal

pub loop-long-init : goal.loop-long-init
loop-long-init c =
    let layout = c.args.self.now in
    record {
      walk = walk_none _ _ _ c.cursor-left.ensures;
      emitted = rw c.in_ok-code.ensures.items (emitted_none layout.base.0 layout.entries.now (forms_in layout.forms.now));
    }

pub next-entry-requires : goal.next-entry-requires
next-entry-requires c =
    let layout = c.args.self.now in
    record {
      more = more_left layout.entries.now _ _ c.loop-long.invariant.walk.rest
          (omega (arith, c.loop-long-test.true, layout.formed));
    }

pub put_entry-requires : goal.put_entry-requires
put_entry-requires c =
    let layout = c.args.self.now in
    let entries = layout.entries.now in
    let long = forms_in layout.forms.now in
    let t = turn entries _ _ _ _ c.loop-long.invariant.walk.rest c.next-entry.ensures in
    let low = walk_low _ _ _ _ _ c.loop-long.invariant.walk t.inside layout.small in
    record {
      leads = leads_inside entries long _ c.requires _ _ t.entry;
      from = omega (arith, low);
      low = goal_low entries long _ c.requires _ _ t.entry (λ (to : ℕ). layout.base.0 + 4 * to < 2 ^ 32)
          (λ m l. omega (arith, l, layout.low));
      near = goal_near entries long _ c.requires _ _ t.entry _ c.loop-long.invariant.walk.words layout.none_left;
    }

pub overflow_add-here : goal.overflow_add-here
overflow_add-here c =
    let layout = c.args.self.now in
    let low = walk_low _ _ _ _ _ c.loop-long.invariant.walk (omega (arith, c.loop-long-test.true, layout.formed))
    layout.small in
    omega (arith, low, c.width-here.ensures.small)

pub loop-long-preserved : goal.loop-long-preserved
loop-long-preserved c =
    let layout = c.args.self.now in
    let long = forms_in layout.forms.now in
    let t = turn layout.entries.now _ _ _ _ c.loop-long.invariant.walk.rest c.next-entry.ensures in
    let same = code_is layout.entries.now long _ c.requires _ _ t.entry layout.base.0 _ _
    c.loop-long.invariant.walk.words t.behind in
    record {
      walk = walk_more _ _ _ _ _ _ _ _ c.loop-long.invariant.walk c.next-entry.ensures c.width-here.ensures.value;
      emitted = emitted_more _ _ _ _ _ _ c.loop-long.invariant.emitted
          (c.in_ok-put_entry.ensures.code ∙ ap (λ (ws : List ℕ). c.loop-long.code.items ++ ws) same)
          (rw t.entry c.in_ok-put_entry.ensures.condition);
    }

pub returns : goal.returns
returns c =
    let layout = c.args.self.now in
    let all : c.loop-long.long-index ≡ length layout.entries.now
    = omega (arith, c.loop-long-test.false, c.loop-long.auto.long-index-end, layout.formed) in
    rw all at c.loop-long.invariant.emitted
