use Rattle.layout.proofs.Common.{length, ap, ◌∙◌, refl, arith, offset, forms_in}
use Rattle.layout.proofs.Offsets.{all_offsets, noted_len, offsets_more, start_below}
use Rattle.layout.proofs.Walked.{more_left, turn, walk_low, walk_more, walk_none}
use Rattle.layout.proofs.forms.offsets.Goals as goal

pub loop-long-init : goal.loop-long-init
loop-long-init c = record {
  walk = walk_none _ _ _ c.cursor-left.ensures;
  len = refl;
  listing = c.requires.listing;
  so_far = λ k l m. absurd (omega (arith, m));
}

pub next-entry-requires : goal.next-entry-requires
next-entry-requires c = record {
  more = more_left c.args.entries.now _ _ c.loop-long.invariant.walk.rest
      (omega (arith, c.loop-long-test.true, c.requires.forms));
}

pub note_start-requires : goal.note_start-requires
note_start-requires c =
    let t = turn c.args.entries.now _ _ _ _ c.loop-long.invariant.walk.rest c.next-entry.ensures in
    record { inside = start_below _ _ _ _ c.loop-long.invariant.listing t.entry }

pub overflow_add-here : goal.overflow_add-here
overflow_add-here c =
    let low = walk_low _ _ _ _ _ c.loop-long.invariant.walk
    (omega (arith, c.loop-long-test.true, c.requires.forms)) c.requires.small in
    omega (arith, low, c.width-here.ensures.small)

pub loop-long-preserved : goal.loop-long-preserved
loop-long-preserved c =
    let t = turn c.args.entries.now _ _ _ _ c.loop-long.invariant.walk.rest c.next-entry.ensures in
    let len = noted_len c.loop-long.at c.next-entry.result c.loop-long.here in
    record {
      walk = walk_more _ _ _ _ _ _ _ _ c.loop-long.invariant.walk c.next-entry.ensures c.width-here.ensures.value;
      len = ap length c.note_start.ensures ∙ len ∙ c.loop-long.invariant.len;
      listing = rw (c.note_start.ensures, len) c.loop-long.invariant.listing;
      so_far = rw c.note_start.ensures (offsets_more _ _ _ _ _ _ c.loop-long.invariant.listing t.entry
          c.loop-long.invariant.walk.words c.loop-long.invariant.so_far);
    }

pub returns-clause-at : goal.returns-clause-at
returns-clause-at c =
    all_offsets _ _ _ c.loop-long.long-index c.loop-long.invariant.listing
    (omega (arith, c.loop-long-test.false, c.loop-long.auto.long-index-end, c.requires.forms))
    c.loop-long.invariant.so_far

pub returns-clause-all : goal.returns-clause-all
returns-clause-all c =
    c.loop-long.invariant.walk.words
    ∙ ap (offset c.args.entries.now (forms_in c.args.forms.now))
    (omega (arith, c.loop-long-test.false, c.loop-long.auto.long-index-end, c.requires.forms))
