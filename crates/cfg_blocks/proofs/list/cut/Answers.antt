use Rattle.cfg_blocks.proofs.Common.{length, ap, sym, ◌∙◌, rules, length-map}
use Rattle.cfg_blocks.proofs.Agreement.{cut_is}
use Rattle.cfg_blocks.proofs.Below.{length-below}
use Rattle.cfg_blocks.proofs.Targets.{targets_within}
use Rattle.cfg_blocks.proofs.list.cut.Goals as goal

pub invariant_of-list : goal.invariant_of-list
invariant_of-list c =
    record {
      firsts = search rules;
      ends = search rules;
      targets =
          rw c.len-words.ensures.count
          (targets_within c.args.text.now _ _ _ _ c.in_ok-word_ends.ensures.ends
          (rw (c.deref-2.ensures.value, c.deref-3.ensures.value) at c.in_ok-ends.ensures.ends));
      intos = search rules;
      few = search rules;
    }

pub invariant_of-list-2 : goal.invariant_of-list-2
invariant_of-list-2 c =
    record {
      firsts = search rules;
      ends = search rules;
      targets =
          rw c.len-words.ensures.count
          (targets_within c.args.text.now _ _ _ _ c.in_ok-word_ends.ensures.ends
          (rw (c.deref-2.ensures.value, c.deref-3.ensures.value) at c.in_ok-ends.ensures.ends));
      intos = ap length c.in_ok-list-inside.ensures ∙ length-map _ _ ∙ length-below _;
      few = search rules;
    }

pub returns : goal.returns
returns c =
    rw (c.len-words.ensures.count, sym c.in_ok-word_ends.ensures.len, sym c.in_ok-word_ends.ensures.ends)
    (cut_is _ _ _ _ _ (rw c.deref.ensures.value at c.in_ok-firsts.ensures.words)
    (rw (c.deref-2.ensures.value, c.deref-3.ensures.value) at c.in_ok-ends.ensures.ends)
    (rw (c.deref-4.ensures.value, c.len-words.ensures.count, sym c.in_ok-word_ends.ensures.len) at c.in_ok-list-inside.ensures))
