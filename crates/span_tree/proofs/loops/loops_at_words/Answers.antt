use Rattle.span_tree.proofs.Common.{rules, ◌≡◌, ℕ, ◌+◌, ◌∙◌, ap, arith, slice_index, get_or_read}
use Rattle.span_tree.proofs.LoopBounds.{about_few, about_is, about_next_as, ends_fewer, loops_more}
use Rattle.span_tree.proofs.loops.loops_at_words.Goals as goal

pub overflow_add-about : goal.overflow_add-about
overflow_add-about c =
    let begun : c.index.result.now ≡ slice_index c.in_ok-bounds.bounds.begins.items c.loop-word.word =
    get_or_read c.in_ok-bounds.bounds.begins.items c.loop-word.word _ (search rules) c.index.ensures 0 in
    let few = about_few _ c.in_ok-bounds.bounds.begins.items c.in_ok-bounds.bounds.ends.items c.in_ok-bounds.ensures.bounds
    c.loop-word.about c.loop-word.word c.loop-word.invariant.about in
    let list = c.in_ok-bounds.ensures.list in
    omega (arith, few, begun, list.few, list.firsts.few)

pub overflow_sub-about : goal.overflow_sub-about
overflow_sub-about c =
    let begun : c.index.result.now ≡ slice_index c.in_ok-bounds.bounds.begins.items c.loop-word.word =
    get_or_read c.in_ok-bounds.bounds.begins.items c.loop-word.word _ (search rules) c.index.ensures 0 in
    let ended : c.index-in-loop-word.result.now ≡ slice_index c.in_ok-bounds.bounds.ends.items c.loop-word.word =
    get_or_read c.in_ok-bounds.bounds.ends.items c.loop-word.word _ (search rules) c.index-in-loop-word.ensures 0 in
    let fewer = ends_fewer _ c.in_ok-bounds.bounds.begins.items c.in_ok-bounds.bounds.ends.items c.in_ok-bounds.ensures.bounds
    c.loop-word.about c.loop-word.word c.loop-word.invariant.about in
    omega (arith, fewer, begun, ended)

pub loop-word-preserved : goal.loop-word-preserved
loop-word-preserved c =
    let bounds = c.in_ok-bounds.ensures.bounds in
    let begins = c.in_ok-bounds.bounds.begins.items in
    let ends = c.in_ok-bounds.bounds.ends.items in
    let before = c.loop-word.invariant.about in
    let begun : c.index.result.now ≡ slice_index begins c.loop-word.word =
    get_or_read begins c.loop-word.word _ (search rules) c.index.ensures 0 in
    let ended : c.index-in-loop-word.result.now ≡ slice_index ends c.loop-word.word =
    get_or_read ends c.loop-word.word _ (search rules) c.index-in-loop-word.ensures 0 in
    record {
      loops = c.in_ok-push.ensures.items
          ∙ loops_more _ c.loop-word.loops.items c.loop-word.word _ c.loop-word.invariant.loops
          (ap (λ (n : ℕ). c.loop-word.about + n) begun ∙ about_is _ begins ends bounds c.loop-word.about c.loop-word.word before);
      about = about_next_as _ begins ends bounds c.loop-word.about c.loop-word.word before _ _ begun ended;
    }
