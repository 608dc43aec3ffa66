use Rattle.cfg_blocks.proofs.Common.{rules, ◌≡◌, ◌∙◌, arith, false, length, refl, take-append_seam, get_or-replicate}
use Rattle.cfg_blocks.proofs.leaders.given_words.Goals as goal

pub mark_words-requires : goal.mark_words-requires
mark_words-requires c =
    let long : length c.deref_mut.result.now ≡ c.args.count = search rules in λ k d l. rw long (c.requires.starts k d l)

pub mark_words-requires-2 : goal.mark_words-requires-2
mark_words-requires-2 c =
    let long : length c.deref_mut-2.result.now ≡ c.args.count = search rules in λ k d l. rw long (c.requires.marks k d l)

pub returns : goal.returns
returns c =
    let long : length c.deref_mut.result.now ≡ c.args.count = search rules in
    let later : length c.deref_mut-2.result.now ≡ c.args.count = search rules in
    let kept : c.in_ok-given.given.len ≡ length c.mark_words.new.marks = search rules in
    let left : c.in_ok-given.given.len ≡ length c.mark_words-2.new.marks = search rules in
    let between : c.deref_mut-2.result.now ≡ c.mark_words.new.marks =
    c.deref_mut-2.ensures.value ∙ rw kept (take-append_seam _ _) in
    rw (left, take-append_seam) (record {
      words = search rules;
      given = λ k h.
          c.mark_words-2.ensures k (omega arith)
          ∙ rw (
            between,
            c.mark_words.ensures k (omega arith),
            c.deref_mut.ensures.value,
            c.in_ok-given.ensures.items_if_clones_equal (λ y h. h),
            get_or-replicate c.args.count k false false h,
          ) refl;
    })
