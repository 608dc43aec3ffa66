use Rattle.show_text.proofs.Common.{◌≡◌, [], ◌∷◌, ◌++◌, ap, ◌∙◌, arith, flat_map}
use Rattle.show_text.proofs.Joined.{all_lines, line_added, spaced}
use Rattle.show_text.proofs.lines.put_line.Goals as goal

pub returns : goal.returns
returns c =
    let old = c.args.text.now.items in
    let first = c.args.first.now in
    let words = c.args.words.now in
    let all : c.loop-word.text.items ≡ (old ++ first) ++ flat_map spaced words =
    all_lines spaced words c.loop-word.word-index (old ++ first) _ (omega arith)
    (rw c.in_ok-extend_from_slice.ensures.items at c.loop-word.invariant) in
    c.in_ok-push-2.ensures.items ∙ ap (λ text. text ++ 10 ∷ []) all ∙ line_added old first words
