use Rattle.v8_text.proofs.Common.{◌++◌, ◌<◌, List, ℕ, length, ap, ◌∙◌, sym, arith, line_text}
use Rattle.v8_text.proofs.Listed.{lines-take}
use Rattle.v8_text.proofs.listings.listing.Goals as goal

pub loop-word-preserved : goal.loop-word-preserved
loop-word-preserved c =
    let text = c.args.text.now in
    let within : c.loop-word.word < length text.words = omega (arith, c.loop-word-test.true, c.len-word-end.ensures.count) in
    c.in_ok-put_line.ensures
    ∙ ap (λ (lines : List ℕ). lines ++ line_text c.address.result.0 c.word.result) c.loop-word.invariant
    ∙ rw (c.address.ensures, c.word.ensures) (sym (lines-take text.start text.words c.loop-word.word within))
