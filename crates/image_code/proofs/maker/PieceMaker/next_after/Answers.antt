use Rattle.image_code.proofs.Common.{◌+◌, ◌<◌, arith, length, lt-ltb, refl, sym, ◌∙◌}
use Rattle.image_code.proofs.Sources.{known_number}
use Rattle.image_code.proofs.OpenNumbers.{ordered_number}
use Rattle.image_code.proofs.maker.PieceMaker.next_after.Goals as goal

pub returns-then-is_slots : goal.returns-then-is_slots
returns-then-is_slots c =
    let more : c.args.word.0 + 1 < length c.args.self.now.text.now.words =
    omega (arith, c.if-word-words.false, c.len-words.ensures.count) in
    let number = known_number c.args.self.now.found (λ g _. ordered_number _ _ g _ more) in
    rw (lt-ltb _ _ more, sym c.is_slots.ensures ∙ c.if-is_slots.true, number) refl
