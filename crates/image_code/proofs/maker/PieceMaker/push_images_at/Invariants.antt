use Rattle.image_code.proofs.Common.{◌≡◌, ◌-◌, ◌++◌, map, range_with_len, Image, pieces_for}
use Rattle.image_code.proofs.maker.PieceMaker.push_images_at.Given as goal

abbrev pub invariant-loop-word : goal.invariant-loop-word
invariant-loop-word l = l.list.items ≡ l.initial.list.items
    ++ pieces_for l.self (map (Image l.node) (range_with_len l.from (l.word - l.from)))
