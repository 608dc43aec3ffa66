use Rattle.std.proofs.Common.{◌≡◌, replicate, [], ◌∷◌, rules}
use Rattle.layout.specs.declared.items.Item.TheVariants.{Word}
use Rattle.machine_tests.proofs.FarApart.{can_be_placed}
use Rattle.machine_tests.proofs.layout_tests.pieces_past.Goals as goal

pub returns : goal.returns
returns c =
    let first : c.in_ok-first.first.items ≡ c.args.item ∷ [] = c.in_ok-first.ensures.items in
    let second : c.in_ok-second.second.items ≡ replicate c.args.count (Word 16777216) = search rules in
    let third : c.in_ok-third.third.items ≡ Word 16777216 ∷ [] = c.in_ok-third.ensures.items in
    let all : c.in_ok-pieces.pieces.items
    ≡ c.in_ok-first.first.items ∷ c.in_ok-second.second.items ∷ c.in_ok-third.third.items ∷ [] = c.in_ok-pieces.ensures.items in
    rw (all, first, second, third)
    (can_be_placed c.args.item 16777216 c.args.count c.requires.few c.requires.leads c.requires.unmarked)
