use Rattle.std.proofs.Common.{◌≡◌, ◌++◌, map, take}
use Rattle.layout.specs.declared.items.Item.TheVariants as it
use Rattle.image_code.proofs.shape.push_words.Given as goal

abbrev pub invariant-loop-word : goal.invariant-loop-word
invariant-loop-word l = l.items.items ≡ l.initial.items.items ++ map it.Word (take l.word-index l.words)
