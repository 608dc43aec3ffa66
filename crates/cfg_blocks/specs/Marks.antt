-- What the lists say from which blocks are made: how control leaves each word, and which words are marked.
use Rattle.std.specs.Prelude.{ℕ, ◌<◌, List, length, map}
use Rattle.std.specs.List.{All}
use Rattle.eel_base.specs.CodeText.{Words}
use Rattle.eel_base.specs.declared.numbers.WordNo.{WordNo}

-- the numbers of words
abbrev pub numbers : List WordNo → List ℕ
numbers = map (λ word. word.0)

-- these are words of a text
abbrev pub AreWords : Words → List WordNo → Type 0
AreWords text = All (λ word. word.0 < length text.words)
