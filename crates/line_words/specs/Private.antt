-- What only contracts of private functions and models cite.
use Rattle.std.specs.Prelude.{◌≡◌, true, ℕ, List}
use Rattle.line_words.specs.Words.{is_decimal}

-- the text of a word that is decimal
abbrev pub IsDecimalText : List ℕ → List ℕ → Type 0
IsDecimalText word text = (is_decimal word ≡ true) × (text ≡ word)
