-- A text reads back to its word, and nothing else reads.
use Rattle.std.specs.Prelude.{◌≡◌, ◌≢◌, ℕ, ◌<◌, ◌^◌, List, Option, Some, None}
use Rattle.v8_text.specs.Texts.{word_text}
use Rattle.v8_text.specs.Parts.{word_in}

-- what is answered of a text at an address: its word, or nothing where it is the text of none
abbrev pub IsWordOf : ℕ → List ℕ → Option ℕ → Type 0
IsWordOf at text (Some w) = (w < 2 ^ 32) × (text ≡ word_text at w)
IsWordOf at text None = (w : ℕ) → w < 2 ^ 32 → text ≢ word_text at w

abbrev pub TextsReadBack : Type 0
TextsReadBack = (at w : ℕ) → at < 2 ^ 32 → w < 2 ^ 32 → word_in at (word_text at w) ≡ Some w
