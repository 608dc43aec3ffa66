-- What only contracts of private functions and models cite.
use Rattle.std.specs.Prelude.{ℕ, List, ◌∷◌, ◌++◌, ◌≡◌, ◌≢◌, ◌^◌, ◌<◌, Option, Some, None, ◌%◌, ◌==◌, Bool, true}
use Rattle.eel_base.specs.Fields.{hex_of}
use Rattle.v8_text.specs.Texts.{word_text, line_text}
use Rattle.v8_text.specs.declared.listings.Line.{Line}

-- ---- a line

-- a word's line, but for its newline
abbrev pub line_of : ℕ → ℕ → List ℕ
line_of at w = hex_of at ++ (32 ∷ word_text at w)

-- what is told of some bytes: which line they are, or that they are none
abbrev pub IsLineOf : List ℕ → Option (ℕ × ℕ) → Type 0
IsLineOf line (Some (at, w)) = (at < 2 ^ 32) × (w < 2 ^ 32) × (line ≡ line_of at w)
IsLineOf line None = (at w : ℕ) → at < 2 ^ 32 → w < 2 ^ 32 → line ≢ line_of at w

-- the address may be that of the next line: at first any multiple of 4
abbrev pub is_next : Option ℕ → ℕ → Bool
is_next None at = at % 4 == 0
is_next (Some next) at = at == next

-- the next line, and what follows; or there is none
abbrev pub IsNextLine : List ℕ → Option ℕ → Option Line → Type 0
IsNextLine bytes next (Some line) =
    (line.at < 2 ^ 32) × (line.word < 2 ^ 32) × (is_next next line.at ≡ true) × (bytes ≡ line_text line.at line.word ++ line.rest.now)
IsNextLine bytes next None =
    (at w : ℕ) (after : List ℕ) → at < 2 ^ 32 → w < 2 ^ 32 → is_next next at ≡ true → bytes ≢ line_text at w ++ after
