-- `list FILE` prints the instructions of the text of the program FILE.
use Rattle.std.specs.Prelude.{ℕ, List}
use Rattle.elf32_sparc.specs.Image.{image_of}
use Rattle.v8_text.specs.Texts.{listing_text}

-- a line for each word of a file's text
abbrev pub listed_of : List ℕ → List ℕ
listed_of bytes = listing_text (image_of bytes).text
