-- `edit IN OUT every`: as `profile`, with every word of the text marked. So each word is a block by itself, and the
-- counts of edges tell how often each ran.
use Rattle.std.specs.Prelude.{ℕ, List, length}
use Rattle.std.specs.List.{range_with_len}
use Rattle.elf32_sparc.specs.Image.{image_of}
use Rattle.cfg_view.specs.View.{Seen, view_of}

-- the words of a file's text, by their numbers
abbrev pub every_word : List ℕ → List ℕ
every_word bytes = range_with_len 0 (length (image_of bytes).text.words)

-- the view of a file with all of them marked
abbrev pub every_view : List ℕ → Seen
every_view bytes = view_of bytes (every_word bytes)
