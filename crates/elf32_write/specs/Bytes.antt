-- Words and halfwords as bytes, and zeros between the parts of a file.
use Rattle.std.specs.Prelude.{ℕ, ◌+◌, ◌-◌, ◌*◌, ◌/◌, List, ◌++◌, length, replicate}
use Rattle.std.specs.List.{flat_map}
use Rattle.byteorder.specs.Endian.{big_bytes}

unfoldable pub halves_bytes : List ℕ → List ℕ
halves_bytes halves = flat_map (big_bytes 2) halves

-- the bytes, and zeros up to an offset
unfoldable pub padded_to : ℕ → List ℕ → List ℕ
padded_to offset bytes = bytes ++ replicate (offset - length bytes) 0

abbrev pub page_size : ℕ
page_size = 4096

-- the least multiple of a page, and of a word, that isn't below the offset
abbrev pub next_page : ℕ → ℕ
next_page offset = (offset + (page_size - 1)) / page_size * page_size

abbrev pub next_word : ℕ → ℕ
next_word offset = (offset + 3) / 4 * 4
