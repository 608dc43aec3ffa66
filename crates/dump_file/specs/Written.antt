-- A dump as bytes.
use Rattle.std.specs.Prelude.{ℕ, ◌==◌, if◌then◌else◌, List, [], ◌∷◌, ◌++◌, length}
use Rattle.std.specs.List.{flat_map}
use Rattle.byteorder.specs.Endian.{big_bytes}
use Rattle.dump_file.specs.Dump.{Dump, kind_of, number_of}

-- `EELD`
abbrev pub mark : ℕ
mark = 0x45454c44

unfoldable pub words_bytes : List ℕ → List ℕ
words_bytes words = flat_map (big_bytes 4) words

-- what stands between the steps and the number of cells
abbrev pub length_words : Dump → List ℕ
length_words dump = if dump.version == 1 then [] else dump.length ∷ []

unfoldable pub dump_bytes : Dump → List ℕ
dump_bytes dump =
    words_bytes (mark ∷ dump.version ∷ kind_of dump.ending ∷ number_of dump.ending ∷ dump.pc ∷ [])
    ++ big_bytes 8 dump.steps
    ++ words_bytes (length_words dump)
    ++ words_bytes (length dump.cells ∷ [])
    ++ words_bytes dump.cells
