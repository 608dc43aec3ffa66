-- Cells in memory: words, one after the other.
use Rattle.std.specs.Prelude.{ℕ, ◌+◌, ◌*◌, List, map}
use Rattle.std.specs.List.{range_with_len}
use Rattle.v8_memory.specs.Regions.{Memory}
use Rattle.code_runs.specs.StoredWords.{memory_word}

-- the address of a cell, where the first one stands at `base`
abbrev pub cell_at : ℕ → ℕ → ℕ
cell_at base cell = base + 4 * cell

-- so many words of memory from an address on
abbrev pub words_at : ℕ → ℕ → Memory → List ℕ
words_at base count m = map (λ k. memory_word m (cell_at base k)) (range_with_len 0 count)
