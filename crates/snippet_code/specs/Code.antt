-- What contracts of this crate's code and laws cite beyond the statement.
use Rattle.std.specs.Prelude.{ℕ, ◌≤◌, ◌<◌, ◌⊎◌, List, [], ◌∷◌, ◌+◌}
use Rattle.snippets.specs.declared.snippet.Op.{Op}
use Rattle.snippets.specs.Ops.{cell_of, cells_end}
use Rattle.code_runs.specs.Page.{page_word}

-- a cell on which an operation works
abbrev pub IsCellIn : Op → ℕ → Type 0
IsCellIn op k = (cell_of op ≤ k) × (k < cells_end op)

-- a cell on which one of several does
abbrev pub IsCellOf : List Op → ℕ → Type 0
IsCellOf [] k = ⊥
IsCellOf (op ∷ ops) k = IsCellIn op k ⊎ IsCellOf ops k

-- The words of the editor's page in which registers are kept meanwhile: five from word 2 on.
abbrev pub kept_word : ℕ → ℕ
kept_word n = page_word (n + 2)
