-- What the parts of making pieces make, by the numbers that they are given.
use Rattle.std.specs.Prelude.{ℕ, List}
use Rattle.v8_decode.specs.declared.Part.{Part}
use Rattle.snippets.specs.declared.snippet.Op.{Op}
use Rattle.snippets.specs.Cells.{named_by}
use Rattle.snippet_code.specs.Words.{code_of_snippet}
use Rattle.image_code.specs.Store.{snippet_on}

-- the words of the snippet on an edge, on the cells at `base`: as `expand` makes them by what is dead behind it
unfoldable pub codes_of : ℕ → (ℕ → List Part) → List (List Op) → ℕ → List ℕ
codes_of base dead snips edge =
    code_of_snippet base (dead edge) (named_by (snippet_on snips edge)) (snippet_on snips edge)
