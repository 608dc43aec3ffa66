-- What the words of snippets do.
use Rattle.std.specs.Prelude.{ℕ, ◌*◌, ◌≤◌, List, length}
use Rattle.v8_decode.specs.declared.Part.{Part}
use Rattle.snippets.specs.declared.snippet.Op.{Op}
use Rattle.snippets.specs.Cells.{named_by}
use Rattle.snippet_code.specs.Runs.{DoesJust}
use Rattle.snippet_code.specs.Spills.{spills_of}
use Rattle.image_code.specs.Store.{snippet_on}
use Rattle.image_code.specs.SnippetWords.{codes_of}

-- The words on an edge do just its snippet, on the cells at `base`, and are few.
pub record CodeDoes (base : ℕ) (dead : ℕ → List Part) (snips : List (List Op)) (edge : ℕ) : Type 0 where
  pub few : length (snippet_on snips edge) ≤ 8
  pub short : length (codes_of base dead snips edge) ≤ 22 * length (snippet_on snips edge)
  pub does : DoesJust (codes_of base dead snips edge) base (dead edge)
      (spills_of (dead edge) (named_by (snippet_on snips edge)) (snippet_on snips edge)) (snippet_on snips edge)
