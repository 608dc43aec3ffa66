-- What holds of the words of snippets.
use Rattle.std.specs.Prelude.{◌≡◌, ℕ, ◌*◌, ◌%◌, ◌^◌, ◌≤◌, List, length, map}
use Rattle.std.specs.List.{All}
use Rattle.v8_decode.specs.declared.Part.{Part}
use Rattle.v8_decode.specs.Words.{decode_of}
use Rattle.snippets.specs.declared.snippet.Op.{Op}
use Rattle.snippets.specs.Cells.{named_by}
use Rattle.snippets.specs.Grammar.{IsOp}
use Rattle.snippets.specs.declared.snippet.Op.TheVariants.{Log}
use Rattle.snippets.specs.Ops.{cells_end}
use Rattle.snippet_code.specs.Cells.{cell_at}
use Rattle.snippet_code.specs.Words.{snippet_words, code_of_snippet, cost_of}
use Rattle.snippet_code.specs.Runs.{DoesJust}
use Rattle.snippet_code.specs.Spills.{spills_of}

-- a ring has 1 to 16 bits
abbrev pub HasBits : Op → Type 0
HasBits (Log cell bits value) = (1 ≤ bits) × (bits ≤ 16)
HasBits op = Unit {0}

-- its cells end at or below the middle of memory
pub record EndsLow (base : ℕ) (op : Op) : Type 0 where
  pub bits : HasBits op
  pub end : cell_at base (cells_end op) ≤ 2 ^ 31

abbrev pub EndLow : ℕ → List Op → Type 0
EndLow base ops = All (EndsLow base) ops

-- A snippet, and where the first cell stands.
pub record CanExpand (base : ℕ) (ops : List Op) : Type 0 where
  pub aligned : base % 4 ≡ 0
  pub few : length ops ≤ 8
  pub are_ops : All IsOp ops
  pub low : EndLow base ops

-- Words that say a snippet's instructions do just the snippet.
abbrev pub SnippetsRun : Type 0
SnippetsRun = (base : ℕ) (dead : List Part) (ops : List Op) (words : List ℕ) → CanExpand base ops
    → map decode_of words ≡ snippet_words base dead (named_by ops) ops
    → DoesJust words base dead (spills_of dead (named_by ops) ops) ops

-- The words of a snippet do it.
abbrev pub SnippetCodeRuns : Type 0
SnippetCodeRuns = (base : ℕ) (dead : List Part) (ops : List Op) → CanExpand base ops
    → (map decode_of (code_of_snippet base dead (named_by ops) ops) ≡ snippet_words base dead (named_by ops) ops)
    × DoesJust (code_of_snippet base dead (named_by ops) ops) base dead (spills_of dead (named_by ops) ops) ops

-- They are no more than the snippet costs, and at most 22 for each operation.
abbrev pub CostsHold : Type 0
CostsHold = (base : ℕ) (dead avoid : List Part) (ops : List Op)
    → (length (snippet_words base dead avoid ops) ≤ cost_of dead avoid ops)
    × (cost_of dead avoid ops ≤ 22 * length ops)
