-- What is known of each snippet that a tool answers.
use Rattle.std.specs.Prelude.{ℕ, ◌≤◌, List, length}
use Rattle.std.specs.List.{All}
use Rattle.snippets.specs.declared.snippet.Op.{Op}
use Rattle.snippets.specs.Cells.{WorksBelow}
use Rattle.snippets.specs.Grammar.{IsOp}

-- It has at most eight operations, on cells below a number, and their numbers have their sizes.
pub record IsGood (cells : ℕ) (ops : List Op) : Type 0 where
  pub few : length ops ≤ 8
  pub are_ops : All IsOp ops
  pub below : WorksBelow cells ops
