-- What a tool keeps.
use Rattle.std.specs.Prelude.{ℕ, List}
use Rattle.eel_base.specs.declared.numbers.WordNo.{WordNo}
use Rattle.tool_kit.specs.declared.edge_ref.ToolKind.{ToolKind}

-- its callback, how many cells there are, the marked words, and what it is for
pub record Kept (F : Type 0) : Type 0 where
  pub choose : F
  pub cells : ℕ
  pub marks : List WordNo
  pub kind : ToolKind
