-- What a tool asks of a program: a snippet on each edge of its graph.
use Rattle.std.specs.Prelude.{◌≡◌, ℕ, ◌==◌, if◌then◌else◌, List, [], ◌∷◌}
use Rattle.snippets.specs.declared.snippet.Op.{Op}
use Rattle.snippets.specs.declared.snippet.Op.TheVariants.{Add, Count}
use Rattle.snippets.specs.Ops.{cells_end}
use Rattle.tool_kit.specs.declared.edge_ref.ToolKind.{ToolKind}

-- what the tool is for, the marked words, how many cells there are, and the operations on each edge
pub record Plan : Type 0 where
  pub kind : ToolKind
  pub marks : List ℕ
  pub cells : ℕ
  pub snips : List (List Op)

-- A counter, by the version of the notes that tell of it: one of 32 bits in version 1, in a cell; one of 64 bits in
-- version 2, in two.
abbrev pub counter_op : ℕ → ℕ → Op
counter_op version cell = if version == 1 then Add cell 1 else Count cell

-- The snippets of a profile: each is empty, or a counter in cells of its own, which are the next ones in edge order.
abbrev pub AreCounters : ℕ → ℕ → List (List Op) → Type 0
AreCounters version next [] = Unit {0}
AreCounters version next ([] ∷ snips) = AreCounters version next snips
AreCounters version next ((op ∷ []) ∷ snips) = (op ≡ counter_op version next) × AreCounters version (cells_end op) snips
AreCounters version next (_ ∷ snips) = ⊥
