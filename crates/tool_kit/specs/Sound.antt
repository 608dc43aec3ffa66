-- What a tool keeps of its callback: `may` says on what it may be called, and `says` what it may answer.
use Rattle.std.specs.Prelude.{◌≡◌, ℕ, ◌^◌, ◌<◌, ◌≤◌, List}
use Rattle.snippets.specs.declared.snippet.Op.{Op}
use Rattle.snippets.specs.Cells.{WorksBelow}
use Rattle.tool_kit.specs.declared.edge_ref.EdgeRef.{EdgeRef}

-- It may be called on every edge with a number below 2^24, answers snippets with cells below `cells`, which are at most
-- 2^23, and equal ones for one edge.
pub record IsSound {F : Type 0} (may : F → EdgeRef → Type 0) (says : F → EdgeRef → List Op → Type 0)
    (cells : ℕ) (choose : F) : Type 0 where
  pub few : cells ≤ 2 ^ 23
  pub called : (edge : EdgeRef) → edge.no.0 < 2 ^ 24 → may choose edge
  pub below : (edge : EdgeRef) (ops : List Op) → edge.no.0 < 2 ^ 24 → says choose edge ops → WorksBelow cells ops
  pub same : (edge : EdgeRef) (one other : List Op) → edge.no.0 < 2 ^ 24 → says choose edge one
      → says choose edge other → one ≡ other
