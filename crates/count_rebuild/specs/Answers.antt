-- What rebuilding answers. Each refusal holds that those before it had no cause.
use Rattle.std.specs.Prelude.{◌≡◌, ◌≤◌, ◌<◌, ◌^◌, ℕ, false, List, length, slice_index, ℤ, pos}
use Rattle.notes.specs.Format.{Notes}
use Rattle.dump_file.specs.Dump.{Dump}
use Rattle.count_rebuild.specs.Noted.{IsProfile}
use Rattle.count_rebuild.specs.Dumps.{IsTheirs}
use Rattle.count_rebuild.specs.Counts.{IsFirst, IsFlowTo, StandsAt, is_large, is_negative}

-- the counts are the flow to the node where the run stands, and each fits 64 bits
pub record AreCounts (notes : Notes) (dump : Dump) (counts : List ℕ) : Type 0 where
  pub node : ℕ
  pub stands : StandsAt notes dump node
  pub len : length counts ≡ length notes.edges
  pub flow : IsFlowTo notes dump node (λ e. pos (slice_index counts e))
  pub small : (e : ℕ) → e < length counts → slice_index counts e < 2 ^ 64

-- counters of one cell may have begun at 0 again
pub record IsLong (notes : Notes) (dump : Dump) (steps : ℕ) : Type 0 where
  pub theirs : IsTheirs IsProfile notes dump
  pub narrow : notes.version ≡ 1
  pub made : steps ≡ dump.steps
  pub long : 2 ^ 32 ≤ steps

-- no run has these counts: one is below 0
pub record IsImpossible (notes : Notes) (dump : Dump) (edge : ℕ) (value : ℤ) : Type 0 where
  pub node : ℕ
  pub flow : ℕ → ℤ
  pub stands : StandsAt notes dump node
  pub is : IsFlowTo notes dump node flow
  pub first : IsFirst is_negative (length notes.edges) flow edge value

-- or none is, and one is too large for a dump's steps
pub record IsTooLarge (notes : Notes) (dump : Dump) (edge : ℕ) (value : ℤ) : Type 0 where
  pub node : ℕ
  pub flow : ℕ → ℤ
  pub stands : StandsAt notes dump node
  pub is : IsFlowTo notes dump node flow
  pub whole : (e : ℕ) → e < length notes.edges → is_negative (flow e) ≡ false
  pub first : IsFirst is_large (length notes.edges) flow edge value
