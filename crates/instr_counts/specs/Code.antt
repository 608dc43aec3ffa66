-- What contracts of this crate's code and laws cite beyond the statement.
use Rattle.std.specs.Prelude.{ℕ, ◌+◌}
use Rattle.eel_base.specs.CodeText.{Words}
use Rattle.cfg_normal.specs.Graph.{Graph}
use Rattle.instr_counts.specs.Visits.{one_if, finished, is_begun}

-- visits of a word, by the counts of edges and by where the run stands
abbrev pub visits_by : Words → Graph → ℕ → (ℕ → ℕ) → ℕ → ℕ → ℕ → ℕ
visits_by text graph entry counts address node word =
    finished graph entry counts word + one_if (is_begun text graph.blocks address node word)
