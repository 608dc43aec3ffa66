-- How often a run completes each edge of the flow graph.
use Rattle.std.specs.Prelude.{ℕ}
use Rattle.eel_base.specs.CodeText.{Words}
use Rattle.flows.specs.Flows.{times}
use Rattle.cfg_normal.specs.Graph.{Graph}
use Rattle.v8_step.specs.State.{State}
use Rattle.cfg_walk.specs.Walk.{walk}

module _ (text : Words) (graph : Graph) (entry : ℕ) (s0 : State) (n : ℕ) where
  -- how often they complete each edge
  abbrev pub executions : ℕ → ℕ
  executions e = times (walk text graph entry s0 n) e
