-- An edit, and what its snippets make of the cells.
use Rattle.std.specs.Prelude.{ℕ, zero, suc, ◌+◌, List, [], ◌∷◌, length, get_or, replicate}
use Rattle.eel_base.specs.CodeText.{Words}
use Rattle.notes.specs.Format.{Notes}
use Rattle.v8_step.specs.State.{State, register_of}
use Rattle.v8_step.specs.Run.{run}
use Rattle.cfg_normal.specs.Graph.{Graph}
use Rattle.cfg_walk.specs.Walk.{gone_in}
use Rattle.snippets.specs.declared.snippet.Op.{Op}
use Rattle.snippets.specs.Cells.{update}
use Rattle.snippet_code.specs.Cells.{words_at}

-- a text, its flow graph, the operations on each edge, and the notes of the written file
pub record Edit : Type 0 where
  pub text : Words
  pub graph : Graph
  pub snips : List (List Op)
  pub notes : Notes

-- the operations on an edge, by its number
abbrev pub snippet_on : List (List Op) → ℕ → List Op
snippet_on snips edge = get_or snips edge []

abbrev pub operations_on : List (List Op) → List ℕ → ℕ
operations_on snips [] = 0
operations_on snips (edge ∷ edges) = length (snippet_on snips edge) + operations_on snips edges

-- what the snippets of some edges make of the cells, with the registers of the state that the step reached
abbrev pub updates : List (List Op) → List ℕ → List ℕ → State → List ℕ
updates snips [] cells s = cells
updates snips (edge ∷ edges) cells s = updates snips edges (update (register_of s) (snippet_on snips edge) cells) s

-- The cells begin as zeros, and each step has the snippets of the edges that it completes change them.
abbrev pub store_of : Edit → ℕ → State → ℕ → List ℕ
store_of e entry s0 zero = replicate e.notes.cells 0
store_of e entry s0 (suc n) =
    updates e.snips (gone_in e.text e.graph entry s0 n) (store_of e entry s0 n) (run s0 (suc n))

-- the cells in memory, where the notes say that they stand
abbrev pub cells_in : Notes → State → List ℕ
cells_in notes s = words_at notes.base notes.cells s.memory
