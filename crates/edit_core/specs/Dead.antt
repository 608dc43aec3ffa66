-- What is dead behind the snippets of edges.
use Rattle.std.specs.Prelude.{◌≡◌, ◌<◌, ◌↔◌, ℕ, true, List, length}
use Rattle.eel_base.specs.CodeText.{Words}
use Rattle.v8_decode.specs.declared.Part.{Part}
use Rattle.v8_decode.specs.Parts.{has, is_member, set_of}
use Rattle.cfg_normal.specs.Graph.{Graph}
use Rattle.liveness.specs.Live.{IsLiveOn}

-- Behind the snippet of each edge, the set of all registers, codes and Y that aren't live there. `named` has the registers
-- that the snippets name.
pub record AreDead (text : Words) (graph : Graph) (named dead : ℕ → List Part) : Type 0 where
  pub sets : (edge : ℕ) → edge < length graph.edges → set_of (dead edge) ≡ dead edge
  pub all : (edge : ℕ) → edge < length graph.edges → (part : Part) → is_member part ≡ true
      → (has (dead edge) part ≡ true) ↔ (¬ IsLiveOn text graph named edge part)
