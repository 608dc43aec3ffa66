-- What contracts of this crate's code and laws cite beyond the statement.
use Rattle.std.specs.Prelude.{ℕ, List}
use Rattle.eel_base.specs.CodeText.{Words}
use Rattle.v8_decode.specs.declared.Part.{Part}
use Rattle.cfg_normal.specs.Graph.{Graph}
use Rattle.cfg_normal.specs.declared.Node.{Node}
use Rattle.liveness.specs.Live.{Holds, IsLive, At}

-- `named` has the registers that the snippet of each edge names.
module _ (text : Words) (graph : Graph) (named : ℕ → List Part) where
  -- live at a word, in any node whose block holds it
  abbrev pub IsLiveAt : ℕ → Part → Type 0
  IsLiveAt word x = (node : Node) × Holds graph node word × (IsLive text graph named) (At node word) x
