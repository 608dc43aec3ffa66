-- `edit IN OUT profile WEIGHTS` puts counters on the edges off a spanning tree of the graph of IN that weighs most by the
-- lines WEIGHTS.
use Rattle.std.specs.Prelude.{◌≡◌, ℕ, ◌*◌, ◌^◌, List, [], Option, Some, None}
use Rattle.cfg_view.specs.View.{Seen, view_of}
use Rattle.weights_in.specs.Weights.{AreRefused, AreWeights}
use Rattle.weights_in.specs.declared.reading.WeightFault.{WeightFault}
use Rattle.weights_in.specs.declared.reading.WeightFault.TheVariants as weight_faults
use Rattle.eel_said.specs.declared.outcome.LineCause.{LineCause}
use Rattle.eel_said.specs.declared.outcome.LineCause.TheVariants as causes

-- how long the lines may be
abbrev pub weights_limit : ℕ
weights_limit = 256 * 2 ^ 20

-- the lines have these weights for the edges of a file's graph
abbrev pub AreWeightsOf : List ℕ → List ℕ → List ℕ → Type 0
AreWeightsOf bytes lines weights = AreWeights (view_of bytes []) lines weights

-- ---- refusals

-- the number of the bad line that a fault names, and what is bad about it
abbrev pub weight_cause : WeightFault → Option (ℕ × LineCause)
weight_cause (weight_faults.Line number) = Some (number, causes.Grammar)
weight_cause (weight_faults.Edge number) = Some (number, causes.Edge)
weight_cause (weight_faults.Total number) = Some (number, causes.Total)
weight_cause weight_faults.NoMemory = None

-- the first bad line, for the edges of a program
abbrev pub HasBadWeight : Seen → List ℕ → ℕ → LineCause → Type 0
HasBadWeight view lines number cause =
    (fault : WeightFault) × AreRefused view lines fault × (weight_cause fault ≡ Some (number, cause))
