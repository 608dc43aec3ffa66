-- What holds of all texts.
use Rattle.std.specs.Prelude.{◌≡◌, ◌≢◌, ℕ, List, Result, Ok, Err}
use Rattle.cfg_view.specs.View.{Seen}
use Rattle.weights_in.specs.declared.reading.WeightFault.{WeightFault}
use Rattle.weights_in.specs.declared.reading.WeightFault.TheVariants as faults
use Rattle.weights_in.specs.Weights.{AreRefused, AreWeights}

abbrev pub IsAnswer : Seen → List ℕ → Result (List ℕ) WeightFault → Type 0
IsAnswer view bytes (Ok weights) = AreWeights view bytes weights
IsAnswer view bytes (Err fault) = AreRefused view bytes fault

-- Two answers are one, but for want of memory.
abbrev pub TextsHaveOneAnswer : Type 0
TextsHaveOneAnswer =
    (view : Seen) (bytes : List ℕ) (one other : Result (List ℕ) WeightFault) → one ≢ Err faults.NoMemory
    → other ≢ Err faults.NoMemory → IsAnswer view bytes one → IsAnswer view bytes other → one ≡ other
