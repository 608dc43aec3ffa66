-- Where a run of the machine stops, and what the sinks have taken by then.
use Rattle.std.specs.Prelude.{◌≡◌, ℕ, ◌<◌, ◌≤◌, List, Option, Some, None}
use Rattle.eel_base.specs.Outside.{appended, TookPart}
use Rattle.v8_step.specs.declared.Ending.{Ending}
use Rattle.v8_runner.specs.declared.Stop.{Stop}
use Rattle.v8_runner.specs.declared.Stop.TheVariants.{Limit, Ended, SinkFault}

-- why a run stops with this ending, or none, after so many steps
abbrev pub IsStop : Option Ending → ℕ → ℕ → Stop → Type 0
IsStop ending limit steps Limit = (steps ≡ limit) × (ending ≡ None)
IsStop ending limit steps (Ended how) = (steps ≤ limit) × (ending ≡ Some how)
IsStop ending limit steps SinkFault = (steps < limit) × (ending ≡ None)

-- a sink took all bytes of the steps, and where a sink failed a first part of those of the next step
abbrev pub RunTakes : Option (List ℕ) → Option (List ℕ) → List ℕ → List ℕ → Stop → Type 0
RunTakes old new bytes more Limit = new ≡ appended old bytes
RunTakes old new bytes more (Ended how) = new ≡ appended old bytes
RunTakes old new bytes more SinkFault = TookPart (appended old bytes) new more
