-- The lines that a tool of `edit` takes: of which file they are, and which is the first bad one.
use Rattle.std.specs.Prelude.{◌≡◌, ℕ, List, length, Option, Some, None}
use Rattle.eel_said.specs.declared.outcome.LineCause.{LineCause}
use Rattle.cfg_view.specs.View.{Seen}
use Rattle.eel_said.specs.Command.{Tool}
use Rattle.eel_said.specs.Command as words
use Rattle.eel_reports.specs.Answers.ScriptLines.{HasBadLine, script_limit}
use Rattle.eel_reports.specs.Answers.Weighed.{HasBadWeight, weights_limit}

-- the file whose lines it takes, and how many bytes that may have
abbrev pub lines_of : Tool → Option (List ℕ × ℕ)
lines_of (words.Weighed weights) = Some (weights, weights_limit)
lines_of (words.Script script) = Some (script, script_limit)
lines_of _ = None

-- The lines are those of the file `named`, and this one is bad for a program, with what is bad about it.
abbrev pub IsBadLineOf : Tool → Seen → List ℕ → List ℕ → ℕ → LineCause → Type 0
IsBadLineOf (words.Weighed name) view lines named number cause = (named ≡ name) × HasBadWeight view lines number cause
IsBadLineOf (words.Script name) view lines named number cause =
    (named ≡ name) × HasBadLine (length view.graph.edges) lines number cause
IsBadLineOf _ view lines named number cause = ⊥
