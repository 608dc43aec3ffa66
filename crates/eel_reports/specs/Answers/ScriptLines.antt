-- The lines of a script: how many bytes they may have, and which is the first bad one.
use Rattle.std.specs.Prelude.{◌≡◌, ℕ, ◌*◌, ◌^◌, List, Option, Some, None}
use Rattle.snippets.specs.declared.script.ScriptFault.{ScriptFault}
use Rattle.snippets.specs.declared.script.ScriptFault.TheVariants as script_faults
use Rattle.snippets.specs.Grammar.{AllSay, lines_of}
use Rattle.snippets.specs.Scripts.{IsFirstFault}
use Rattle.eel_said.specs.declared.outcome.LineCause.{LineCause}
use Rattle.eel_said.specs.declared.outcome.LineCause.TheVariants as causes

-- how long a script may be
abbrev pub script_limit : ℕ
script_limit = 16 * 2 ^ 20

-- the number of the bad line that a fault names, and what is bad about it
abbrev pub line_cause : ScriptFault → Option (ℕ × LineCause)
line_cause (script_faults.Line number) = Some (number, causes.Grammar)
line_cause (script_faults.Edge number) = Some (number, causes.Edge)
line_cause (script_faults.Cell number) = Some (number, causes.Cell)
line_cause (script_faults.Ops number) = Some (number, causes.Operations)
line_cause script_faults.NoMemory = None

-- the first bad line of a script, for a graph of so many edges
abbrev pub HasBadLine : ℕ → List ℕ → ℕ → LineCause → Type 0
HasBadLine edges lines number cause =
    (said : _) × (fault : ScriptFault) × AllSay (lines_of lines) said × IsFirstFault edges said fault
    × (line_cause fault ≡ Some (number, cause))
