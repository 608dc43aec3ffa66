-- What only contracts of private functions cite.
use Rattle.std.specs.Prelude.{ℕ, ◌≡◌, List, length}
use Rattle.eel_base.specs.declared.numbers.WordNo.{WordNo}
use Rattle.snippets.specs.declared.script.ScriptFault.{ScriptFault}
use Rattle.notes.specs.Format.{Notes}
use Rattle.count_rebuild.specs.declared.fault.CountFault.{CountFault}
use Rattle.eel_said.specs.Outcome.{Outcome, OutOfMemory, NoProfile, NoCounts, NotEveryWord, BadLine}
use Rattle.count_rebuild.specs.declared.fault.CountFault.TheVariants as count_faults
use Rattle.eel_said.specs.declared.outcome.CountCause.TheVariants as causes
use Rattle.snippets.specs.declared.script.ScriptFault.TheVariants as script_faults
use Rattle.eel_said.specs.declared.outcome.LineCause.TheVariants as line_causes
use Rattle.eel_reports.specs.Answers.Files.{IsSound}
use Rattle.eel_reports.specs.Answers.Restore.{original_in}
use Rattle.eel_reports.specs.Answers.Visits.{HasEveryWord}

abbrev pub word_numbered : ℕ → WordNo
word_numbered number = record { 0 = number }

-- what a fault of the rebuilding comes to
abbrev pub uncounted_of : List ℕ → List ℕ → CountFault → Outcome
uncounted_of written name count_faults.NoProfile = NoProfile written
uncounted_of written name (count_faults.Version of wanted) = NoCounts name (causes.Version of wanted)
uncounted_of written name (count_faults.Other length wanted) = NoCounts name (causes.Length length wanted)
uncounted_of written name (count_faults.Shape cells wanted) = NoCounts name (causes.Shape cells wanted)
uncounted_of written name (count_faults.TooLong steps) = NoCounts name (causes.Steps steps)
uncounted_of written name (count_faults.Between pc) = NoCounts name (causes.Between pc)
uncounted_of written name (count_faults.Negative edge value) = NoCounts name (causes.Negative edge value)
uncounted_of written name (count_faults.Large edge value) = NoCounts name (causes.Large edge value)
uncounted_of written name count_faults.NoMemory = OutOfMemory

-- the notes are not so
abbrev pub IsNotEveryWord : List ℕ → List ℕ → Notes → Outcome → Type 0
IsNotEveryWord name file notes (NotEveryWord named) = (named ≡ name) × ¬ HasEveryWord file notes
IsNotEveryWord name file notes OutOfMemory = IsSound (original_in file notes)
IsNotEveryWord name file notes _ = ⊥

-- what a refused script comes to
abbrev pub script_refusal_of : List ℕ → ScriptFault → Outcome
script_refusal_of name (script_faults.Line number) = BadLine name number line_causes.Grammar
script_refusal_of name (script_faults.Edge number) = BadLine name number line_causes.Edge
script_refusal_of name (script_faults.Cell number) = BadLine name number line_causes.Cell
script_refusal_of name (script_faults.Ops number) = BadLine name number line_causes.Operations
script_refusal_of name script_faults.NoMemory = OutOfMemory
