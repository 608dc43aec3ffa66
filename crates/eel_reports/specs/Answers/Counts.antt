-- `counts WRITTEN DUMP`: how often each edge was completed is rebuilt from the notes of WRITTEN and the dump DUMP.
use Rattle.std.specs.Prelude.{◌≡◌, ℕ, List, length}
use Rattle.notes.specs.Format.{Notes}
use Rattle.dump_file.specs.Dump.{Dump}
use Rattle.count_rebuild.specs.Answers.{AreCounts, IsImpossible, IsLong, IsTooLarge}
use Rattle.count_rebuild.specs.Counts.{IsShort}
use Rattle.count_rebuild.specs.Dumps.{IsBetween, IsForOther, IsMisshapen, IsOfOther}
use Rattle.count_rebuild.specs.Noted.{IsProfile as HasProfile}
use Rattle.show_text.specs.CountLines.{count_lines}
use Rattle.eel_said.specs.declared.outcome.CountCause.{CountCause}
use Rattle.eel_said.specs.declared.outcome.CountCause.TheVariants as causes
use Rattle.eel_said.specs.Outcome.{Outcome, NoProfile, NoCounts, OutOfMemory}

-- ---- refusals

-- why there are no counts, by the notes of a profile and a dump
abbrev pub HasCause : Notes → Dump → CountCause → Type 0
HasCause notes dump (causes.Version of wanted) = IsOfOther HasProfile notes dump of wanted
HasCause notes dump (causes.Length length wanted) = IsForOther HasProfile notes dump length wanted
HasCause notes dump (causes.Shape cells wanted) = IsMisshapen HasProfile notes dump cells wanted
HasCause notes dump (causes.Steps steps) = IsLong notes dump steps
HasCause notes dump (causes.Between pc) = IsBetween IsShort notes dump pc.0
HasCause notes dump (causes.Negative edge value) = IsImpossible notes dump edge.0 value
HasCause notes dump (causes.Large edge value) = IsTooLarge notes dump edge.0 value

-- There are no counts by the notes of the file `written` and by the dump `name`. Want of memory comes only where the
-- tool of the notes is that of a profile.
abbrev pub IsUncounted : List ℕ → List ℕ → Notes → Dump → Outcome → Type 0
IsUncounted written name notes dump (NoProfile named) = (named ≡ written) × ¬ HasProfile notes
IsUncounted written name notes dump (NoCounts named cause) = (named ≡ name) × HasCause notes dump cause
IsUncounted written name notes dump OutOfMemory = notes.tool ≡ 1
IsUncounted written name notes dump _ = ⊥

-- ---- the counts

-- The lines tell how often each edge was completed: the counts are the one flow on the notes' graph, from the block at
-- which the program is entered to the node where the run stands, that agrees with the cells.
pub record TellCounts (notes : Notes) (dump : Dump) (lines : List ℕ) : Type 0 where
  pub counts : List ℕ
  pub are : AreCounts notes dump counts
  pub tell : lines ≡ count_lines notes counts
