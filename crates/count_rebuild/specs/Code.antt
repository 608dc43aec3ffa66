-- What contracts of this crate's code and laws cite beyond the statement.
use Rattle.std.specs.Prelude.{◌≡◌}
use Rattle.notes.specs.Format.{Notes}
use Rattle.dump_file.specs.Dump.{Dump}
use Rattle.count_rebuild.specs.declared.fault.CountFault.{CountFault}
use Rattle.count_rebuild.specs.declared.fault.CountFault.TheVariants as faults
use Rattle.count_rebuild.specs.Noted.{IsProfile}
use Rattle.count_rebuild.specs.Dumps.{IsBetween, IsForOther, IsMisshapen, IsOfOther}
use Rattle.count_rebuild.specs.Counts.{IsShort}
use Rattle.count_rebuild.specs.Answers.{IsLong, IsImpossible, IsTooLarge}

-- A refusal has its cause. Want of memory comes only where the tool is that of a profile: whether the edges without a
-- cell are a spanning tree takes memory, and all else is judged after that.
abbrev pub IsRefused : Notes → Dump → CountFault → Type 0
IsRefused notes dump faults.NoProfile = ¬ IsProfile notes
IsRefused notes dump (faults.Version of wanted) = IsOfOther IsProfile notes dump of wanted
IsRefused notes dump (faults.Other length wanted) = IsForOther IsProfile notes dump length wanted
IsRefused notes dump (faults.Shape cells wanted) = IsMisshapen IsProfile notes dump cells wanted
IsRefused notes dump (faults.TooLong steps) = IsLong notes dump steps
IsRefused notes dump (faults.Between pc) = IsBetween IsShort notes dump pc.0
IsRefused notes dump (faults.Negative edge value) = IsImpossible notes dump edge.0 value
IsRefused notes dump (faults.Large edge value) = IsTooLarge notes dump edge.0 value
IsRefused notes dump faults.NoMemory = notes.tool ≡ 1
