-- What contracts of this crate's code and laws cite beyond the statement.
use Rattle.std.specs.Prelude.{◌≤◌, ℕ, List, Option, Some, None}
use Rattle.std.specs.Borrow.{Bor}
use Rattle.v8_process.specs.Arguments.{AreArguments, texts}
use Rattle.eel_said.specs.declared.outcome.Outcome as declared
use Rattle.eel_said.specs.declared.outcome.Outcome.TheVariants as variants
use Rattle.eel_said.specs.Outcome.{Outcome, Done, Stopped, BadWords, BadFile, BadLine, NoRoom, TooLong, NoNotes, BadNotes, BadDump, NoProfile, NotEveryWord, NoTrace, NoCounts, BadCell, OutOfMemory, DeviceFault}
use Rattle.eel_said.specs.Command.{Command, Edit, Run, Demo, Show, PutWords, Restore, ReportRun, Unknown, Tool, Plain, Profile, Weighed, Every, Trace, Script}
use Rattle.eel_said.specs.declared.command.Command as declared_command
use Rattle.eel_said.specs.declared.command.Command.TheVariants as command_variants
use Rattle.eel_said.specs.declared.command.EditTool as declared_tool
use Rattle.eel_said.specs.declared.command.EditTool.TheVariants as tools

-- the outcome that the program keeps
abbrev pub outcome_seen : declared.Outcome → Outcome
outcome_seen variants.Done = Done
outcome_seen (variants.Stopped ending steps) = Stopped ending steps
outcome_seen variants.BadWords = BadWords
outcome_seen (variants.BadFile name code) = BadFile name.now code
outcome_seen (variants.BadLine name number cause) = BadLine name.now number cause
outcome_seen (variants.NoRoom name needed had) = NoRoom name.now needed had
outcome_seen (variants.TooLong name limit) = TooLong name.now limit
outcome_seen (variants.NoNotes name) = NoNotes name.now
outcome_seen (variants.BadNotes name at) = BadNotes name.now at
outcome_seen (variants.BadDump name at) = BadDump name.now at
outcome_seen (variants.NoProfile name) = NoProfile name.now
outcome_seen (variants.NotEveryWord name) = NotEveryWord name.now
outcome_seen (variants.NoCounts name cause) = NoCounts name.now cause
outcome_seen (variants.NoTrace name) = NoTrace name.now
outcome_seen (variants.BadCell name cell value) = BadCell name.now cell value
outcome_seen variants.OutOfMemory = OutOfMemory
outcome_seen variants.DeviceFault = DeviceFault

-- a ring has 1 to 16 bits
abbrev pub KeepsBits : Tool → Type 0
KeepsBits (Trace bits) = (1 ≤ bits) × (bits ≤ 16)
KeepsBits _ = Unit {0}

-- the arguments of a run are ones that a program can be given, as many routines are asked for as can be made, and a tool
-- keeps its limits, too
abbrev pub KeepsLimits : Command → Type 0
KeepsLimits (Run file limit dump args) = AreArguments args
KeepsLimits (Demo number routines) = (1 ≤ routines) × (routines ≤ 100000)
KeepsLimits (Edit input output tool) = KeepsBits tool
KeepsLimits _ = Unit {0}

-- a name, if there is one
abbrev pub name_seen : Option (Bor (List ℕ)) → Option (List ℕ)
name_seen None = None
name_seen (Some name) = Some name.now

-- the tool that the program keeps
abbrev pub tool_seen : declared_tool.EditTool → Tool
tool_seen tools.Plain = Plain
tool_seen tools.Profile = Profile
tool_seen (tools.Weighed weights) = Weighed weights.now
tool_seen tools.Every = Every
tool_seen (tools.Trace bits) = Trace bits
tool_seen (tools.Script script) = Script script.now

-- the command that the program keeps
abbrev pub command_seen : declared_command.Command → Command
command_seen (command_variants.Edit input output tool) = Edit input.now output.now (tool_seen tool)
command_seen (command_variants.Run file limit dump args) = Run file.now limit (name_seen dump) (texts args.now)
command_seen (command_variants.Show shown file) = Show shown file.now
command_seen (command_variants.Restore written output) = Restore written.now output.now
command_seen (command_variants.PutWords listing output) = PutWords listing.now output.now
command_seen (command_variants.ReportRun report written dump) = ReportRun report written.now dump.now
command_seen (command_variants.Demo number routines) = Demo number routines
command_seen command_variants.Unknown = Unknown
