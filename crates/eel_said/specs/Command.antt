-- The grammar of the program's words.
use Rattle.std.specs.Prelude.{ℕ, ◌+◌, ◌-◌, ◌*◌, ◌^◌, ◌&&◌, nat_le, nat_lt, Bool, if◌then◌else◌, List, [], ◌∷◌, length, codes, decimal, Option, Some, None}
use Rattle.std.specs.List.{find, fold, list_all, range_with_len}
use Rattle.std.specs.Option.{option_map, option_or}
use Rattle.std.specs.Str.{bytes_eq}
pub use Rattle.v8_process.specs.Arguments.{texts}
use Rattle.v8_process.specs.Start.{strings}
use Rattle.eel_said.specs.declared.command.Shown.{Shown}
use Rattle.eel_said.specs.declared.command.Shown.TheVariants as shows
use Rattle.eel_said.specs.declared.command.Report.{Report}
use Rattle.eel_said.specs.declared.command.Report.TheVariants as reports

-- what an edit puts on the edges of a program
pub data Tool : Type 0 where
  -- plain
  Plain : Tool
  -- profile
  Profile : Tool
  -- profile WEIGHTS
  Weighed : (weights : List ℕ) → Tool
  -- every
  Every : Tool
  -- trace BITS
  Trace : (bits : ℕ) → Tool
  -- script SCRIPT
  Script : (script : List ℕ) → Tool

pub data Command : Type 0 where
  -- edit INPUT OUTPUT TOOL
  Edit : (input output : List ℕ) (tool : Tool) → Command
  -- run FILE [-n LIMIT] [-d DUMP] [-- ARG..], the two options in either order
  Run : (file : List ℕ) (limit : ℕ) (dump : Option (List ℕ)) (args : List (List ℕ)) → Command
  -- show FILE, list FILE
  Show : (shown : Shown) (file : List ℕ) → Command
  -- words LISTING OUTPUT
  PutWords : (listing output : List ℕ) → Command
  -- restore WRITTEN OUTPUT
  Restore : (written output : List ℕ) → Command
  -- counts WRITTEN DUMP, visits WRITTEN DUMP, trace WRITTEN DUMP
  ReportRun : (report : Report) (written dump : List ℕ) → Command
  -- demo NUMBER ROUTINES
  Demo : (number routines : ℕ) → Command
  -- words outside the grammar
  Unknown : Command

-- ---- edit

-- a tool that is one word
abbrev pub tool_of : List ℕ → Option Tool
tool_of word =
    if bytes_eq word (codes "plain") then Some Plain else
    if bytes_eq word (codes "profile") then Some Profile else
    if bytes_eq word (codes "every") then Some Every else None

-- how many bits a ring has: a number from 1 to 16
unfoldable pub bits_of : List ℕ → Option ℕ
bits_of text = find (λ bits. bytes_eq text (decimal bits)) (range_with_len 1 16)

-- a tool with a file, or with a number
abbrev pub tool_with : List ℕ → List ℕ → Option Tool
tool_with word value =
    if bytes_eq word (codes "script") then Some (Script value) else
    if bytes_eq word (codes "profile") then Some (Weighed value) else
    if bytes_eq word (codes "trace") then option_map Trace (bits_of value) else None

abbrev pub edit_with : List ℕ → List ℕ → Option Tool → Command
edit_with input output None = Unknown
edit_with input output (Some tool) = Edit input output tool

abbrev pub edit_of : List (List ℕ) → Command
edit_of (input ∷ output ∷ tool ∷ []) = edit_with input output (tool_of tool)
edit_of (input ∷ output ∷ tool ∷ value ∷ []) = edit_with input output (tool_with tool value)
edit_of _ = Unknown

-- ---- run

-- how many steps a run makes at most, where the words don't say it
abbrev pub default_limit : ℕ
default_limit = 100000000

abbrev pub is_digit : ℕ → Bool
is_digit byte = nat_le 48 byte && nat_le byte 57

-- the number that decimal digits say
abbrev pub value_of : List ℕ → ℕ
value_of digits = fold (λ number digit. 10 * number + (digit - 48)) 0 digits

-- a number of so many digits at most, and of so many bits
abbrev pub number_within : ℕ → ℕ → List ℕ → Option ℕ
number_within digits bits text =
    if nat_le 1 (length text) && nat_le (length text) digits && list_all is_digit text && nat_lt (value_of text) (2 ^ bits)
    then Some (value_of text) else None

-- at most 1,000 arguments, of at most 65,536 bytes with a zero byte after each
abbrev pub are_few : List (List ℕ) → Bool
are_few args = nat_le (length args) 1000 && nat_le (length (strings args)) (2 ^ 16)

-- an option of this name with its value, where the words begin with one, and what follows
unfoldable pub option_in : List ℕ → List (List ℕ) → Option (List ℕ) × List (List ℕ)
option_in name (option ∷ value ∷ words) =
    if bytes_eq option name then (Some value, words) else (None, option ∷ value ∷ words)
option_in name words = (None, words)

-- the limit that an option says, if it is one
abbrev pub limit_in : Option (List ℕ) → Option ℕ
limit_in None = Some default_limit
limit_in (Some text) = number_within 20 64 text

-- what may follow the options
unfoldable pub arguments_of : List ℕ → Option ℕ → Option (List ℕ) → List (List ℕ) → Command
arguments_of file None dump words = Unknown
arguments_of file (Some limit) dump [] = Run file limit dump []
arguments_of file (Some limit) dump (mark ∷ args) =
    if bytes_eq mark (codes "--") && are_few args then Run file limit dump args else Unknown

-- a limit behind a dump, where there was none before
abbrev pub late_in : Option (List ℕ) → List (List ℕ) → Option (List ℕ) × List (List ℕ)
late_in (Some limit) words = (None, words)
late_in None words = option_in (codes "-n") words

-- what may follow the file: the two options in either order
abbrev pub options_of : List ℕ → List (List ℕ) → Command
options_of file words =
    let first = option_in (codes "-n") words in
    let dump = option_in (codes "-d") first.1 in
    let late = late_in first.0 dump.1 in
    arguments_of file (limit_in (option_or first.0 late.0)) dump.0 late.1

abbrev pub run_of : List (List ℕ) → Command
run_of [] = Unknown
run_of (file ∷ words) = options_of file words

-- ---- verbs with one name, and with two

abbrev pub of_one : (List ℕ → Command) → List (List ℕ) → Command
of_one command (file ∷ []) = command file
of_one command _ = Unknown

abbrev pub of_two : (List ℕ → List ℕ → Command) → List (List ℕ) → Command
of_two command (first ∷ second ∷ []) = command first second
of_two command _ = Unknown

-- ---- demo

-- a number, and how many routines there are: 1 to 100,000
abbrev pub demo_with : Option ℕ → Option ℕ → Command
demo_with (Some number) (Some routines) =
    if nat_le 1 routines && nat_le routines 100000 then Demo number routines else Unknown
demo_with _ _ = Unknown

abbrev pub demo_of : List ℕ → List ℕ → Command
demo_of number routines = demo_with (number_within 10 32 number) (number_within 10 32 routines)

-- ---- what the words ask for

abbrev pub command_of : List (List ℕ) → Command
command_of [] = Unknown
command_of (verb ∷ words) =
    if bytes_eq verb (codes "edit") then edit_of words else
    if bytes_eq verb (codes "run") then run_of words else
    if bytes_eq verb (codes "show") then of_one (Show shows.Graph) words else
    if bytes_eq verb (codes "list") then of_one (Show shows.Words) words else
    if bytes_eq verb (codes "words") then of_two PutWords words else
    if bytes_eq verb (codes "restore") then of_two Restore words else
    if bytes_eq verb (codes "counts") then of_two (ReportRun reports.Counts) words else
    if bytes_eq verb (codes "visits") then of_two (ReportRun reports.Visits) words else
    if bytes_eq verb (codes "trace") then of_two (ReportRun reports.LastEdges) words else
    if bytes_eq verb (codes "demo") then of_two demo_of words else Unknown
