-- What a fault of a text that comes in comes to.
use Rattle.std.specs.Prelude.{ℕ, List}
use Rattle.eel_base.specs.declared.outside.FetchFault.{FetchFault}
use Rattle.eel_base.specs.declared.outside.FetchFault.TheVariants as fetches
use Rattle.elf32_sparc.specs.declared.fault.ReadFault.{ReadFault}
use Rattle.elf32_sparc.specs.declared.fault.ReadFault.TheVariants as reads
use Rattle.elf32_sparc.specs.FileFault.{code_of}
use Rattle.v8_text.specs.declared.listings.ListFault.{ListFault}
use Rattle.v8_text.specs.declared.listings.ListFault.TheVariants as lists
use Rattle.weights_in.specs.declared.reading.WeightFault.{WeightFault}
use Rattle.weights_in.specs.declared.reading.WeightFault.TheVariants as weights
use Rattle.eel_said.specs.declared.outcome.LineCause.TheVariants as causes
use Rattle.eel_said.specs.Outcome.{Outcome, BadFile, BadLine, NotEveryWord, TooLong, OutOfMemory, DeviceFault}

-- of a text that has this name, and may have so many bytes
abbrev pub unread_of : List ℕ → ℕ → FetchFault → Outcome
unread_of name limit fetches.Failed = DeviceFault
unread_of name limit fetches.TooLong = TooLong name limit
unread_of name limit fetches.NoMemory = OutOfMemory

-- of lines of weights
abbrev pub unweighed_of : List ℕ → WeightFault → Outcome
unweighed_of name (weights.Line number) = BadLine name number causes.Grammar
unweighed_of name (weights.Edge number) = BadLine name number causes.Edge
unweighed_of name (weights.Total number) = BadLine name number causes.Total
unweighed_of name weights.NoMemory = OutOfMemory

-- of a listing
abbrev pub unlisted_of : List ℕ → ListFault → Outcome
unlisted_of name (lists.Line number) = BadLine name number causes.Grammar
unlisted_of name lists.NoMemory = OutOfMemory

-- of the original in a file that is to have every word marked
abbrev pub unmarked_of : List ℕ → ReadFault → Outcome
unmarked_of name (reads.File fault) = NotEveryWord name
unmarked_of name reads.NoMemory = OutOfMemory

-- of a program
abbrev pub unsound_of : List ℕ → ReadFault → Outcome
unsound_of name (reads.File fault) = BadFile name (code_of fault)
unsound_of name reads.NoMemory = OutOfMemory
