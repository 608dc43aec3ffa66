-- The walk of the run of a file without a fault.
use Rattle.std.specs.Prelude.{◌≡◌, ℕ, true, List, None}
use Rattle.eel_base.specs.CodeText.{Words}
use Rattle.elf32_sparc.specs.FileFault.{fault}
use Rattle.elf32_sparc.specs.Image.{text_of, image_of}
use Rattle.v8_step.specs.State.{State, AreBytes}
use Rattle.v8_step.specs.Valid.{IsValid}
use Rattle.v8_process.specs.Start.{start_of}
use Rattle.cfg_blocks.specs.Blocks.{is_among}
use Rattle.cfg_blocks.specs.Entries.{entered_of}
use Rattle.cfg_blocks.specs.Switches.{switches_of}
use Rattle.cfg_normal.specs.Opens.{opens_of}
use Rattle.cfg_normal.specs.Graph.{Graph, graph_of}
use Rattle.cfg_walk.specs.Matches.{FetchesOnly, MatchesRun}

-- Where a file without a fault starts, a word can be fetched just where its text has it.
abbrev pub OnlyTextIsFetched : Type 0
OnlyTextIsFetched =
    (file : List ℕ) (args : List (List ℕ)) (input : List ℕ) → fault file ≡ None → AreBytes file
    → FetchesOnly (text_of file) (start_of file args input)

-- the graph of a file's text with its open switches, where these words lead besides
abbrev pub graph_in : List ℕ → List ℕ → Graph
graph_in file given =
    let list = entered_of (text_of file) given in
    graph_of list.blocks (opens_of (text_of file) list (switches_of (text_of file) list (image_of file).entry))

-- What holds of the walk of the run of each file, from its entry on, which is among the words that lead. The run begins in a
-- valid state.
abbrev pub OfEachFile : (Words → Graph → ℕ → State → ℕ → Type 0) → Type 0
OfEachFile Holds =
    (file : List ℕ) (args : List (List ℕ)) (input given : List ℕ) (n : ℕ) → fault file ≡ None → AreBytes file
    → IsValid (start_of file args input) → is_among given (image_of file).entry ≡ true
    → Holds (text_of file) (graph_in file given) (image_of file).entry (start_of file args input) n

abbrev pub WalksOfFilesMatch : Type 0
WalksOfFilesMatch = OfEachFile MatchesRun
