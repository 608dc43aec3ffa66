-- Where each word of a text is marked: each is a block by itself, no switch is open, and counts of edges tell how often
-- each word is visited.
use Rattle.std.specs.Prelude.{◌≡◌, ℕ, suc, ◌<◌, true, List, [], length, None}
use Rattle.eel_base.specs.CodeText.{Words, address_of}
use Rattle.eel_base.specs.Code.{IsText}
use Rattle.flows.specs.Flows.{times}
use Rattle.elf32_sparc.specs.FileFault.{fault}
use Rattle.elf32_sparc.specs.Image.{image_of, text_of}
use Rattle.v8_step.specs.State.{State, AreBytes}
use Rattle.v8_step.specs.Run.{run}
use Rattle.two_runs.specs.Visits.{own_trail}
use Rattle.v8_process.specs.Start.{start_of}
use Rattle.cfg_blocks.specs.Blocks.{blocks_of, is_among}
use Rattle.cfg_blocks.specs.Entries.{entered_of}
use Rattle.cfg_blocks.specs.declared.switches.Switch.{Switch}
use Rattle.cfg_normal.specs.Opens.{opens_of}
use Rattle.cfg_normal.specs.Graph.{Graph}
use Rattle.walk_counts.specs.Counts.{last_node}
use Rattle.walk_counts.specs.Files.{graph_in}
use Rattle.walk_counts.specs.Executions.{executions}
use Rattle.instr_counts.specs.Visits.{AreSingle}
use Rattle.instr_counts.specs.Code.{visits_by}

-- each word of the text is among those that are given
abbrev pub HasEach : Words → List ℕ → Type 0
HasEach text given = (word : ℕ) → word < length text.words → is_among given word ≡ true

abbrev pub WordsAreBlocks : Type 0
WordsAreBlocks = (text : Words) (given : List ℕ) → IsText text → HasEach text given → AreSingle (blocks_of text given)

-- a comparison and the branch behind it stand in one block
abbrev pub NoneAreOpen : Type 0
NoneAreOpen =
    (text : Words) (given : List ℕ) (switches : List Switch) → IsText text → HasEach text given
    → opens_of text (entered_of text given) switches ≡ []

-- The run carries out step n. So often its first n + 1 steps carry out the word: as the counts of the edges that the
-- first n complete say, and where it stands.
abbrev pub AreVisited : Words → Graph → ℕ → State → ℕ → Type 0
AreVisited text graph entry s0 n =
    (run s0 n).ending ≡ None → (word : ℕ) → word < length text.words
    → times (own_trail s0 (suc n)) (address_of text word)
    ≡ visits_by text graph entry (executions text graph entry s0 n) (run s0 n).pc (last_node text graph entry s0 n) word

-- so it is of the run of a file without a fault, over the graph of its text with each word marked
abbrev pub VisitsAreCounted : Type 0
VisitsAreCounted =
    (file : List ℕ) (args : List (List ℕ)) (input given : List ℕ) (n : ℕ) → fault file ≡ None → AreBytes file
    → HasEach (text_of file) given
    → AreVisited (text_of file) (graph_in file given) (image_of file).entry (start_of file args input) n
