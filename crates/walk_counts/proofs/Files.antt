-- The walk of a file's run matches it.
use Rattle.walk_counts.proofs.Common.{◌≡◌, ℕ, ◌<◌, true, List, [], ◌∷◌, length, Some, None, refl, arith, Words, address_of, IsText, e_entry, fault, text_of, word_number, image_of, accepted, start_of, PlainGraph, IsWalk, State, AreBytes, blocks_of, is_among, Open, opens_of, Graph, graph_of, AreOpen, BeginsAt, FetchesOnly, JumpsGoByCase, MatchesRun, OfEachRun, OfEachFile, WalksOfFilesMatch, graph_in, links_of, AreFlows, CountsAreEnough, ExecutionsOfFilesAreFlows, IsPath, walks_match, node_in, number_inside, cut}
use Rattle.elf32_sparc.specs.Code.{IsProgram}
use Rattle.elf32_sparc.proofs.Images.{accepted-program}
use Rattle.flows.specs.Code.{IsGraph}
use Rattle.v8_step.specs.Valid.{IsValid}
use Rattle.cfg_blocks.specs.Entries.{entered_of}
use Rattle.cfg_blocks.specs.Switches.{switches_of}
use Rattle.switch_runs.proofs.Opened.{are_open, opens_are}
use Rattle.switch_runs.proofs.Starts.{text_is_held}
use Rattle.switch_runs.proofs.Walking.{jumps_are_cases}
use Rattle.walk_counts.proofs.Fetching.{only_text_is_fetched, text_found}
use Rattle.walk_counts.proofs.Paths.{links_are_a_graph, executions_are_flows, walks_are_paths}

-- the entry is the address of a word
pub record IsEntry (text : Words) (entry : ℕ) : Type 0 where
  pub text_is : IsText text
  pub within : word_number text entry < length text.words
  pub address : entry ≡ address_of text (word_number text entry)

pub entry_is : (file : List ℕ) → fault file ≡ None → IsEntry (text_of file) (e_entry file)
unfolding image_of
entry_is file sound =
    let text = text_found file (accepted file sound) _ refl in
    let program : IsProgram (image_of file) = accepted-program file sound in
    let start = text.start in
    let starts = text.fit.starts in
    let aligned = text.fit.aligned in
    record { text_is = text.text_is; within = program.entry; address = omega arith }

pub begins : (file : List ℕ) (args : List (List ℕ)) (input : List ℕ) → IsEntry (text_of file) (e_entry file)
    → BeginsAt (text_of file) (word_number (text_of file) (e_entry file)) (start_of file args input)
unfolding start_of
begins file args input entry =
    let below = entry.text_is.below in
    let within = entry.within in
    record { within = within; pc = entry.address; npc = omega (arith, entry.address); slot = refl }

-- ---- the laws of files

module _ (file : List ℕ) (args : List (List ℕ)) (input given : List ℕ) (sound : fault file ≡ None)
    (bytes : AreBytes file) (valid : IsValid (start_of file args input))
    (among : is_among given (word_number (text_of file) (e_entry file)) ≡ true) where
  abbrev text : Words
  text = text_of file

  abbrev number : ℕ
  number = word_number text (e_entry file)

  abbrev s0 : State
  s0 = start_of file args input

  -- the open switches of a file's text, where these words lead besides
  abbrev opens : List Open
  opens = opens_of text (entered_of text given) (switches_of text (entered_of text given) number)

  entry : IsEntry text (e_entry file)
  entry = entry_is file sound

  fetches : FetchesOnly text s0
  fetches = only_text_is_fetched file args input sound bytes

  pub opened : AreOpen (blocks_of text given) opens
  unfolding entered_of
  opened = are_open text (entered_of text given) number opens (opens_are text given number entry.text_is)

  pub by_case : JumpsGoByCase text (graph_of (blocks_of text given) opens) number s0
  unfolding entered_of
  by_case =
      jumps_are_cases text given number s0 entry.text_is valid fetches (text_is_held file args input sound bytes)
      (begins file args input entry) among

  -- what holds of each run holds of this one
  of_file : (Holds : Words → Graph → ℕ → State → ℕ → Type 0) → OfEachRun Holds → (n : ℕ)
      → Holds text (graph_of (blocks_of text given) opens) number s0 n
  of_file Holds of_runs n =
      of_runs text given opens number s0 n entry.text_is fetches (begins file args input entry) opened by_case

of_files : (Holds : Words → Graph → ℕ → State → ℕ → Type 0) → OfEachRun Holds → OfEachFile Holds
unfolding image_of entered_of
of_files Holds of_runs file args input given n sound bytes valid among =
    of_file file args input given sound bytes valid among Holds of_runs n

pub walks_of_files_match : WalksOfFilesMatch
walks_of_files_match = of_files MatchesRun walks_match

pub executions_of_files_are_flows : ExecutionsOfFilesAreFlows
executions_of_files_are_flows = of_files AreFlows executions_are_flows

-- a walk of a graph from one of its nodes ends at one
ends_inside : (g : PlainGraph) (a : ℕ) (es : List ℕ) (b : ℕ) → IsGraph g → a < g.nodes → IsWalk g a es b → b < g.nodes
ends_inside g a [] b is inside walk = rw (← walk) inside
ends_inside g a (e ∷ es) b is inside (below, leaves, walk) = ends_inside g (g.to e) es b is (is e below).1 walk

pub counts_are_enough : CountsAreEnough
unfolding image_of entered_of
counts_are_enough file args input given n sound bytes valid among edges flow_of determines is_flow agrees =
    let number = word_number (text_of file) (e_entry file) in
    let g = graph_in file given in
    let some = (cut (text_of file) given (entry_is file sound).text_is.some).firsts.some in
    let first_inside = number_inside g _ (node_in (blocks_of (text_of file) given) g.opens some (Some number)) in
    determines _ _ flow_of _ first_inside
    (ends_inside (links_of g) _ _ _ (links_are_a_graph g.blocks g.opens) first_inside
    (of_files IsPath walks_are_paths file args input given n sound bytes valid among))
    is_flow (executions_of_files_are_flows file args input given n sound bytes valid among) agrees
