-- `demo NUMBER ROUTINES`: a program of so many routines is made from the number and edited with counters, both are run
-- without arguments and input, and what is told of them is printed.
use Rattle.std.specs.Prelude.{◌≡◌, ℕ, List, [], ◌∷◌, ◌++◌, length, codes, decimal, Some}
use Rattle.elf32_sparc.specs.Image.{image_of}
use Rattle.v8_step.specs.declared.Ending.{Ending}
use Rattle.v8_step.specs.State.{State}
use Rattle.v8_step.specs.Run.{run}
use Rattle.v8_process.specs.Start.{start_of}
use Rattle.cfg_view.specs.View.{Seen, view_of}
use Rattle.cfg_walk.specs.Walk.{walk}
use Rattle.show_text.specs.Lines.{line}
use Rattle.workload.specs.Generated.{generated}
use Rattle.v8_runner.specs.Made.{AreMade}
use Rattle.eel_said.specs.Outcome.{Outcome, OutOfMemory, ending_text}
use Rattle.eel_said.specs.Shared.{Outside, Meaning, prints_mean}
use Rattle.eel_reports.specs.declared.telling.Size.{Size}
use Rattle.eel_reports.specs.Answers.Steps.{Prints}

-- ---- the run of a file without arguments and input

abbrev pub alone : List ℕ → State
alone file = start_of file [] []

-- it ends so, with the last of so many steps
pub record EndsAlone (file : List ℕ) (ending : Ending) (steps : ℕ) : Type 0 where
  pub made : AreMade (alone file) steps
  pub ends : (run (alone file) steps).ending ≡ Some ending

-- the edges that so many steps complete, in order
abbrev pub walk_alone : List ℕ → ℕ → List ℕ
walk_alone file steps = walk (image_of file).text (view_of file []).graph (image_of file).entry (alone file) steps

-- ---- the lines

-- how many words, blocks and edges a program has
abbrev pub size_in : Seen → Size
size_in view = record {
  words = length view.image.text.words;
  blocks = length view.graph.blocks.firsts;
  edges = length view.graph.edges;
}

abbrev pub size_of : List ℕ → Size
size_of file = size_in (view_of file [])

abbrev pub name_line : ℕ → ℕ → List ℕ
name_line number routines = line (codes "demo" ∷ decimal number ∷ codes "routines" ∷ decimal routines ∷ [])

abbrev pub size_line : Size → List ℕ
size_line size =
    line (codes "words" ∷ decimal size.words ∷ codes "blocks" ∷ decimal size.blocks ∷ codes "edges"
    ∷ decimal size.edges ∷ [])

abbrev pub ending_line : Ending → ℕ → List ℕ
ending_line ending steps =
    line (codes "ending" ∷ ending_text (Some ending) steps ∷ codes "steps" ∷ decimal steps ∷ [])

abbrev pub executions_line : ℕ → List ℕ
executions_line executions = line (codes "executions" ∷ decimal executions ∷ [])

abbrev pub demo_lines : ℕ → ℕ → Size → Ending → ℕ → ℕ → List ℕ
demo_lines number routines size ending steps executions =
    name_line number routines ++ size_line size ++ ending_line ending steps ++ executions_line executions

-- The lines tell of a file: how large its program is, how its run ends and after how many steps, and how often that
-- completes the edges of the flow graph in all.
pub record TellOf (number routines : ℕ) (file lines : List ℕ) : Type 0 where
  pub ending : Ending
  pub steps : ℕ
  pub ran : EndsAlone file ending steps
  pub tell : lines ≡ demo_lines number routines (size_of file) ending steps (length (walk_alone file steps))

-- they tell of the program that is made from the number
abbrev pub IsTold : ℕ → ℕ → List ℕ → Type 0
IsTold number routines lines = TellOf number routines (generated number routines) lines

-- ---- the command

-- Nothing but want of memory and a stream that fails keeps the lines from being printed.
abbrev pub Tells : ℕ → ℕ → Outside → Outside → Outcome → Type 0
Tells number routines = Prints (λ outcome. outcome ≡ OutOfMemory) (IsTold number routines)

abbrev pub demo_means : ℕ → ℕ → Meaning
demo_means number routines = prints_mean (Tells number routines) (λ old new. ⊥)
