-- What the counts of a profile are, wherever its run stopped: those of the original's run.
use Rattle.std.specs.Prelude.{◌≡◌, ℕ, ◌-◌, ◌<◌, List, length, slice_index, None}
use Rattle.elf32_sparc.specs.Image.{image_of}
use Rattle.notes.specs.Format.{Notes}
use Rattle.v8_process.specs.Arguments.{AreArguments}
use Rattle.v8_process.specs.Start.{start_of}
use Rattle.dump_file.specs.Dump.{Dump}
use Rattle.tool_kit.specs.Plans.{Plan}
use Rattle.exact_counts.specs.Clear.{AreOver, IsClear}
use Rattle.exact_counts.specs.Profiles.{CountsOffTree, original_graph, counter_limit}
use Rattle.exact_counts.specs.Stops.{dump_at}
use Rattle.edit_core.specs.Faithful.{IsFaithful}
use Rattle.elf32_sparc.specs.FileFault.{fault}
use Rattle.v8_step.specs.State.{AreBytes}
use Rattle.walk_counts.specs.Executions.{executions}
use Rattle.edit_core.specs.RunsAlike.{visits_by}
use Rattle.eel_said.specs.declared.outcome.CountCause.TheVariants as causes
use Rattle.eel_said.specs.Outcome.{Outcome, NoCounts, OutOfMemory}

-- A file with these notes that is faithful to an original by a plan which counts edges off a spanning tree, in the notes'
-- version. The plan may have marks, and cells to spare.
pub record IsProfile (original : List ℕ) (plan : Plan) (file : List ℕ) (notes : Notes) : Type 0 where
  pub sound : fault original ≡ None
  pub counters : CountsOffTree notes.version (original_graph original plan) plan
  pub faithful : IsFaithful original plan file

-- The file is an original's profile, and the dump is what a run of it has come to, wherever it was stopped, after fewer than
-- 2^32 steps or in version 2 than 2^64. The original is refused nothing by then, or bytes below 4096 alone, or it ends by
-- `exit` with none of its buffers refused, or touches no added page in as many steps as there were visits.
pub record IsOfRun (original file : List ℕ) (notes : Notes) (dump : Dump) (args : List (List ℕ)) (input : List ℕ)
    (m : ℕ) : Type 0 where
  pub bytes : AreBytes original
  pub plan : Plan
  pub profile : IsProfile original plan file notes
  pub arguments : AreArguments args
  pub given : AreBytes input
  pub clear : IsClear notes (start_of original args input) (start_of file args input) m
  pub few : m < counter_limit notes.version
  pub is : dump ≡ dump_at notes (start_of file args input) m

-- Then the counts are how often the original's run completes each edge with the steps before that of the last visit: for
-- all arguments and every input.
abbrev pub AreExact : List ℕ → Notes → Dump → List ℕ → Type 0
AreExact file notes dump counts =
    (original : List ℕ) (args : List (List ℕ)) (input : List ℕ) (m : ℕ)
    → (made : IsOfRun original file notes dump args input m)
    → (e : ℕ) → e < length notes.edges
    → slice_index counts e
    ≡ executions (image_of original).text (original_graph original made.plan) (image_of original).entry
    (start_of original args input) (visits_by notes (start_of file args input) m - 1) e

-- And where both runs are over they are how often the original's whole run completes each edge.
abbrev pub AreOfWholeRuns : List ℕ → Notes → Dump → List ℕ → Type 0
AreOfWholeRuns file notes dump counts =
    (original : List ℕ) (args : List (List ℕ)) (input : List ℕ) (n m : ℕ)
    → (made : IsOfRun original file notes dump args input m)
    → AreOver (start_of original args input) (start_of file args input) n m
    → (e : ℕ) → e < length notes.edges
    → slice_index counts e
    ≡ executions (image_of original).text (original_graph original made.plan) (image_of original).entry
    (start_of original args input) n e

-- And there are counts, but for want of memory, and where the run stands between places, which it doesn't where it has ended.
abbrev pub MayMiss : List ℕ → Dump → Outcome → Type 0
MayMiss name dump (NoCounts named (causes.Between pc)) = (named ≡ name) × (pc.0 ≡ dump.pc) × (dump.ending ≡ None)
MayMiss name dump OutOfMemory = Unit {0}
MayMiss name dump _ = ⊥

abbrev pub AreSeldomMissed : List ℕ → List ℕ → Notes → Dump → Outcome → Type 0
AreSeldomMissed file name notes dump outcome =
    (original : List ℕ) (args : List (List ℕ)) (input : List ℕ) (m : ℕ) → IsOfRun original file notes dump args input m
    → MayMiss name dump outcome
