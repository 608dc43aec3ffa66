-- `trace WRITTEN DUMP`: the last edges that the dump DUMP tells of by the notes of WRITTEN, the oldest first.
use Rattle.std.specs.Prelude.{◌≡◌, ℕ, ◌-◌, ◌≤◌, List, []}
use Rattle.elf32_sparc.specs.Image.{image_of}
use Rattle.notes.specs.Format.{Notes}
use Rattle.v8_step.specs.State.{AreBytes}
use Rattle.v8_process.specs.Arguments.{AreArguments}
use Rattle.v8_process.specs.Start.{start_of}
use Rattle.cfg_view.specs.View.{view_of}
use Rattle.cfg_walk.specs.Walk.{walk}
use Rattle.dump_file.specs.Dump.{Dump}
use Rattle.edit_core.specs.Faithful.{IsFaithful}
use Rattle.exact_counts.specs.Clear.{AreOver, IsClear}
use Rattle.exact_counts.specs.Stops.{dump_at}
use Rattle.count_rebuild.specs.Dumps.{IsBetween, IsForOther, IsMisshapen, IsOfOther, IsTheirs}
use Rattle.edge_ring.specs.Answers.{AreLast, IsUnknown}
use Rattle.edge_ring.specs.Lines.{ring_lines}
use Rattle.edge_ring.specs.Ring.{last_of}
use Rattle.edge_ring.specs.Traces.{IsTrace, IsWhole}
use Rattle.edit_core.specs.RunsAlike.{visits_by}
use Rattle.eel_said.specs.declared.outcome.CountCause.{CountCause}
use Rattle.eel_said.specs.declared.outcome.CountCause.TheVariants as causes
use Rattle.eel_said.specs.Outcome.{Outcome, NoTrace, NoCounts, BadCell, OutOfMemory}
use Rattle.eel.specs.Answers.Trace.{trace_plan}
use Rattle.eel.specs.Answers.ExactCounts.{MayMiss}

-- ---- refusals

-- why the last edges can't be told, by the notes of a trace and a dump
abbrev pub HasRingCause : Notes → Dump → CountCause → Type 0
HasRingCause notes dump (causes.Version of wanted) = IsOfOther IsTrace notes dump of wanted
HasRingCause notes dump (causes.Length length wanted) = IsForOther IsTrace notes dump length wanted
HasRingCause notes dump (causes.Shape cells wanted) = IsMisshapen IsTrace notes dump cells wanted
HasRingCause notes dump (causes.Between pc) = IsBetween (IsTheirs IsTrace) notes dump pc.0
HasRingCause notes dump _ = ⊥

-- The last edges aren't told by the notes of the file `written` and by the dump `name`. Want of memory comes only where
-- all is judged.
abbrev pub IsUntold : List ℕ → List ℕ → Notes → Dump → Outcome → Type 0
IsUntold written name notes dump (NoTrace named) = (named ≡ written) × ¬ IsTrace notes
IsUntold written name notes dump (NoCounts named cause) = (named ≡ name) × HasRingCause notes dump cause
IsUntold written name notes dump (BadCell named cell value) = (named ≡ name) × IsUnknown notes dump cell value
IsUntold written name notes dump OutOfMemory = IsWhole notes dump
IsUntold written name notes dump _ = ⊥

-- ---- the last edges

-- The lines tell the edges that the cells of the dump hold, the oldest first.
pub record TellEdges (notes : Notes) (dump : Dump) (lines : List ℕ) : Type 0 where
  pub edges : List ℕ
  pub are : AreLast notes dump edges
  pub tell : lines ≡ ring_lines notes edges

-- ---- what the last edges of a trace are

-- a file that is faithful to an original, with a ring of 1 to 16 bits on its edges
pub record IsTraceOf (bits : ℕ) (original file : List ℕ) : Type 0 where
  pub some : 1 ≤ bits
  pub few : bits ≤ 16
  pub faithful : IsFaithful original (trace_plan bits original) file

-- The file is an original's trace, and the dump is what a run of it has come to, wherever it was stopped. The original is
-- refused nothing by then, or bytes below 4096 alone, or it ends by `exit` with none of its buffers refused, or touches no
-- added page in as many steps as there were visits.
pub record IsOfTraced (bits : ℕ) (original file : List ℕ) (notes : Notes) (dump : Dump) (args : List (List ℕ))
    (input : List ℕ) (m : ℕ) : Type 0 where
  pub trace : IsTraceOf bits original file
  pub arguments : AreArguments args
  pub given : AreBytes input
  pub clear : IsClear notes (start_of original args input) (start_of file args input) m
  pub is : dump ≡ dump_at notes (start_of file args input) m

-- Then the edges are the last ones of the walk of the original's run, with the steps before that of the last visit, as
-- many as the ring has places, or all where there are fewer: for all arguments and every input, however long the run is.
abbrev pub AreTheLast : List ℕ → Notes → Dump → List ℕ → Type 0
AreTheLast file notes dump edges =
    (bits : ℕ) (original : List ℕ) (args : List (List ℕ)) (input : List ℕ) (m : ℕ)
    → IsOfTraced bits original file notes dump args input m
    → edges
    ≡ last_of bits (walk (image_of original).text (view_of original []).graph (image_of original).entry
    (start_of original args input) (visits_by notes (start_of file args input) m - 1))

-- And where both runs are over they are the last of the walk of the original's whole run.
abbrev pub AreLastOfWholeRuns : List ℕ → Notes → Dump → List ℕ → Type 0
AreLastOfWholeRuns file notes dump edges =
    (bits : ℕ) (original : List ℕ) (args : List (List ℕ)) (input : List ℕ) (n m : ℕ)
    → IsOfTraced bits original file notes dump args input m
    → AreOver (start_of original args input) (start_of file args input) n m
    → edges
    ≡ last_of bits (walk (image_of original).text (view_of original []).graph (image_of original).entry
    (start_of original args input) n)

-- And they are told, but for want of memory, and where the run stands between places, which it doesn't where it has
-- ended.
abbrev pub AreSeldomUntold : List ℕ → List ℕ → Notes → Dump → Outcome → Type 0
AreSeldomUntold file name notes dump outcome =
    (bits : ℕ) (original : List ℕ) (args : List (List ℕ)) (input : List ℕ) (m : ℕ)
    → IsOfTraced bits original file notes dump args input m → MayMiss name dump outcome
