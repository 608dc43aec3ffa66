-- What contracts of this crate's code and laws cite beyond the statement.
use Rattle.std.specs.Prelude.{◌≡◌, ℕ, ◌-◌, ◌<◌, List, None}
use Rattle.tool_kit.specs.Plans.{Plan}
use Rattle.elf32_sparc.specs.FileFault.{fault}
use Rattle.v8_step.specs.State.{State, AreBytes}
use Rattle.two_runs.specs.Needed.{IsUntouched}
use Rattle.two_runs.specs.Visits.{own_trail, pages_of}
use Rattle.v8_process.specs.Arguments.{AreArguments}
use Rattle.v8_process.specs.Start.{start_of}
use Rattle.cfg_walk.specs.Walk.{walk}
use Rattle.image_code.specs.Store.{Edit}
use Rattle.edit_core.specs.Faithful.{IsFaithful}
use Rattle.edit_core.specs.RunsAlike.{AreRunsAlike, visits_by}
use Rattle.exact_counts.specs.Laws.{IsExact}
use Rattle.exact_counts.specs.Profiles.{counter_limit, CountsOffTree, original_graph}
use Rattle.exact_counts.specs.Stops.{dump_at}
use Rattle.exact_counts.specs.Clear.{AreOver, IsClear}

-- By each of the reasons no page is touched in as many steps as there were visits.
abbrev pub ClearRunsAreUntouched : Type 0
ClearRunsAreUntouched =
    (original : List ℕ) (plan : Plan) (file : List ℕ) (args : List (List ℕ)) (input : List ℕ) (m : ℕ)
    → (is : IsFaithful original plan file) → AreArguments args → AreBytes input
    → let s0 = start_of original args input in
    let t0 = start_of file args input in
    IsClear is.notes s0 t0 m → IsUntouched (pages_of is.notes) s0 (visits_by is.notes t0 m)

-- With v visits the first v - 1 steps walk as far as the whole run, and v carry out all of it.
pub record IsWholeBy (e : Edit) (entry : ℕ) (s0 : State) (n v : ℕ) : Type 0 where
  pub walk : walk e.text e.graph entry s0 n ≡ walk e.text e.graph entry s0 (v - 1)
  pub trail : own_trail s0 n ≡ own_trail s0 v

-- So it is where both runs have ended.
abbrev pub EndedRunsAreWhole : Type 0
EndedRunsAreWhole =
    (e : Edit) (entry : ℕ) (s0 t0 : State) (n m : ℕ) → s0.ending ≡ None → AreRunsAlike e entry s0 t0
    → IsUntouched (pages_of e.notes) s0 (visits_by e.notes t0 m) → AreOver s0 t0 n m
    → IsWholeBy e entry s0 n (visits_by e.notes t0 m)

-- Then the counts are how often the original's whole run completes each edge.
abbrev pub CountsOfEndedRunsAreExact : Type 0
CountsOfEndedRunsAreExact =
    (original : List ℕ) (plan : Plan) (file : List ℕ) (args : List (List ℕ)) (input : List ℕ) (n m : ℕ)
    → fault original ≡ None → AreBytes original → (is : IsFaithful original plan file)
    → CountsOffTree is.notes.version (original_graph original plan) plan → AreArguments args → AreBytes input
    → let s0 = start_of original args input in
    let t0 = start_of file args input in
    IsClear is.notes s0 t0 m → AreOver s0 t0 n m → m < counter_limit is.notes.version
    → IsExact original plan is.notes s0 (dump_at is.notes t0 m) n
