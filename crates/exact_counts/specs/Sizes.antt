-- How much room a profile asks for, when its runs have ended, and how many executions there are in all.
use Rattle.std.specs.Prelude.{◌≡◌, ◌≢◌, ℕ, ◌+◌, ◌*◌, ◌^◌, ◌<◌, ◌≤◌, List, length, slice_index, None}
use Rattle.std.specs.List.{sum}
use Rattle.eel_base.specs.CodeText.{Words}
use Rattle.elf32_sparc.specs.FileFault.{fault}
use Rattle.elf32_sparc.specs.Image.{image_of}
use Rattle.v8_step.specs.State.{State}
use Rattle.v8_step.specs.Run.{run}
use Rattle.two_runs.specs.Needed.{IsUntouched}
use Rattle.two_runs.specs.Visits.{pages_of}
use Rattle.cfg_normal.specs.Graph.{Graph}
use Rattle.cfg_walk.specs.Walk.{walk}
use Rattle.tool_kit.specs.declared.edge_ref.ToolKind.TheVariants as tools
use Rattle.tool_kit.specs.Plans.{AreCounters, Plan}
use Rattle.image_code.specs.Store.{Edit}
use Rattle.walk_counts.specs.Executions.{executions}
use Rattle.edit_core.specs.Taken.{bound_in}
use Rattle.edit_core.specs.Cost.{TakesFewSteps}
use Rattle.edit_core.specs.RunsAlike.{AreRunsAlike}
use Rattle.exact_counts.specs.Profiles.{original_graph}

-- A profile of a file without a fault, with two cells for each edge at most, asks for 1 MiB and 1,056 bytes for each
-- word: for each word there are four edges at most, and counters on edges are made four times at most.
abbrev pub ProfilesNeedLittle : Type 0
ProfilesNeedLittle =
    (original : List ℕ) (plan : Plan) → fault original ≡ None → plan.kind ≡ tools.Profile
    → plan.cells ≤ 2 * length (original_graph original plan).edges
    → bound_in original plan ≤ 2 ^ 20 + 1056 * length (image_of original).text.words

-- the run has ended after so many steps, or fewer
pub record HasEndedBy (t0 : State) (limit : ℕ) : Type 0 where
  pub steps : ℕ
  pub few : steps ≤ limit
  pub ended : (run t0 steps).ending ≢ None

-- Where an original has ended after n steps, which touch no page, a written file that counts edges has ended after 64
-- steps and 128 for each of them: no step completes more than two edges.
abbrev pub ProfilesEndSoon : Type 0
ProfilesEndSoon =
    (version : ℕ) (e : Edit) (entry : ℕ) (s0 t0 : State) (n : ℕ) → AreCounters version 0 e.snips
    → AreRunsAlike e entry s0 t0 → TakesFewSteps e entry s0 t0
    → (run s0 n).ending ≢ None → IsUntouched (pages_of e.notes) s0 n → HasEndedBy t0 (64 + 128 * n)

-- How often each edge is completed is in all how long the walk is.
abbrev pub ExecutionsAddUp : Type 0
ExecutionsAddUp =
    (text : Words) (graph : Graph) (entry : ℕ) (s0 : State) (n : ℕ) (counts : List ℕ)
    → length counts ≡ length graph.edges
    → ((e : ℕ) → e < length counts → slice_index counts e ≡ executions text graph entry s0 n e)
    → sum counts ≡ length (walk text graph entry s0 n)
