-- What a run of a written file rests on, and what follows for it as a whole.
use Rattle.std.specs.Prelude.{◌≡◌, ℕ, zero, suc, ◌+◌, ◌-◌, ◌<◌, ◌≤◌, ◌⊎◌, List, Option, Some, None, slice_get, slice_index}
use Rattle.eel_base.specs.CodeText.{address_of}
use Rattle.eel_base.specs.Code.{IsText}
use Rattle.notes.specs.Format.{node_at}
use Rattle.v8_decode.specs.declared.Instr.{Instr}
use Rattle.v8_step.specs.State.{State, sum_of}
use Rattle.v8_step.specs.Run.{run, run_puts}
use Rattle.v8_step.specs.Items.{StateItem, IsItem, IsSameAt}
use Rattle.two_runs.specs.Alike.{IsSameWorld}
use Rattle.two_runs.specs.Needed.{ReadsIn, WritesIn, IsNeeded}
use Rattle.v8_step.specs.Valid.{IsValid}
use Rattle.two_runs.specs.Visits.{visit_of, pages_of}
use Rattle.cfg_normal.specs.declared.Node.{Node}
use Rattle.code_runs.specs.PointsAlike.{instr_of}
use Rattle.cfg_walk.specs.Walk.{Point, point_of, end_of_walk, gone_in}
use Rattle.cfg_blocks.specs.Blocks.{blocks_of}
use Rattle.cfg_walk.specs.Matches.{AreOpen, BeginsAt, FetchesOnly, JumpsGoByCase}
use Rattle.image_code.specs.Keeping.{AreCaseTables}
use Rattle.image_code.specs.Simulates.{CaseTable, IsAtWord, IsNoLoad, IsKept, EditSetup, Simulates, edit_in, graph_in, word_of}
use Rattle.image_code.specs.Cost.{CostsLittle, IsWatched, limit_on}
use Rattle.image_code.specs.Store.{cells_in, store_of, updates}
use Rattle.jump_code.specs.PageWords.{saved_address}

-- ---- the items that are kept equal, step by step

-- the instruction of step n
abbrev pub instr_in : EditSetup → State → ℕ → Option Instr
instr_in g s0 n = instr_of (word_of g.text (run s0 n).pc)

-- `K n` holds of the items at which both runs have the same after n steps of the original.
pub record Keeping (g : EditSetup) (entry : ℕ) (s0 : State) (K : ℕ → StateItem → Type 0) : Type 0 where
  pub reads : (n : ℕ) (item : StateItem) → IsItem item → (run s0 n).ending ≡ None
      → ReadsIn (instr_in g s0 n) (run s0 n).window item → K n item
  pub back : (n : ℕ) (item : StateItem) → K (suc n) item
      → WritesIn (instr_in g s0 n) (run s0 n).window item ⊎ K n item
  -- what the snippets of edges take for their own is kept no longer
  pub live : (n : ℕ) (item : StateItem) → K (suc n) item
      → IsKept g (gone_in g.text (graph_in g) entry s0 n) (run s0 (suc n)).window item
  pub needed : (n : ℕ) (item : StateItem) → IsNeeded s0 n item → K n item
  -- what an edge's snippet makes of the cells depends on kept items alone
  pub named : (n : ℕ) (cells : List ℕ) (v : State) → (run s0 (suc n)).ending ≡ None
      → (run s0 (suc n)).window ≡ v.window
      → ((item : StateItem) → IsItem item → (WritesIn (instr_in g s0 n) (run s0 n).window item ⊎ K n item)
      → IsSameAt item (run s0 (suc n)) v)
      → updates g.snips (gone_in g.text (graph_in g) entry s0 n) cells (run s0 (suc n))
      ≡ updates g.snips (gone_in g.text (graph_in g) entry s0 n) cells v

-- ---- from the load of an open switch to its jump

-- From step `start` on, `more` steps stood at the words from the load on, each at the jump's block itself.
abbrev pub CameFrom : EditSetup → ℕ → State → CaseTable → ℕ → ℕ → Type 0
CameFrom g entry s0 o start more =
    (j : ℕ) → j ≤ more → IsAtWord g o (end_of_walk g.text (graph_in g) entry s0 (j + start))
    (point_of (run s0 (j + start))) (o.load + j)

-- The jump of step n goes to what the entry has that was loaded before.
pub record GoesByTable (g : EditSetup) (entry : ℕ) (s0 : State) (o : CaseTable) (n : ℕ) : Type 0 where
  pub start : ℕ
  pub since : n ≡ o.jump - o.load + start
  pub came : CameFrom g entry s0 o start (o.jump - o.load)
  pub number : ℕ
  pub below : number < o.count
  pub loaded : sum_of (run s0 start) o.rs1 o.op2 ≡ address_of g.text (o.from + number)
  pub live : (run s0 (suc n)).ending ≡ None
  pub goes : (run s0 (suc n)).npc ≡ slice_index g.text.words (o.from + number)

-- the law of open switches: at the jump's block itself each jump does
abbrev pub JumpsGoByTable : EditSetup → ℕ → State → Type 0
JumpsGoByTable g entry s0 =
    (n : ℕ) → (run s0 n).ending ≡ None → (k : ℕ) (o : CaseTable) → slice_get g.opens k ≡ Some o
    → IsAtWord g o (end_of_walk g.text (graph_in g) entry s0 n) (point_of (run s0 n)) o.jump
    → GoesByTable g entry s0 o n

-- word 0 of the page has the address that was loaded
abbrev pub KeepsLoaded : EditSetup → ℕ → State → ℕ → State → Type 0
KeepsLoaded g entry s0 n t =
    (k : ℕ) (o : CaseTable) → slice_get g.opens k ≡ Some o → (start more : ℕ) → n ≡ more + start
    → o.load + more ≤ o.jump → CameFrom g entry s0 o start more → saved_address t ≡ sum_of (run s0 start) o.rs1 o.op2

-- ---- the two runs

-- what both have alike, going on or at the end
pub record AreTogether (g : EditSetup) (entry : ℕ) (s0 t0 : State) (n m : ℕ) : Type 0 where
  pub world : IsSameWorld (pages_of g.notes) (run s0 n) (run t0 m)
  pub puts : (descriptor : ℕ) → run_puts s0 n descriptor ≡ run_puts t0 m descriptor
  pub cells : cells_in g.notes (run t0 m) ≡ store_of (edit_in g) entry s0 n

-- the original while it runs, and the written file at its visit
pub record Linked (g : EditSetup) (entry : ℕ) (AtVisit : Node → Point → State → Type 0) (K : ℕ → StateItem → Type 0)
    (s0 t0 : State) (n m : ℕ) : Type 0 where
  pub live : (run s0 n).ending ≡ None
  pub here : AtVisit (end_of_walk g.text (graph_in g) entry s0 n) (point_of (run s0 n)) (run t0 m)
  pub items : (item : StateItem) → IsItem item → K n item → IsSameAt item (run s0 n) (run t0 m)
  pub kept : KeepsLoaded g entry s0 n (run t0 m)
  pub together : AreTogether g entry s0 t0 n m

-- What is proved of the files, the pieces and the items.
pub record RunFacts (g : EditSetup) (entry : ℕ) (Inside : Point → Type 0)
    (AtVisit : Node → Point → State → Type 0) (NoLongForms : Type 0) (K : ℕ → StateItem → Type 0) (s0 t0 : State) : Type 0 where
  pub text : IsText g.text
  pub first_valid : IsValid s0
  pub second_valid : IsValid t0
  pub fetches : FetchesOnly g.text s0
  pub begins : BeginsAt g.text entry s0
  pub simulates : Simulates g Inside AtVisit NoLongForms
  pub keeping : Keeping g entry s0 K
  pub opened : AreOpen (blocks_of g.text g.given) g.switches
  pub by_case : JumpsGoByCase g.text (graph_in g) entry s0
  pub opens : AreCaseTables g
  pub by_table : JumpsGoByTable g entry s0
  -- from the entry to the first visit, with no visit and in no place before
  pub begin : ℕ
  pub soon : begin ≤ 64
  pub first : Linked g entry AtVisit K s0 t0 zero begin
  pub early : (j : ℕ) → j < begin
      → ((run t0 j).ending ≡ None) × (visit_of g.notes (run t0 j) ≡ None) × (node_at g.notes (run t0 j).pc ≡ None)

-- how many steps may answer step n
abbrev pub limits_in : EditSetup → ℕ → State → ℕ → ℕ
limits_in g entry s0 n = limit_on g.snips (gone_in g.text (graph_in g) entry s0 n)

-- What the written file stores and takes that answers step n, from one moment to another. `NoLongForms` says that no jump and
-- no branch is long.
abbrev pub Spares : EditSetup → ℕ → Type 0 → State → State → ℕ → ℕ → ℕ → Type 0
Spares g entry NoLongForms s0 t0 n m k =
    IsWatched (edit_in g) (gone_in g.text (graph_in g) entry s0 n) (point_of (run s0 n)) (run s0 (suc n))
    → CostsLittle (edit_in g) g.dead (((run s0 n).ending ≡ None) × NoLongForms × IsNoLoad g (run s0 (suc n)))
    (gone_in g.text (graph_in g) entry s0 n) (point_of (run s0 n)) (run t0 m) (k - m)
