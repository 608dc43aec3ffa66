-- What the pieces of a program promise, in whatever way they are placed: from a visit of the original's instruction,
-- a few steps lead to what the original does there, along the edges that its step completes.
use Rattle.std.specs.Prelude.{◌≡◌, ◌≢◌, ℕ, ◌+◌, ◌<◌, ◌≤◌, List, [], ◌∷◌, length, slice_get, slice_index, Option, Some, None}
use Rattle.std.specs.Option.{option_map}
use Rattle.eel_base.specs.CodeText.{Words, address_of, word_at}
use Rattle.notes.specs.Format.{NoteRange, Notes, node_at, range_at}
use Rattle.v8_decode.specs.declared.Op2.{Op2}
use Rattle.v8_decode.specs.declared.Part.{Part}
use Rattle.v8_memory.specs.Spans.{Span, AllApart}
use Rattle.v8_step.specs.declared.Slot.TheVariants.{NoSlot}
use Rattle.v8_step.specs.State.{State, sum_of}
use Rattle.v8_step.specs.Step.{on_word, puts_on_word}
use Rattle.v8_step.specs.Run.{run, run_puts}
use Rattle.v8_step.specs.Items.{StateItem, IsAmong, IsItem, IsSameAt}
use Rattle.two_runs.specs.Needed.{judged_in}
use Rattle.two_runs.specs.Visits.{in_pages, visit_of, pages_of}
use Rattle.cfg_blocks.specs.Blocks.{blocks_of}
use Rattle.cfg_normal.specs.declared.Node.{Node}
use Rattle.cfg_normal.specs.declared.Node.TheVariants.{Block}
use Rattle.cfg_normal.specs.Opens.{Open}
use Rattle.cfg_normal.specs.Graph.{Graph, graph_of}
use Rattle.cfg_walk.specs.Walk.{Point, point_of, goes_on_at, gone, node_after}
use Rattle.cfg_walk.specs.Matches.{Matches}
use Rattle.cfg_normal.specs.Numbers.{node_number}
use Rattle.snippets.specs.declared.snippet.Op.{Op}
use Rattle.cfg_normal.specs.Code.{IsNodeIn}
use Rattle.v8_memory.specs.Code.{IsSameOutside}
use Rattle.code_runs.specs.Points.{moved}
use Rattle.code_runs.specs.PointsAlike.{instr_of}
use Rattle.jump_code.specs.PageWords.{saved_address}
use Rattle.image_code.specs.Cost.{CostsLittle, IsWatched, limit_by}
use Rattle.image_code.specs.Store.{Edit, cells_in, updates}

-- ---- the original at a point

-- the same machine at another point
abbrev pub at_point : Point → State → State
at_point p t = moved p.pc p.npc p.slot t

-- the word of the text at an address
abbrev pub word_of : Words → ℕ → Option ℕ
word_of text address = option_map (λ word. slice_index text.words word) (word_at text address)

-- ---- an edit

-- What the code has to know of an open switch: the block of its jump, and in it the words of the load of an entry and
-- of the jump; the load's operands; and the first word of the table, with the number of its words.
pub record CaseTable : Type 0 where
  pub block : ℕ
  pub load : ℕ
  pub jump : ℕ
  pub rs1 : ℕ
  pub op2 : Op2
  pub from : ℕ
  pub count : ℕ

pub record EditSetup : Type 0 where
  pub text : Words
  -- words that lead besides
  pub given : List ℕ
  -- the operations on each edge
  pub snips : List (List Op)
  -- the registers, the codes and Y, as far as they are dead behind the snippet of each edge
  pub dead : ℕ → List Part
  -- the open switches, in address order of their jumps, and what the code has to know of them
  pub switches : List Open
  pub opens : List CaseTable
  pub notes : Notes

abbrev pub graph_in : EditSetup → Graph
graph_in g = graph_of (blocks_of g.text g.given) g.switches

-- the edit, by its graph
abbrev pub edit_in : EditSetup → Edit
edit_in g = record { text = g.text; graph = graph_in g; snips = g.snips; notes = g.notes }

abbrev pub number_in : EditSetup → Node → ℕ
number_in g node = node_number (graph_in g) node

-- what a machine does that stands at this point of the original
abbrev pub does_at : EditSetup → Point → State → State
does_at g p t = on_word (at_point p t) (word_of g.text p.pc)

-- the walk's node is one of the graph, and matches the point
abbrev pub MatchesIn : EditSetup → Node → Point → Type 0
MatchesIn g node p = Matches g.text (graph_in g) node p × IsNodeIn (graph_in g).blocks (graph_in g).opens node

-- the edges that a step from there completes which led to v
abbrev pub gone_at : EditSetup → Node → Point → State → List ℕ
gone_at g node p v = gone g.text (graph_in g) node p (goes_on_at v)

-- ---- what a way along some edges leaves

-- an item that is dead behind the snippet of none of some edges
abbrev pub IsKept : EditSetup → List ℕ → ℕ → StateItem → Type 0
IsKept g [] window item = Unit {0}
IsKept g (edge ∷ edges) window item = (IsAmong item window (g.dead edge) → ⊥) × IsKept g edges window item

-- ---- what one image, landing or slot copy does

-- What holds of each state `u` strictly between the visit `t` and the next visit: the run goes on, `u` visits no
-- instruction, and where `u` stands in a place of the notes, that is the place of `t`, and no cell has changed since
-- `t`. (So code that changes cells, a snippet's, stands in no place.)
pub record IsOnWay (g : EditSetup) (t u : State) : Type 0 where
  pub live : u.ending ≡ None
  pub visit : visit_of g.notes u ≡ None
  pub place : (r : NoteRange) → range_at g.notes u.pc ≡ Some r
      → (range_at g.notes t.pc ≡ Some r) × (cells_in g.notes u ≡ cells_in g.notes t)

-- in the place of the visit, or where that is in none because it lies outside the pages
pub record IsThere (g : EditSetup) (t u : State) : Type 0 where
  pub range : range_at g.notes u.pc ≡ range_at g.notes t.pc
  pub page : in_pages g.notes u.pc ≡ in_pages g.notes t.pc

-- From the visit `t`, `count` steps lead to `after`: at least one, at most `limit`, with no visit between.
pub record Onward (g : EditSetup) (limit : ℕ) (t after : State) (count : ℕ) : Type 0 where
  pub steps : run t count ≡ after
  pub some : 0 < count
  pub few : count ≤ limit
  pub quiet : (j : ℕ) → 0 < j → j < count → IsOnWay g t (run t j)

-- the same but for where it goes on, the pages, and items that are not kept
pub record IsFollowedBy (pages : List Span) (Kept : StateItem → Type 0) (v after : State) : Type 0 where
  pub ending : after.ending ≡ v.ending
  pub window : after.window ≡ v.window
  pub valid : after.valid ≡ v.valid
  pub registers : length after.registers ≡ length v.registers
  pub input : after.input ≡ v.input
  pub memory : IsSameOutside pages v.memory after.memory
  pub items : v.ending ≡ None → (item : StateItem) → IsItem item → Kept item → IsSameAt item v after

-- `NoLongForms` says that no jump and no branch between pieces is long, and `most` is the limit without operations.
pub record StepsOn (g : EditSetup) (AtVisit : Node → Point → State → Type 0) (NoLongForms : Type 0) (most : ℕ)
    (edges : List ℕ) (node : Node) (p : Point) (t v : State) : Type 0 where
  pub count : ℕ
  pub after : State
  pub path : Onward g (limit_by most g.snips edges) t after count
  pub puts : (descriptor : ℕ)
      → run_puts t count descriptor ≡ puts_on_word (at_point p t) (word_of g.text p.pc) descriptor
  pub followed : IsFollowedBy (pages_of g.notes) (IsKept g edges v.window) v after
  pub cells : cells_in g.notes after ≡ updates g.snips edges (cells_in g.notes t) v
  pub here : v.ending ≡ None → AtVisit (node_after (graph_in g) node edges) (point_of v) after
  pub place : v.ending ≢ None → IsThere g t after
  pub sparing : IsWatched (edit_in g) edges p v → CostsLittle (edit_in g) g.dead NoLongForms edges p t count

-- ---- the address that word 0 of the page keeps from the load of an open switch to its jump

-- at a word of the jump's block itself, outside slots
pub record IsAtWord (g : EditSetup) (o : CaseTable) (node : Node) (p : Point) (word : ℕ) : Type 0 where
  pub itself : node ≡ Block (record { 0 = o.block })
  pub outside : p.slot ≡ NoSlot
  pub stands : word_at g.text p.pc ≡ Some word

-- At the load it has the address at which that loads, and it stays so up to the jump.
pub record KeepsAddress (g : EditSetup) (edges : List ℕ) (node : Node) (p : Point) (t v after : State) : Type 0 where
  pub loaded : v.ending ≡ None → (k : ℕ) (o : CaseTable) → slice_get g.opens k ≡ Some o
      → IsAtWord g o (node_after (graph_in g) node edges) (point_of v) o.load
      → saved_address after ≡ sum_of after o.rs1 o.op2
  pub carried : v.ending ≡ None → (k : ℕ) (o : CaseTable) → slice_get g.opens k ≡ Some o → (word : ℕ)
      → IsAtWord g o node p word → o.load ≤ word → word < o.jump → saved_address after ≡ saved_address t

-- At the jump it is the address of an entry of the table, and the jump goes to what that entry has.
pub record IsChosen (g : EditSetup) (o : CaseTable) (t v : State) : Type 0 where
  pub entry : ℕ
  pub below : entry < o.count
  pub kept : saved_address t ≡ address_of g.text (o.from + entry)
  pub goes : v.npc ≡ slice_index g.text.words (o.from + entry)
  pub live : v.ending ≡ None

abbrev pub Chooses : EditSetup → Node → Point → State → State → Type 0
Chooses g node p t v =
    (k : ℕ) (o : CaseTable) → slice_get g.opens k ≡ Some o → IsAtWord g o node p o.jump → IsChosen g o t v

-- ---- and up to the next visit, behind what is run before a load

-- the original doesn't go on at the load of an open switch
abbrev pub IsNoLoad : EditSetup → State → Type 0
IsNoLoad g v = (k : ℕ) (o : CaseTable) → slice_get g.opens k ≡ Some o → word_at g.text v.pc ≡ Some o.load → ⊥

pub record Steps (g : EditSetup) (AtVisit : Node → Point → State → Type 0) (NoLongForms : Type 0)
    (edges : List ℕ) (node : Node) (p : Point) (t v : State) : Type 0 where
  pub on : StepsOn g AtVisit (NoLongForms × IsNoLoad g v) 64 edges node p t v
  pub keeps : KeepsAddress g edges node p t v on.after

-- What the pieces promise. `AtVisit` says that a machine is at the visit of a point at a node of the walk, or comes to one
-- that has none. `Inside` says from which points they lead on: those outside the pages, wherever that leads.
pub record Simulates (g : EditSetup) (Inside : Point → Type 0) (AtVisit : Node → Point → State → Type 0)
    (NoLongForms : Type 0) : Type 0 where
  pub visits : (node : Node) (p : Point) (t : State) → MatchesIn g node p → Inside p → AtVisit node p t
      → (t.ending ≡ None) × (visit_of g.notes t ≡ Some p.pc) × (node_at g.notes t.pc ≡ Some (number_in g node))
  pub steps : (node : Node) (p : Point) (t : State) → MatchesIn g node p → Inside p → AtVisit node p t
      → AllApart (pages_of g.notes) (judged_in (at_point p t) (instr_of (word_of g.text p.pc)))
      → Chooses g node p t (does_at g p t)
      → Steps g AtVisit NoLongForms (gone_at g node p (does_at g p t)) node p t (does_at g p t)
