-- What it costs to answer a step of the original: steps, and stores into the added pages.
use Rattle.std.specs.Prelude.{◌≡◌, ◌≢◌, ℕ, ◌+◌, ◌*◌, ◌≤◌, Bool, true, false, not, ◌&&◌, nat_le, nat_lt, List, [], ◌∷◌, slice_get, Option, Some, None}
use Rattle.eel_base.specs.CodeText.{word_at}
use Rattle.notes.specs.Format.{Notes}
use Rattle.v8_decode.specs.declared.Instr.{Instr}
use Rattle.v8_decode.specs.declared.Instr.TheVariants as i
use Rattle.v8_decode.specs.declared.Part.{Part}
use Rattle.v8_step.specs.State.{State}
use Rattle.v8_step.specs.Items.{is_transfer}
use Rattle.two_runs.specs.Visits.{in_pages}
use Rattle.cfg_blocks.specs.declared.EdgeKind.TheVariants as kinds
use Rattle.cfg_normal.specs.declared.Edge.{Edge}
use Rattle.cfg_normal.specs.Graph.{Graph}
use Rattle.cfg_walk.specs.Walk.{Point, instr_at}
use Rattle.snippets.specs.declared.snippet.Op.{Op}
use Rattle.snippets.specs.Cells.{named_by}
use Rattle.cfg_normal.specs.Nodes.{same_kind}
use Rattle.code_runs.specs.Counted.{count_stores}
use Rattle.code_runs.specs.Page.{page_word}
use Rattle.snippet_code.specs.Spills.{spills_of}
use Rattle.image_code.specs.Store.{Edit, operations_on, snippet_on}

-- ---- steps

-- how many steps a way along some edges takes at most
abbrev pub limit_by : ℕ → List (List Op) → List ℕ → ℕ
limit_by most snips edges = most + 32 * operations_on snips edges

abbrev pub limit_on : List (List Op) → List ℕ → ℕ
limit_on snips edges = limit_by 64 snips edges

-- ---- stores

-- how many registers the snippets of some edges spill, by what is dead behind each
abbrev pub spills_at : List (List Op) → (ℕ → List Part) → ℕ → ℕ
spills_at snips dead edge = spills_of (dead edge) (named_by (snippet_on snips edge)) (snippet_on snips edge)

abbrev pub spills_on : List (List Op) → (ℕ → List Part) → List ℕ → ℕ
spills_on snips dead [] = 0
spills_on snips dead (edge ∷ edges) = spills_at snips dead edge + spills_on snips dead edges

-- a byte of a cell
abbrev pub is_cell : Notes → ℕ → Bool
is_cell notes a = nat_le notes.base a && nat_lt a (notes.base + 4 * notes.cells)

-- a byte of word 0 of the editor's page, in which long jumps keep a register
abbrev pub in_first_word : ℕ → Bool
in_first_word a = nat_le (page_word 0) a && nat_lt a (page_word 0 + 4)

-- a byte that only snippets store: in the pages, but neither in a cell nor in that word
abbrev pub is_spill : Notes → ℕ → Bool
is_spill notes a = in_pages notes a && (not (is_cell notes a) && not (in_first_word a))

abbrev pub is_jmpl : Option Instr → Bool
is_jmpl (Some (i.Jmpl rd rs1 op2)) = true
is_jmpl _ = false

abbrev pub is_transfer_at : Option Instr → Bool
is_transfer_at None = false
is_transfer_at (Some instr) = is_transfer instr

abbrev pub is_out : Option Edge → Bool
is_out None = false
is_out (Some edge) = same_kind edge.kind kinds.Out

abbrev pub NoneIsOut : Graph → List ℕ → Type 0
NoneIsOut graph [] = Unit {0}
NoneIsOut graph (edge ∷ edges) = (is_out (slice_get graph.edges edge) ≡ false) × NoneIsOut graph edges

-- The steps whose stores are bounded: the instruction is no JMPL (which keeps its target in the page), the step
-- completes no edge of kind `out` (along which the target is looked up), and the original goes on at a word of the
-- text.
pub record IsWatched (e : Edit) (edges : List ℕ) (p : Point) (v : State) : Type 0 where
  pub jump : is_jmpl (instr_at e.text p.pc) ≡ false
  pub out : NoneIsOut e.graph edges
  pub inside : word_at e.text v.pc ≢ None

-- What so many steps store and take that answer a step of the original.
pub record CostsLittle (e : Edit) (dead : ℕ → List Part) (NoLongForms : Type 0) (edges : List ℕ) (p : Point) (t : State) (count : ℕ)
    : Type 0 where
  -- registers that snippets spill, and no others
  pub spills : count_stores (is_spill e.notes) t count ≤ spills_on e.snips dead edges
  -- Where nothing is long, that word is left alone,
  pub first : NoLongForms → count_stores in_first_word t count ≡ 0
  -- a word within its block is carried out alone,
  pub alone : NoLongForms → edges ≡ [] → is_transfer_at (instr_at e.text p.pc) ≡ false → count ≡ 1
  -- and a way without operations has few words.
  pub few : NoLongForms → operations_on e.snips edges ≡ 0 → count ≤ 8
