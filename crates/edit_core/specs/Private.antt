-- What only contracts of private functions and models cite.
use Rattle.std.specs.Prelude.{ℕ, Bool, Option, Some, None, List, ◌≡◌, ◌*◌, ◌<◌, ◌≤◌, length, ◌+◌, ◌%◌, ◌^◌, map, All}
use Rattle.std.specs.List.{count_by, sum_by}
use Rattle.eel_base.specs.CodeText.{Words}
use Rattle.eel_base.specs.Code.{IsText}
use Rattle.eel_base.specs.declared.numbers.PieceNo.{PieceNo}
use Rattle.v8_decode.specs.declared.Part.{Part}
use Rattle.snippets.specs.declared.snippet.Op.{Op}
use Rattle.cfg_blocks.specs.Blocks.{below}
use Rattle.cfg_normal.specs.Graph.{Graph, lands}
use Rattle.cfg_normal.specs.Numbers.{node_number}
use Rattle.cfg_normal.specs.Opens.{Open}
use Rattle.liveness.specs.Live.{named_on}
use Rattle.tool_kit.specs.Plans.{Plan}
use Rattle.elf32_sparc.specs.Image.{Program, image_of}
use Rattle.layout.specs.declared.items.Item.{Item}
use Rattle.layout.specs.Laid.{HasShortForms, IsLaid, Placement, long_bytes, placement_of}
use Rattle.layout.specs.declared.items.Placed.{Placed}
use Rattle.image_code.specs.Graphs.{IsGraphOf}
use Rattle.image_code.specs.Made.{lands_at}
use Rattle.image_code.specs.Labels.{case_numbers, foreign_number}
use Rattle.edit_core.specs.declared.requests.CaseKey.{CaseKey}
use Rattle.edit_core.specs.contracts.requests.CaseKeyPartialEq.TheImpl as key_eq
use Rattle.edit_core.specs.Cost.{short_bound}
use Rattle.edit_core.specs.Dead.{AreDead}
use Rattle.edit_core.specs.Written.{table_after, segment_size, pieces_by, graph_in, IsWorkable, entry_number}
use Rattle.edit_core.specs.declared.requests.Request.{Request}
use Rattle.edit_core.specs.Taken.{bound_by}

-- ---- the entries of tables, counted by the edges along which they lead

-- a Case edge by the block that it leaves and the number of its node
abbrev pub case_key : ℕ → ℕ → CaseKey
case_key from to = record { from = record { 0 = from }; to = to }

abbrev pub same_key : CaseKey → CaseKey → Bool
same_key = (key_eq.ghosts).eq

abbrev pub count_of : Option ℕ → ℕ
count_of None = 0
count_of (Some n) = n

-- an entry that leads to a word, from a block, leads along the edge with this key
abbrev pub is_entry : Graph → ℕ → CaseKey → ℕ → Bool
is_entry graph block key word = same_key (case_key block (node_number graph (lands graph (Some word)))) key

abbrev pub entries_with : Graph → CaseKey → List Open → ℕ
entries_with graph key opens = sum_by (λ (o : Open). count_by (is_entry graph o.block key) o.targets) opens

-- a table has under each key how many entries do
abbrev pub AreCounts : Graph → (CaseKey → Option ℕ) → Type 0
AreCounts graph get = (key : CaseKey) → count_of (get key) ≡ entries_with graph key graph.opens

-- Pieces were laid from an address on, in no more bytes than their long forms take. Where these are few, no form is long.
pub record AreLaid (pieces : List (List Item)) (base : ℕ) (p : Placement) (place : ℕ → ℕ → ℕ) : Type 0 where
  pub laid : IsLaid pieces base p place
  pub size : 4 * length p.code ≤ long_bytes pieces
  pub short : 4 * length p.code < short_bound → HasShortForms pieces place

-- what was laid, of an original by what is asked of it
pub record IsBuilt (text : Words) (graph : Graph) (base cells : ℕ) (snips : List (List Op)) (p : Placement) : Type 0 where
  pub dead : ℕ → List Part
  pub exact : AreDead text graph (named_on snips) dead
  pub place : ℕ → ℕ → ℕ
  pub are : AreLaid (pieces_by text graph base cells dead snips) (table_after base cells + segment_size text graph) p
      place

-- ---- as the program keeps it

-- the image and the graph of the original, as it was seen
abbrev pub IsViewOf : List ℕ → Plan → Program → Graph → Type 0
IsViewOf original plan image graph = (image ≡ image_of original) × (graph ≡ graph_in original plan)

abbrev pub placement_in : Placed → Placement
placement_in placed = placement_of placed.code.items placed.at.items placed.ranges.items

-- what is asked, with the words that are marked
abbrev pub plan_of : List ℕ → Request → Plan
plan_of marks request = record { kind = request.kind; marks = marks; cells = request.cells; snips = request.snips.items }

-- ---- new code of a view

-- There is as much room above a program as the edit asks for.
pub record HasRoom (image : Program) (g : Graph) (request : Request) : Type 0 where
  pub text : IsText image.text
  pub graph : IsGraphOf image.text g
  pub work : IsWorkable g request.kind request.cells request.snips.items
  pub room : bound_by image.text g request.kind request.cells request.snips.items ≤ image.room
  pub base : image.base % 4096 ≡ 0
  pub low : image.base + image.room ≤ 2 ^ 31

-- Pieces are those of a view, with snippets that take what is dead behind them. These are the pieces of the words, of
-- the Case edges, of what lies outside the text, and the one at which the program begins.
pub record AreMade (image : Program) (graph : Graph) (request : Request) (pieces : List (List Item))
    (words ways : List PieceNo) (outside begin : PieceNo) : Type 0 where
  pub dead : ℕ → List Part
  pub exact : AreDead image.text graph (named_on request.snips.items) dead
  pub list : pieces ≡ pieces_by image.text graph image.base request.cells dead request.snips.items
  pub landing : map (λ (n : PieceNo). n.0) words
      ≡ map (lands_at image.text graph request.snips.items) (below (length image.text.words))
  pub cases : map (λ (n : PieceNo). n.0) ways ≡ case_numbers image.text graph
  pub foreign : outside.0 ≡ foreign_number image.text graph
  pub entry : begin.0 ≡ entry_number image.text graph image.entry
  pub begins : image.entry < length image.text.words

-- they are among so many pieces
pub record AreInside (count : ℕ) (words ways : List PieceNo) (outside begin : PieceNo) : Type 0 where
  pub landing : All (λ (n : PieceNo). n.0 < count) words
  pub cases : All (λ (n : PieceNo). n.0 < count) ways
  pub foreign : outside.0 < count
  pub entry : begin.0 < count
