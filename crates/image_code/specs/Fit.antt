-- The pieces that are made can be placed, in so many bytes, and wherever they are placed the word of each place is the
-- original's.
use Rattle.std.specs.Prelude.{◌≡◌, ℕ, suc, ◌+◌, ◌*◌, ◌^◌, ◌<◌, ◌≤◌, Bool, true, false, List, [], ◌∷◌, length, Some, slice_get, slice_index}
use Rattle.std.specs.List.{count_by, sum_by}
use Rattle.eel_base.specs.CodeText.{Words, word_at}
use Rattle.eel_base.specs.Code.{IsText}
use Rattle.notes.specs.Format.{NoteRange}
use Rattle.v8_decode.specs.Words.{decode_of}
use Rattle.v8_step.specs.Items.{is_transfer}
use Rattle.cfg_normal.specs.declared.Edge.{Edge}
use Rattle.cfg_normal.specs.Graph.{Graph}
use Rattle.snippets.specs.declared.snippet.Op.{Op}
use Rattle.layout.specs.declared.items.Item.{Item}
use Rattle.layout.specs.declared.items.Item.TheVariants as it
use Rattle.layout.specs.Laid.{ArePieces, IsLaid, IsWordAt, Placement, long_bytes}
use Rattle.image_code.specs.Labels.{case_numbers, foreign_number}
use Rattle.image_code.specs.Graphs.{IsGraphOf}
use Rattle.image_code.specs.Copies.{copies_of}
use Rattle.image_code.specs.Made.{lands_at, piece_list}
use Rattle.image_code.specs.Store.{snippet_on}

abbrev pub is_mark : Item → Bool
is_mark (it.Mark address node) = true
is_mark _ = false

-- how many Marks a piece has
abbrev pub marks_in : List Item → ℕ
marks_in items = count_by is_mark items

-- the operations on some edges, the first of which has this number, counted as often as they are made
abbrev pub operations_from : Graph → List (List Op) → ℕ → List Edge → ℕ
operations_from graph snips number [] = 0
operations_from graph snips number (edge ∷ edges) =
    copies_of graph edge * length (snippet_on snips number) + operations_from graph snips (suc number) edges

abbrev pub operations_in : Graph → List (List Op) → ℕ
operations_in graph snips = operations_from graph snips 0 graph.edges

-- At most eight operations on each edge, and 22 words for each of them.
pub record AreShort (snips : List (List Op)) (codes : ℕ → List ℕ) : Type 0 where
  pub short : (edge : ℕ) → length (codes edge) ≤ 22 * length (snippet_on snips edge)
  pub few : (edge : ℕ) → length (snippet_on snips edge) ≤ 8

-- They can be placed. There is a piece for all that leads to one, not too many Marks for notes, and no more bytes than
-- this, each item in its long form.
pub record AreFit (text : Words) (graph : Graph) (snips : List (List Op)) (list : List (List Item)) : Type 0 where
  pub pieces : ArePieces list
  pub images : length text.words < length list
  pub landings : (word : ℕ) → word < length text.words → lands_at text graph snips word < length list
  pub cases : (entry number : ℕ) → slice_get (case_numbers text graph) entry ≡ Some number → number < length list
  pub foreign : foreign_number text graph < length list
  pub marks : sum_by marks_in list ≤ 2 ^ 23
  pub bytes : long_bytes list ≤ 2 ^ 19 + 500 * length text.words + 128 * operations_in graph snips

abbrev pub PiecesFit : Type 0
PiecesFit =
    (text : Words) (graph : Graph) (table cases : ℕ) (snips : List (List Op)) (codes : ℕ → List ℕ) → IsText text
    → IsGraphOf text graph → table < 2 ^ 31 → AreShort snips codes
    → AreFit text graph snips (piece_list text graph table cases codes)

-- Wherever they are placed, the first word of a range whose address is that of a word of the text is that word, unless
-- it is a transfer.
abbrev pub PlacesSay : Type 0
PlacesSay =
    (text : Words) (graph : Graph) (table cases : ℕ) (codes : ℕ → List ℕ) (base : ℕ) (p : Placement)
    (place : ℕ → ℕ → ℕ) → IsText text → IsGraphOf text graph
    → IsLaid (piece_list text graph table cases codes) base p place
    → (n : ℕ) (r : NoteRange) → slice_get p.ranges n ≡ Some r
    → (word : ℕ) → word_at text r.address ≡ Some word → is_transfer (decode_of (slice_index text.words word)) ≡ false
    → IsWordAt base p.code r.lo (slice_index text.words word)
