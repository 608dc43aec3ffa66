-- The shape of a piece: what stands in its Mark, on which edges the snippets run behind that, and where control goes on.
use Rattle.std.specs.Prelude.{ℕ, List, [], Option, Some, None, map, ◌∷◌, ◌++◌}
use Rattle.std.specs.List.{flat_map}
use Rattle.eel_base.specs.declared.numbers.Addr.{Addr}
use Rattle.layout.specs.declared.items.Item.{Item}
use Rattle.layout.specs.declared.items.Item.TheVariants as it
use Rattle.jump_code.specs.Choosing.{switch_jump}
use Rattle.jump_code.specs.Finding.{jump_translated}
use Rattle.jump_code.specs.Links.{link}
use Rattle.jump_code.specs.Pieces.{foreign_piece, long_jump_piece, word_items}
use Rattle.image_code.specs.declared.shape.Exit.{Exit}
use Rattle.image_code.specs.declared.shape.Exit.TheVariants as exits
use Rattle.image_code.specs.declared.shape.Head.{Head}
use Rattle.image_code.specs.declared.shape.Head.TheVariants as heads
use Rattle.image_code.specs.declared.shape.SourceWord.{SourceWord}

pub record Shape : Type 0 where
  pub mark : Option (SourceWord × Head)
  pub edges : List ℕ
  pub exit : Exit

abbrev pub marked : SourceWord → Head → List ℕ → Exit → Shape
marked visit head edges exit = record { mark = Some (visit, head); edges = edges; exit = exit }

abbrev pub bare : List ℕ → Exit → Shape
bare edges exit = record { mark = None; edges = edges; exit = exit }

abbrev pub goes_to : ℕ → Exit
goes_to piece = exits.Piece (record { 0 = piece })

abbrev pub leaves_to : ℕ → Exit
leaves_to address = exits.Far (record { 0 = address })

-- ---- its items

-- `ba` to the word after the next one (B.21): the second of two stands in the slot of the first, and ends the run
abbrev pub couple_word : ℕ
couple_word = 0x10800002

abbrev pub exit_items : Exit → List Item
exit_items exits.Behind = []
exit_items (exits.Piece piece) = it.Jump piece ∷ []
exit_items (exits.Far to) = long_jump_piece to.0
exit_items exits.Found = word_items (jump_translated 1)
exit_items exits.Foreign = foreign_piece
exit_items (exits.Saved code) = map it.Word code

-- what stands in the Mark of a visit at an address
abbrev pub head_items : Addr → Head → List Item
head_items address (heads.Word word) = it.Word word ∷ []
head_items address (heads.Branch cond to) = it.Branch cond to ∷ []
head_items address heads.Call = word_items (link 15 address.0)
head_items address (heads.LookUp code rd) = map it.Word code ++ word_items (link rd address.0)
head_items address (heads.SwitchJump rd distance) = word_items (switch_jump rd address.0 distance)
head_items address heads.Couple = it.Word couple_word ∷ it.Word couple_word ∷ []

-- a Mark, with what stands in it, before the rest of a piece
abbrev pub mark_items : Option (SourceWord × Head) → List Item → List Item
mark_items None rest = rest
mark_items (Some (visit, head)) rest =
    it.Mark visit.address visit.node ∷ (head_items visit.address head ++ it.EndMark ∷ rest)

-- where the snippets on edges have these words
abbrev pub items_of : (ℕ → List ℕ) → Shape → List Item
items_of codes s = mark_items s.mark (map it.Word (flat_map codes s.edges) ++ exit_items s.exit)

abbrev pub assembled : (ℕ → List ℕ) → List Shape → List (List Item)
assembled codes shapes = map (items_of codes) shapes
