-- The order in which pieces are laid.
use Rattle.std.specs.Prelude.{ℕ, zero, suc, ◌-◌, Bool, not, ◌&&◌, ◌==◌, nat_lt, if◌then◌else◌, List, [], ◌∷◌, ◌++◌, length, slice_get, slice_index_or, Option, Some, None}
use Rattle.std.specs.List.{list_any}
use Rattle.std.specs.Option.{is_some}
use Rattle.eel_base.specs.declared.numbers.PieceNo.{PieceNo}
use Rattle.layout.specs.declared.items.Item.{Item}
use Rattle.layout.specs.declared.items.Item.TheVariants.{Jump}

-- where a Jump leads
abbrev pub jump_to : Option Item → Option PieceNo
jump_to (Some (Jump to)) = Some to
jump_to _ = None

-- where the Jump leads that is the last item
abbrev pub exit_of : List Item → Option PieceNo
exit_of items = jump_to (slice_get items (length items - 1))

-- the same of the piece with this number
abbrev pub exit_at : List (List Item) → ℕ → Option PieceNo
exit_at pieces k = exit_of (slice_index_or pieces k [])

abbrev pub ends_in_jump : List (List Item) → ℕ → Bool
ends_in_jump pieces k = is_some (exit_at pieces k)

abbrev pub is_laid : List ℕ → ℕ → Bool
is_laid laid k = list_any (λ j. k == j) laid

-- the first number from k on that isn't laid, among `room` of them
abbrev pub first_left : List ℕ → ℕ → ℕ → ℕ
first_left laid k zero = k
first_left laid k (suc room) = if is_laid laid k then first_left laid (suc k) room else k

-- the lowest piece that isn't laid
abbrev pub lowest_left : List (List Item) → List ℕ → ℕ
lowest_left pieces laid = first_left laid 0 (length pieces)

-- The piece that comes behind `last`. Behind one that ends in no Jump it is the next piece of the list; behind one that
-- ends in a Jump, the Jump's target, where that isn't laid and the piece before it in the list ends in a Jump. In every
-- other case it is the lowest piece that isn't laid.
abbrev pub behind : List (List Item) → List ℕ → ℕ → Option PieceNo → ℕ
behind pieces laid last None =
    if nat_lt (suc last) (length pieces) then suc last else lowest_left pieces laid
behind pieces laid last (Some to) =
    if not (is_laid laid to.0) && ends_in_jump pieces (to.0 - 1) then to.0 else lowest_left pieces laid

-- the piece that comes behind the last one, if there is one: else piece 0
abbrev pub next_after : List (List Item) → List ℕ → Option ℕ → ℕ
next_after pieces laid None = 0
next_after pieces laid (Some last) = behind pieces laid last (exit_at pieces last)

-- the piece that comes when these are laid
abbrev pub next_piece : List (List Item) → List ℕ → ℕ
next_piece pieces laid = next_after pieces laid (slice_get laid (length laid - 1))

-- the first `count` pieces in the order in which they are laid
unfoldable pub first_laid : List (List Item) → ℕ → List ℕ
first_laid pieces zero = []
first_laid pieces (suc count) = first_laid pieces count ++ next_piece pieces (first_laid pieces count) ∷ []

-- all pieces in that order
abbrev pub compact_order : List (List Item) → List ℕ
compact_order pieces = first_laid pieces (length pieces)
