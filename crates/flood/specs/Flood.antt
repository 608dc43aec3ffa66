-- What is live at the places of a graph, by its links; and the state of the search for it.
use Rattle.std.specs.Prelude.{◌≡◌, ℕ, ◌<◌, true, false, List, [], ◌∷◌, length, slice_index_or}
use Rattle.v8_decode.specs.declared.Part.{Part}
use Rattle.v8_decode.specs.Parts.{has}
use Rattle.flood.specs.declared.Link.{Link}

abbrev pub Sets : Type 0
Sets = List (List Part)

-- the set of a place; past the last one, none
abbrev pub at : Sets → ℕ → List Part
at sets place = slice_index_or sets place []

abbrev pub link_at : List Link → ℕ → Link
link_at links k = slice_index_or links k (record { from = 0; to = 0; kills = [] })

-- all links are between so many places
abbrev pub AreLinks : ℕ → List Link → Type 0
AreLinks places links =
    (k : ℕ) → k < length links → ((link_at links k).from < places) × ((link_at links k).to < places)

-- a link leads from one place to the other, and doesn't kill the part
abbrev pub Passes : List Link → Part → ℕ → ℕ → Type 0
Passes links x p q =
    (k : ℕ) × (k < length links) × ((link_at links k).from ≡ p) × ((link_at links k).to ≡ q)
    × (has (link_at links k).kills x ≡ false)

module _ (reads : Sets) (links : List Link) where
  -- the path's last place reads the part, and no link on the way kills it
  abbrev pub Reaches : Part → ℕ → List ℕ → Type 0
  Reaches x p [] = has (at reads p) x ≡ true
  Reaches x p (q ∷ path) = Passes links x p q × Reaches x q path

  -- a part is live at a place from which some path reaches where it is read
  abbrev pub IsLiveIn : ℕ → Part → Type 0
  IsLiveIn p x = (path : List ℕ) × Reaches x p path
