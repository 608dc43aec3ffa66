-- The compact layout: its order, its forms, and how many bytes it takes.
use Rattle.std.specs.Prelude.{◌≡◌, ℕ, ◌+◌, ◌*◌, ◌^◌, ◌<◌, ◌≤◌, List, length, Result, Ok, Err}
use Rattle.layout.specs.declared.items.Item.{Item}
use Rattle.layout.specs.declared.items.Placed.{Placed}
use Rattle.layout.specs.declared.items.LayoutFault.{LayoutFault}
use Rattle.layout.specs.declared.items.LayoutFault.TheVariants as faults
use Rattle.layout.specs.Laid.{ArePieces, HasShortForms, IsLaid, Placement, long_bytes, size_of}
use Rattle.layout.specs.Forms.{Forms, entries_of, start_of, offset, IsWidened}

-- The compact layout: the pieces stand in the compact order, one right behind the other, each item in the form that
-- widening gives it. `place k n` is where item n of piece k begins.
pub record IsCompact (pieces : List (List Item)) (base : ℕ) (place : ℕ → ℕ → ℕ) : Type 0 where
  pub long : Forms
  pub widened : IsWidened (entries_of pieces) long
  pub places : (k n : ℕ) → k < length pieces → n ≤ size_of pieces k
      → place k n ≡ base + 4 * offset (entries_of pieces) long (start_of (entries_of pieces) k + 1 + n)

-- the bytes that the compact layout of these pieces takes
pub record IsNeeded (pieces : List (List Item)) (bytes : ℕ) : Type 0 where
  pub long : Forms
  pub widened : IsWidened (entries_of pieces) long
  pub value : bytes ≡ 4 * offset (entries_of pieces) long (length (entries_of pieces))

-- The code has just the bytes that are needed, and room for them. A refusal for want of room names them, and comes just
-- where they are too many.
abbrev pub RoomIs : Result Placed LayoutFault → List (List Item) → ℕ → Type 0
RoomIs (Ok p) pieces room = IsNeeded pieces (4 * length p.code.items) × (4 * length p.code.items ≤ room)
RoomIs (Err (faults.Room needed had)) pieces room = IsNeeded pieces needed × (had ≡ room) × (room < needed)
RoomIs (Err faults.NoMemory) pieces room = Unit {0}

-- what is needed is one number
abbrev pub NeededOnce : Type 0
NeededOnce = (pieces : List (List Item)) (bytes other : ℕ) → IsNeeded pieces bytes → IsNeeded pieces other
    → bytes ≡ other

-- and never more than with each item in its long form
abbrev pub LongIsEnough : Type 0
LongIsEnough = (pieces : List (List Item)) (bytes : ℕ) → ArePieces pieces → IsNeeded pieces bytes
    → bytes ≤ long_bytes pieces

-- In less than 8 MiB each is short.
abbrev pub ShortIsEnough : Type 0
ShortIsEnough =
    (pieces : List (List Item)) (base : ℕ) (p : Placement) (place : ℕ → ℕ → ℕ) → ArePieces pieces
    → IsLaid pieces base p place → IsCompact pieces base place → 4 * length p.code < 2 ^ 23
    → HasShortForms pieces place
