-- What the objects of the outside hold, give and take. An object tells it as `Some ..`; one that
-- tells nothing has `None` before and after each call.
use Rattle.std.specs.Prelude.{◌≡◌, ◌≢◌, ℕ, suc, ◌-◌, ◌≤◌, ◌<◌, ◌^◌, ⊤, min, List, [], ◌++◌, length, take, Option, Some, None}
use Rattle.std.specs.Ordering.{nat_cmp}
use Rattle.std.specs.declared.cmp.Ordering.{Ordering}
use Rattle.std.specs.Cmp.Lexicographic.{slice_cmp}
use Rattle.std.specs.BTreeMap.{is_at, insert_entry}
use Rattle.std.specs.Map.{lookup}

-- The counts of 64 bits. A count that stands at its last value stays there.

abbrev pub last_count : ℕ
last_count = 2 ^ 64 - 1

abbrev pub raised : ℕ → ℕ
raised count = min (suc count) last_count

-- a count rose in a call: it is greater than before, or stands at its last value
abbrev pub Rose : ℕ → ℕ → Type 0
Rose before now = min (suc before) last_count ≤ now

-- Files: a finite map from names to bytes, which is the list of its entries in the names' order.

abbrev pub Holding : Type 0
Holding = List (List ℕ × List ℕ)

abbrev pub name_order : List ℕ → List ℕ → Ordering
name_order = slice_cmp nat_cmp

-- the bytes under a name
abbrev pub bytes_under : List ℕ → Holding → Option (List ℕ)
bytes_under name files = lookup (is_at (name_order name)) files

-- these files with the bytes under the name: they take the place of the name's bytes, or come to them
abbrev pub with_bytes : Holding → List ℕ → List ℕ → Holding
with_bytes files name bytes = insert_entry name_order files name bytes

-- what is held once the bytes are put under the name
abbrev pub stored : Option Holding → List ℕ → List ℕ → Option Holding
stored None name bytes = None
stored (Some files) name bytes = Some (with_bytes files name bytes)

-- the name is known not to be held
abbrev pub IsMissing : Option Holding → List ℕ → Type 0
IsMissing None name = ⊥
IsMissing (Some files) name = bytes_under name files ≡ None

-- these are the bytes under the name, where that is told
abbrev pub AreUnder : Option Holding → List ℕ → List ℕ → Type 0
AreUnder None name bytes = ⊤
AreUnder (Some files) name bytes = bytes_under name files ≡ Some bytes

-- the name has more than `limit` bytes, where that is told
abbrev pub IsLonger : Option Holding → List ℕ → ℕ → Type 0
IsLonger None name limit = ⊤
IsLonger (Some files) name limit = (bytes : List ℕ) × (bytes_under name files ≡ Some bytes) × (limit < length bytes)

-- every name but this one is as it was
abbrev pub SameBut : List ℕ → Option Holding → Option Holding → Type 0
SameBut name None new = new ≡ None
SameBut name (Some old) None = ⊥
SameBut name (Some old) (Some new) = (other : List ℕ) → other ≢ name → bytes_under other new ≡ bytes_under other old

-- Sources: the bytes that are left.

-- what was left where these bytes came first and `rest` is left now
abbrev pub preceded : List ℕ → Option (List ℕ) → Option (List ℕ)
preceded bytes None = None
preceded bytes (Some rest) = Some (bytes ++ rest)

abbrev pub IsAtEnd : Option (List ℕ) → Type 0
IsAtEnd None = ⊤
IsAtEnd (Some left) = left ≡ []

-- some bytes were read, as many as `count` allows
abbrev pub GaveSome : (ℕ → Type 0) → Option (List ℕ) → Option (List ℕ) → Type 0
GaveSome IsCount old new = (bytes : List ℕ) × IsCount (length bytes) × (old ≡ preceded bytes new)

-- Sinks: the bytes that were taken.

abbrev pub appended : Option (List ℕ) → List ℕ → Option (List ℕ)
appended None bytes = None
appended (Some old) bytes = Some (old ++ bytes)

-- a first part of the bytes was taken
abbrev pub TookPart : Option (List ℕ) → Option (List ℕ) → List ℕ → Type 0
TookPart old new bytes = (count : ℕ) × (new ≡ appended old (take count bytes))
