-- What a layout of pieces promises: where each item stands, and that its words do what it says.
use Rattle.std.specs.Prelude.{◌≡◌, ℕ, zero, suc, ◌+◌, ◌-◌, ◌*◌, ◌%◌, ◌^◌, ◌<◌, ◌≤◌, Bool, true, false, ◌&&◌, List, [], ◌∷◌, length, map, Option, Some, None, if◌then◌else◌, nat_le, nat_lt, slice_get, slice_index, ℤ, pos}
use Rattle.std.specs.List.{find, sum_by}
use Rattle.std.specs.Option.{option_map}
use Rattle.std.specs.Int.{w32, cast_unsigned}
use Rattle.eel_base.specs.declared.numbers.Addr.{Addr}
use Rattle.eel_base.specs.declared.range.Range.{Range}
use Rattle.notes.specs.Format.{NoteRange}
use Rattle.v8_decode.specs.declared.Instr.{Instr}
use Rattle.v8_decode.specs.declared.Instr.TheVariants as i
use Rattle.v8_decode.specs.Words.{decode_of}
use Rattle.v8_alu.specs.Numbers.{wrapped}
use Rattle.code_runs.specs.LongJump.{long_jump}
use Rattle.layout.specs.declared.items.Item.{Item}
use Rattle.layout.specs.declared.items.Item.TheVariants as it

-- ---- what was placed

pub record Placement : Type 0 where
  pub code : List ℕ
  pub at : List ℕ
  pub ranges : List NoteRange

-- a range as notes say it
abbrev pub note_range : Range → NoteRange
note_range r = record { lo = r.lo.0; hi = r.hi.0; address = r.address.0; node = r.node }

abbrev pub placement_of : List ℕ → List Addr → List Range → Placement
placement_of code at ranges = record { code = code; at = map (λ (a : Addr). a.0) at; ranges = map note_range ranges }

-- the range that holds an address
abbrev pub range_in : List NoteRange → ℕ → Option NoteRange
range_in ranges address = find (λ range. nat_le range.lo address && nat_lt address range.hi) ranges

-- ---- items by their numbers

abbrev pub item_in : Option (List Item) → ℕ → Option Item
item_in None n = None
item_in (Some items) n = slice_get items n

-- item n of piece k
abbrev pub item_at : List (List Item) → ℕ → ℕ → Option Item
item_at pieces k n = item_in (slice_get pieces k) n

abbrev pub items_in : Option (List Item) → ℕ
items_in None = 0
items_in (Some items) = length items

-- how many items a piece has
abbrev pub size_of : List (List Item) → ℕ → ℕ
size_of pieces k = items_in (slice_get pieces k)

-- ---- what may be placed

-- a Jump or a Branch leads to one of so many pieces
abbrev pub LeadsBelow : ℕ → Option Item → Type 0
LeadsBelow count (Some (it.Jump to)) = to.0 < count
LeadsBelow count (Some (it.Branch cond to)) = to.0 < count
LeadsBelow count _ = Unit {0}

abbrev pub AllLead : List (List Item) → Type 0
AllLead pieces = (k n : ℕ) → LeadsBelow (length pieces) (item_at pieces k n)

-- from here on no Mark stands in another, and each ends: `inside` where one is open
abbrev pub AreMarked : Bool → List Item → Type 0
AreMarked true [] = ⊥
AreMarked false [] = Unit {0}
AreMarked true (it.Mark address node ∷ items) = ⊥
AreMarked false (it.Mark address node ∷ items) = AreMarked true items
AreMarked inside (it.EndMark ∷ items) = AreMarked false items
AreMarked inside (it.Word word ∷ items) = AreMarked inside items
AreMarked inside (it.Jump to ∷ items) = AreMarked inside items
AreMarked inside (it.Branch cond to ∷ items) = AreMarked inside items

abbrev pub IsMarked : Option (List Item) → Type 0
IsMarked None = Unit {0}
IsMarked (Some items) = AreMarked false items

-- Marks don't nest, and each ends in its own piece
abbrev pub AllMarked : List (List Item) → Type 0
AllMarked pieces = (k : ℕ) → IsMarked (slice_get pieces k)

-- pieces that can be placed
pub record ArePieces (pieces : List (List Item)) : Type 0 where
  pub count : length pieces ≤ 2 ^ 28
  pub items : sum_by length pieces ≤ 2 ^ 40
  pub leads : AllLead pieces
  pub marked : AllMarked pieces

-- ---- what stands where an item was placed

-- a word of the code at an address
abbrev pub IsWordAt : ℕ → List ℕ → ℕ → ℕ → Type 0
IsWordAt base code a word = (n : ℕ) × (a ≡ base + 4 * n) × (slice_get code n ≡ Some word)

-- the code says these instructions from an address on
abbrev pub SaysFrom : ℕ → List ℕ → ℕ → List Instr → Type 0
SaysFrom base code a [] = Unit {0}
SaysFrom base code a (x ∷ xs) = ((word : ℕ) × IsWordAt base code a word × (decode_of word ≡ x))
    × SaysFrom base code (a + 4) xs

abbrev pub nop : Instr
nop = i.Sethi 0 0

-- the opposite condition
abbrev pub opposite : ℕ → ℕ
opposite cond = if nat_lt cond 8 then cond + 8 else cond - 8

-- a branch at `from` with this displacement goes to `to`
abbrev pub Reaches : ℕ → ℕ → ℤ → Type 0
Reaches from to disp22 = wrapped (from + 4 * cast_unsigned w32 disp22) ≡ to

-- A Jump takes no word where its target comes next, one word, or four.
pub data JumpStands (base : ℕ) (code : List ℕ) (to a b : ℕ) : Type 0 where
  jump_nothing : a ≡ to → b ≡ a → JumpStands base code to a b
  jump_short : (disp22 : ℤ) → b ≡ a + 4 → Reaches a to disp22 → SaysFrom base code a (i.Branch 8 true disp22 ∷ [])
      → JumpStands base code to a b
  jump_long : b ≡ a + 4 * length (long_jump to) → SaysFrom base code a (long_jump to) → JumpStands base code to a b

-- A Branch takes two words, the second a nop that is annulled where the branch isn't taken, or six: past a long jump on
-- the opposite condition.
pub data BranchStands (base : ℕ) (code : List ℕ) (cond to a b : ℕ) : Type 0 where
  branch_short : (disp22 : ℤ) → b ≡ a + 8 → Reaches a to disp22
      → SaysFrom base code a (i.Branch cond true disp22 ∷ nop ∷ []) → BranchStands base code cond to a b
  branch_long : b ≡ a + 4 * (2 + length (long_jump to))
      → SaysFrom base code a (i.Branch (opposite cond) false (pos 6) ∷ nop ∷ [])
      → SaysFrom base code (a + 8) (long_jump to)
      → BranchStands base code cond to a b

-- an item stands from a to b
abbrev pub Stands : ℕ → Placement → Item → ℕ → ℕ → Type 0
Stands base p (it.Word word) a b = (b ≡ a + 4) × IsWordAt base p.code a word
Stands base p (it.Jump to) a b = JumpStands base p.code (slice_index p.at to.0) a b
Stands base p (it.Branch cond to) a b = BranchStands base p.code cond (slice_index p.at to.0) a b
Stands base p (it.Mark address node) a b = b ≡ a
Stands base p it.EndMark a b = b ≡ a

-- ---- Marks

-- the Mark that is open at an item: the numbers of the item after it and of its end, its address and node
pub record OpenMark : Type 0 where
  pub first : ℕ
  pub last : ℕ
  pub address : ℕ
  pub node : ℕ

abbrev pub is_end : Item → Bool
is_end it.EndMark = true
is_end _ = false

-- the number of the first EndMark, where the first item has the number n
abbrev pub end_from : List Item → ℕ → ℕ
end_from [] n = n
end_from (x ∷ xs) n = if is_end x then n else end_from xs (suc n)

abbrev pub opened : Item → List Item → ℕ → Option OpenMark → Option OpenMark
opened (it.Mark address node) xs n o = Some (record {
  first = suc n;
  last = end_from xs
      (suc n);
  address = address.0;
  node = node;
})
opened it.EndMark xs n o = None
opened _ xs n o = o

abbrev pub open_from : List Item → ℕ → ℕ → Option OpenMark → Option OpenMark
open_from [] n k o = None
open_from (x ∷ xs) n zero o = o
open_from (x ∷ xs) n (suc k) o = open_from xs (suc n) k (opened x xs n o)

-- the Mark that is open at item n of a piece
abbrev pub open_in : Option (List Item) → ℕ → Option OpenMark
open_in None n = None
open_in (Some items) n = open_from items 0 n None

-- the range that an open Mark has
abbrev pub range_of : (ℕ → ℕ) → Option OpenMark → Option NoteRange
range_of place mark = option_map (λ (o : OpenMark). record {
  lo = place o.first;
  hi = place o.last;
  address = o.address;
  node = o.node;
}) mark

-- a range is that of a Mark
pub record IsRangeOf (pieces : List (List Item)) (place : ℕ → ℕ → ℕ) (r : NoteRange) : Type 0 where
  pub piece : ℕ
  pub item : ℕ
  pub address : Addr
  pub mark : item_at pieces piece item ≡ Some (it.Mark address r.node)
  pub says : r.address ≡ address.0
  pub lo : r.lo ≡ place piece (suc item)

-- ranges that aren't empty stand one after the other, from an address to another
abbrev pub Ascend : ℕ → ℕ → List NoteRange → Type 0
Ascend from to [] = from ≤ to
Ascend from to (r ∷ rs) = (from ≤ r.lo) × (r.lo < r.hi) × Ascend r.hi to rs

-- ---- a layout

abbrev pub is_jump : Option Item → Bool
is_jump (Some (it.Jump to)) = true
is_jump _ = false

-- the address of a word of the code, or of its end
pub record IsPlaceIn (base : ℕ) (p : Placement) (a : ℕ) : Type 0 where
  pub begins : base ≤ a
  pub ends : a ≤ base + 4 * length p.code
  pub aligned : a % 4 ≡ 0

-- Control enters a piece at its first item, and goes on to the next piece after its last. `place k n` is where item n
-- of piece k begins. Each range is that of a Mark with a word, and at an address of an item the range of the Mark that
-- is open there is found.
pub record IsLaid (pieces : List (List Item)) (base : ℕ) (p : Placement) (place : ℕ → ℕ → ℕ) : Type 0 where
  pub low : base + 4 * length p.code ≤ 2 ^ 31
  pub count : length p.at ≡ length pieces
  pub starts : (k : ℕ) → k < length pieces → slice_index p.at k ≡ place k 0
  pub aligned : (k : ℕ) → (slice_index p.at k % 4 ≡ 0) × (slice_index p.at k ≤ 2 ^ 31)
  pub items : (k n : ℕ) (x : Item) → item_at pieces k n ≡ Some x → Stands base p x (place k n) (place k (suc n))
  pub falls : (k : ℕ) → suc k < length pieces → is_jump (item_at pieces k (size_of pieces k - 1)) ≡ false
      → place k (size_of pieces k) ≡ place (suc k) 0
  pub within : (k n : ℕ) → k < length pieces → n ≤ size_of pieces k → IsPlaceIn base p (place k n)
  pub ranges : (k n a : ℕ) (x : Item) → item_at pieces k n ≡ Some x → place k n ≤ a → a < place k (suc n)
      → range_in p.ranges a ≡ range_of (place k) (open_in (slice_get pieces k) n)
  pub ascend : Ascend base (base + 4 * length p.code) p.ranges
  pub marks : (n : ℕ) (r : NoteRange) → slice_get p.ranges n ≡ Some r → IsRangeOf pieces place r

-- laid, in some order and forms
abbrev pub Lays : (List (List Item) → ℕ → (ℕ → ℕ → ℕ) → Type 0) → List (List Item) → ℕ → Placement → Type 0
Lays Forms pieces base p = (place : ℕ → ℕ → ℕ) × IsLaid pieces base p place × Forms pieces base place

-- how many words an item takes in its long form
abbrev pub long_words : Item → ℕ
long_words (it.Word word) = 1
long_words (it.Jump to) = length (long_jump 0)
long_words (it.Branch cond to) = 2 + length (long_jump 0)
long_words (it.Mark address node) = 0
long_words it.EndMark = 0

-- how many words an item takes in its short form
abbrev pub short_words : Item → ℕ
short_words (it.Word word) = 1
short_words (it.Jump to) = 1
short_words (it.Branch cond to) = 2
short_words (it.Mark address node) = 0
short_words it.EndMark = 0

-- no item takes more
abbrev pub HasShortForms : List (List Item) → (ℕ → ℕ → ℕ) → Type 0
HasShortForms pieces place =
    (k n : ℕ) (x : Item) → item_at pieces k n ≡ Some x → place k (suc n) ≤ place k n + 4 * short_words x

-- how many words a piece takes, and how many bytes the pieces, each item in its long form
abbrev pub piece_words : List Item → ℕ
piece_words items = sum_by long_words items

abbrev pub long_bytes : List (List Item) → ℕ
long_bytes pieces = 4 * sum_by piece_words pieces
