-- What only contracts of private functions and models cite.
use Rattle.std.specs.Prelude.{◌≡◌, ℕ, ◌<◌, List, length, slice_get, slice_index, slice_set, IfSome, Bool, false, slice_index_or, ◌*◌, ◌≤◌, ◌&&◌, ◌||◌, not, ℤ, pos, ◌-ℤ◌, ◌+◌, true, [], ◌∷◌, if◌then◌else◌, Option, Some, None, suc, zero, ◌++◌, nat_le, nat_lt, map, ◌^◌, Result, Ok, Err}
use Rattle.std.specs.List.{All, count_by}
use Rattle.std.specs.Option.{option_map}
use Rattle.eel_base.specs.declared.range.Range.{Range}
use Rattle.eel_base.specs.declared.numbers.Addr.{Addr}
use Rattle.v8_decode.specs.declared.Instr.{Instr}
use Rattle.layout.specs.declared.entries.Entry.{Entry}
use Rattle.layout.specs.Forms.{start_of, target, Forms, offset, out_of_reach, leads_next, goal_of, far, entries_from, IsWidened, NoneLeft}
use Rattle.v8_decode.specs.declared.Instr.TheVariants as i
use Rattle.code_runs.specs.LongJump.{long_jump}
use Rattle.layout.specs.Laid.{nop, opposite}
use Rattle.layout.specs.declared.items.Item.TheVariants as it
use Rattle.layout.specs.declared.entries.Entry.TheVariants as en
use Rattle.layout.specs.Emitting.{words_of}
use Rattle.layout.specs.declared.ranges.OpenRange.{OpenRange}
use Rattle.layout.specs.declared.items.Item.{Item}
use Rattle.layout.specs.declared.items.Placed.{Placed}
use Rattle.layout.specs.declared.items.LayoutFault.{LayoutFault}
use Rattle.layout.specs.declared.items.LayoutFault.TheVariants as faults

-- ---- entries

-- the numbers of pieces, of which there are few enough
pub record AreOrdered (pieces : List (List Item)) (order : List ℕ) : Type 0 where
  pub few : length pieces ≤ 2 ^ 28
  pub inside : All (λ k. k < length pieces) order

-- and so many entries
pub record IsListed (pieces : List (List Item)) (order : List ℕ) (count : ℕ) : Type 0 where
  pub ordered : AreOrdered pieces order
  pub counted : count ≡ length (entries_from pieces order)

-- the rest of a piece, and the pieces behind it
abbrev pub entries_left : List Item → List (List Item) → List ℕ → List Entry
entries_left items pieces order = map en.Item items ++ entries_from pieces order

-- each leads to one of so many pieces, and each piece starts at one of them
pub record IsListing (entries : List Entry) (count : ℕ) : Type 0 where
  pub targets : (n : ℕ) → IfSome (target (slice_get entries n)) (λ k. k < count)
  pub inside : (k : ℕ) → k < count → start_of entries k < length entries
  pub starts : (n k : ℕ) → slice_get entries n ≡ Some (en.Start (record { 0 = k })) → (k < count) × (start_of entries k
      ≡ n)

-- what starts is one of so many pieces
abbrev pub StartsBelow : ℕ → Entry → Type 0
StartsBelow count (en.Start k) = k.0 < count
StartsBelow count (en.Item item) = Unit {0}

-- the words before each piece, once those before an entry are known
abbrev pub noted : List ℕ → Entry → ℕ → List ℕ
noted at (en.Start k) here = slice_set at k.0 here
noted at (en.Item item) here = at

-- the forms that a list has
abbrev pub forms_in : List Bool → Forms
forms_in forms n = slice_index_or forms n false

-- these are the words before each piece, and each entry leads to one of the pieces
pub record IsOffsets (entries : List Entry) (long : Forms) (at : List ℕ) : Type 0 where
  pub targets : (n : ℕ) → IfSome (target (slice_get entries n)) (λ k. k < length at)
  pub inside : (k : ℕ) → k < length at → start_of entries k < length entries
  pub each : (k : ℕ) → k < length at → slice_index at k ≡ offset entries long (start_of entries k)
  pub small : (n : ℕ) → offset entries long n ≤ 6 * n

-- the words before the piece to which an entry leads
abbrev pub goal_in : List ℕ → Entry → Option ℕ
goal_in at x = option_map (slice_index at) (target (Some x))

-- each that is long here is long there
abbrev pub IsWithin : Forms → Forms → Type 0
IsWithin long other = (n : ℕ) → long n ≡ true → other n ≡ true

-- Forms on the way: those that are long are out of reach, and they are long wherever none is left.
pub record IsWidening (entries : List Entry) (long : Forms) : Type 0 where
  pub needed : (n : ℕ) → long n ≡ true → out_of_reach entries long n ≡ true
  pub fewest : (other : Forms) → NoneLeft entries other → IsWithin long other

-- Whether a piece is surely out of reach of an entry in the middle of a pass. The entry had `before` words before it when
-- the pass began, and has `here` now; of the piece these are the words before it as they are now, where it stands in front
-- of the entry, and as they were then, where it stands behind it.
abbrev pub beyond : ℕ → ℕ → ℕ → Bool
beyond before here words =
    (nat_lt here words && nat_le (before + 2 ^ 21) words) || (nat_lt words before && nat_lt (words + 2 ^ 21) here)

abbrev pub beyond_of : ℕ → ℕ → Option ℕ → Bool
beyond_of before here None = false
beyond_of before here (Some words) = beyond before here words

-- an entry in a form is widened
abbrev pub widens : ℕ → ℕ → Option ℕ → Bool → Bool
widens before here words long = not long && beyond_of before here words

-- the displacement of a branch, in words
abbrev pub between : ℕ → ℕ → ℤ
between from to = pos to -ℤ pos from

-- a Jump at word `from` to word `to`, and a Branch
abbrev pub jump_in_form : Bool → ℕ → ℕ → ℕ → List Instr
jump_in_form true base from to = long_jump (base + 4 * to)
jump_in_form false base from to = i.Branch 8 true (between from to) ∷ []

abbrev pub branch_in_form : Bool → ℕ → ℕ → ℕ → ℕ → List Instr
branch_in_form true base cond from to = i.Branch (opposite cond) false (pos 6) ∷ nop ∷ long_jump (base + 4 * to)
branch_in_form false base cond from to = i.Branch cond true (between from to) ∷ nop ∷ []

-- the words of an entry at word `from` before the next one, where the piece to which it leads starts at word `to`
abbrev pub entry_code : ℕ → Bool → ℕ → ℕ → Option Entry → Option Entry → List ℕ
entry_code base long from to (Some (en.Item (it.Word word))) next = word ∷ []
entry_code base long from to (Some (en.Item (it.Jump k))) next =
    if leads_next k next then [] else words_of (jump_in_form long base from to)
entry_code base long from to (Some (en.Item (it.Branch cond k))) next = words_of (branch_in_form long base cond from to)
entry_code base long from to _ next = []

-- the words before the piece to which entry n leads
abbrev pub target_offset : List Entry → Forms → ℕ → Option ℕ
target_offset entries long n = option_map (offset entries long) (goal_of entries n)

abbrev pub or_zero : Option ℕ → ℕ
or_zero None = 0
or_zero (Some n) = n

abbrev pub far_of : ℕ → Option ℕ → Bool
far_of from None = false
far_of from (Some to) = far from to

-- the words of entry n
abbrev pub code_at : ℕ → List Entry → Forms → ℕ → List ℕ
code_at base entries long n =
    entry_code base (long n) (offset entries long n) (or_zero (target_offset entries long n)) (slice_get entries n)
    (slice_get entries (suc n))

-- the words of the first entries
unfoldable pub code_to : ℕ → List Entry → Forms → ℕ → List ℕ
code_to base entries long zero = []
code_to base entries long (suc n) = code_to base entries long n ++ code_at base entries long n

-- its condition, if it has one, is a condition's number
abbrev pub has_condition : Option Entry → Bool
has_condition (Some (en.Item (it.Branch cond to))) = nat_lt cond 16
has_condition _ = true

-- the words of the first n entries
pub record IsEmitted (base : ℕ) (entries : List Entry) (long : Forms) (code : List ℕ) (n : ℕ) : Type 0 where
  pub is : code ≡ code_to base entries long n
  pub conditions : (k : ℕ) → k < n → has_condition (slice_get entries k) ≡ true

-- ---- ranges

-- the range of a Mark that is open, up to an address: none where it is empty
abbrev pub closed : Option OpenRange → ℕ → List Range
closed None here = []
closed (Some open_mark) here =
    if nat_lt open_mark.lo.0 here
    then record { lo = open_mark.lo; hi = record { 0 = here }; address = open_mark.address; node = open_mark.node } ∷
    [] else []

-- the range that an entry at an address closes, and the Mark that is open behind it
abbrev pub closes : ℕ → Option OpenRange → Entry → List Range
closes here mark (en.Item it.EndMark) = closed mark here
closes here mark _ = []

abbrev pub opens : ℕ → Option OpenRange → Entry → Option OpenRange
opens here mark (en.Item (it.Mark address node)) = Some (record {
  lo = record { 0 = here };
  address = address;
  node =
      node;
})
opens here mark (en.Item it.EndMark) = None
opens here mark _ = mark

-- the address of an entry
abbrev pub address_of : ℕ → List Entry → Forms → ℕ → ℕ
address_of base entries long n = base + 4 * offset entries long n

-- the ranges of entries, the first of which has the number n
abbrev pub ranges_from : (ℕ → ℕ) → ℕ → Option OpenRange → List Entry → List Range
ranges_from at n mark [] = []
ranges_from at n mark (x ∷ xs) = closes (at n) mark x ++ ranges_from at (suc n) (opens (at n) mark x) xs

-- ---- all of it

-- the addresses of pieces, from the words before each
abbrev pub addresses : ℕ → List ℕ → List Addr
addresses base at = map (λ n. record { 0 = base + 4 * n }) at

-- the fewest long forms, the words before each piece, and how many there are
pub record IsFormed (entries : List Entry) (forms : List Bool) (at : List ℕ) (all : ℕ) : Type 0 where
  pub len : length forms ≡ length entries
  pub widened : IsWidened entries (forms_in forms)
  pub offsets : IsOffsets entries (forms_in forms) at
  pub whole : all ≡ offset entries (forms_in forms) (length entries)

-- A pass that has widened so many: where it has widened none, none is left.
pub record IsPassed (entries : List Entry) (forms wide : List Bool) (at : List ℕ) (all widened : ℕ) : Type 0 where
  pub len : length wide ≡ length forms
  pub count : count_by (λ b. b) wide ≡ count_by (λ b. b) forms + widened
  pub offsets : IsOffsets entries (forms_in wide) at
  pub widening : IsWidening entries (forms_in wide)
  pub last : widened ≡ 0 → IsFormed entries wide at all

-- the code, addresses and ranges of entries
pub record IsPut (base : ℕ) (entries : List Entry) (starts : List ℕ) (long : Forms) (p : Placed) : Type 0 where
  pub emitted : IsEmitted base entries long p.code.items (length entries)
  pub at : p.at.items ≡ addresses base starts
  pub ranges : p.ranges.items ≡ ranges_from (address_of base entries long) 0 None entries

-- there is room for so many bytes, also where memory was wanting, or a fault tells that there isn't
abbrev pub FitsIn : Result Placed LayoutFault → ℕ → ℕ → Type 0
FitsIn (Ok p) bytes room = bytes ≤ room
FitsIn (Err (faults.Room needed had)) bytes room = (needed ≡ bytes) × (had ≡ room) × (room < needed)
FitsIn (Err faults.NoMemory) bytes room = bytes ≤ room
