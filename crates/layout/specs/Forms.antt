-- The forms of Jumps and Branches, and the words that come before each part of a layout.
use Rattle.std.specs.Prelude.{◌≡◌, ℕ, zero, suc, ◌+◌, ◌^◌, Bool, true, false, ◌||◌, ◌==◌, nat_le, nat_lt, if◌then◌else◌, List, [], ◌∷◌, ◌++◌, map, slice_get, slice_index_or, Option, Some, None}
use Rattle.std.specs.Option.{option_map}
use Rattle.eel_base.specs.declared.numbers.PieceNo.{PieceNo}
use Rattle.layout.specs.declared.items.Item.{Item}
use Rattle.layout.specs.declared.items.Item.TheVariants as it
use Rattle.layout.specs.declared.entries.Entry.{Entry}
use Rattle.layout.specs.declared.entries.Entry.TheVariants as en
use Rattle.layout.specs.Order.{compact_order}

-- ---- what is laid, in one list: of each piece its start, then its items

abbrev pub entries_in : ℕ → List Item → List Entry
entries_in k items = en.Start (record { 0 = k }) ∷ map en.Item items

abbrev pub entries_from : List (List Item) → List ℕ → List Entry
entries_from pieces [] = []
entries_from pieces (k ∷ ks) = entries_in k (slice_index_or pieces k []) ++ entries_from pieces ks

abbrev pub entries_of : List (List Item) → List Entry
entries_of pieces = entries_from pieces (compact_order pieces)

abbrev pub is_start : ℕ → Entry → Bool
is_start k (en.Start j) = k == j.0
is_start k _ = false

-- the number of the entry with which a piece starts
abbrev pub start_of : List Entry → ℕ → ℕ
start_of [] k = 0
start_of (x ∷ xs) k = if is_start k x then 0 else suc (start_of xs k)

-- ---- words

-- whether each entry, by its number, has the long form
abbrev pub Forms : Type 0
Forms = ℕ → Bool

-- the next entry is the start of the piece to which a Jump leads
abbrev pub leads_next : PieceNo → Option Entry → Bool
leads_next to (Some (en.Start k)) = to.0 == k.0
leads_next to _ = false

-- How many words an entry takes before the next one: a Jump none where its target is laid next, else one, or four in
-- its long form; a Branch two, or six in its long form.
abbrev pub width : Bool → Option Entry → Option Entry → ℕ
width long (Some (en.Item (it.Word word))) next = 1
width long (Some (en.Item (it.Jump to))) next = if leads_next to next then 0 else (if long then 4 else 1)
width long (Some (en.Item (it.Branch cond to))) next = if long then 6 else 2
width long _ next = 0

-- the words before entry n
unfoldable pub offset : List Entry → Forms → ℕ → ℕ
offset entries long zero = 0
offset entries long (suc n) = offset entries long n + width (long n) (slice_get entries n) (slice_get entries (suc n))

-- ---- distances

-- the piece to which an entry leads
abbrev pub target : Option Entry → Option ℕ
target (Some (en.Item (it.Jump to))) = Some to.0
target (Some (en.Item (it.Branch cond to))) = Some to.0
target _ = None

-- where the piece starts to which entry n leads
abbrev pub goal_of : List Entry → ℕ → Option ℕ
goal_of entries n = option_map (start_of entries) (target (slice_get entries n))

-- a distance from a word to another doesn't fit 22 signed bits
abbrev pub far : ℕ → ℕ → Bool
far from to = nat_le (from + 2 ^ 21) to || nat_lt (to + 2 ^ 21) from

abbrev pub far_from : List Entry → Forms → ℕ → Option ℕ → Bool
far_from entries long n None = false
far_from entries long n (Some m) = far (offset entries long n) (offset entries long m)

-- the piece to which entry n leads is out of reach of its short form
abbrev pub out_of_reach : List Entry → Forms → ℕ → Bool
out_of_reach entries long n = far_from entries long n (goal_of entries n)

-- ---- the forms

-- each that is out of reach is long
abbrev pub NoneLeft : List Entry → Forms → Type 0
NoneLeft entries long = (n : ℕ) → out_of_reach entries long n ≡ true → long n ≡ true

-- The long forms are just those whose distance doesn't fit in the end, and the fewest with which none is left.
pub record IsWidened (entries : List Entry) (long : Forms) : Type 0 where
  pub none_left : NoneLeft entries long
  pub needed : (n : ℕ) → long n ≡ true → out_of_reach entries long n ≡ true
  pub fewest : (other : Forms) → NoneLeft entries other → (n : ℕ) → long n ≡ true → other n ≡ true
