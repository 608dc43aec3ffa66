-- Weights from the lines of counts. The lines are
--
--   edge N KIND FROM TO COUNT
--   edges E counted C executions S
--
-- the first for some edges, in the order of their numbers, and the second once, at the end. Each ends with a newline
-- and has one space between words. Numbers are decimal and have no needless zero in front. N, E and C are below 2^32,
-- COUNT is from 1 on and below 2^64, and S is below 2^128.
use Rattle.std.specs.Prelude.{◌≡◌, ◌≢◌, ℕ, ◌+◌, ◌^◌, ◌<◌, ◌≤◌, ◌==◌, ◌&&◌, ◌||◌, ◌⊎◌, Bool, true, min, if◌then◌else◌, List, [], ◌∷◌, ◌++◌, length, map, take, drop, codes, decimal, Some}
use Rattle.std.specs.List.{flat_map, list_any, range_with_len, slice_get, sum_by}
use Rattle.std.specs.Option.{is_some}
use Rattle.std.specs.Str.{bytes_eq}
use Rattle.line_words.specs.Registers.{hex_number_of}
use Rattle.cfg_normal.specs.declared.Edge.{Edge}
use Rattle.cfg_view.specs.View.{Seen}
use Rattle.show_text.specs.Lines.{kind_text, line, node_text}
use Rattle.weights_in.specs.declared.line.Total.{Total}
use Rattle.weights_in.specs.declared.reading.WeightFault.{WeightFault}
use Rattle.weights_in.specs.declared.reading.WeightFault.TheVariants as faults

-- ---- the lines

abbrev pub is_kind : List ℕ → Bool
is_kind word =
    list_any (bytes_eq word) (codes "fall" ∷ codes "taken" ∷ codes "untaken" ∷ codes "call" ∷ codes "out" ∷ codes "land"
    ∷ codes "case" ∷ [])

-- eight hexadecimal digits in small letters
abbrev pub is_address : List ℕ → Bool
is_address word = is_some (hex_number_of word)

-- `x`, an address, or an address and `+`
abbrev pub is_node : List ℕ → Bool
is_node word =
    bytes_eq word (codes "x") || is_address word
    || ((length word == 9) && bytes_eq (drop 8 word) (codes "+") && is_address (take 8 word))

-- what the line of an edge says: its number, its kind and its nodes as they are spelled, and its count
pub record Entry : Type 0 where
  pub number : ℕ
  pub kind : List ℕ
  pub from : List ℕ
  pub to : List ℕ
  pub count : ℕ

pub record IsEntry (entry : Entry) : Type 0 where
  pub number_fits : entry.number < 2 ^ 32
  pub kind_is : is_kind entry.kind ≡ true
  pub from_is : is_node entry.from ≡ true
  pub to_is : is_node entry.to ≡ true
  pub some : 1 ≤ entry.count
  pub count_fits : entry.count < 2 ^ 64

abbrev pub entry_line : Entry → List ℕ
entry_line entry =
    line (codes "edge" ∷ decimal entry.number ∷ entry.kind ∷ entry.from ∷ entry.to ∷ decimal entry.count ∷ [])

pub record IsTotal (total : Total) : Type 0 where
  pub edges_fit : total.edges < 2 ^ 32
  pub counted_fit : total.counted < 2 ^ 32
  pub executions_fit : total.executions < 2 ^ 128

abbrev pub total_line : Total → List ℕ
total_line total =
    line (codes "edges" ∷ decimal total.edges ∷ codes "counted" ∷ decimal total.counted ∷ codes "executions"
    ∷ decimal total.executions ∷ [])

-- ---- which are good

-- the words are those of the edge
pub record AreWordsOf (view : Seen) (edge : Edge) (entry : Entry) : Type 0 where
  pub kind : entry.kind ≡ kind_text edge.kind
  pub from : entry.from ≡ node_text view.image.text view.graph.blocks edge.from
  pub to : entry.to ≡ node_text view.image.text view.graph.blocks edge.to

-- the entry is that of an edge
abbrev pub IsEdgeOf : Seen → Entry → Type 0
IsEdgeOf view entry =
    (edge : Edge) × (slice_get view.graph.edges entry.number ≡ Some edge) × AreWordsOf view edge entry

-- and its number is this one or above
abbrev pub IsGood : Seen → ℕ → Entry → Type 0
IsGood view next entry = (next ≤ entry.number) × IsEdgeOf view entry

-- the number from which on an entry may have one behind these
abbrev pub next_after : ℕ → List Entry → ℕ
next_after next [] = next
next_after next (entry ∷ entries) = next_after (entry.number + 1) entries

abbrev pub AreGood : Seen → ℕ → List Entry → Type 0
AreGood view next [] = Unit {0}
AreGood view next (entry ∷ entries) =
    IsEntry entry × IsGood view next entry × AreGood view (entry.number + 1) entries

pub record IsRight (view : Seen) (entries : List Entry) (total : Total) : Type 0 where
  pub edges : total.edges ≡ length view.graph.edges
  pub executions : total.executions ≡ sum_by (λ entry. entry.count) entries

-- ---- the weights

-- how often an edge was completed: 0 where it has no entry
abbrev pub count_on : List Entry → ℕ → ℕ
count_on [] edge = 0
count_on (entry ∷ entries) edge = if entry.number == edge then entry.count else count_on entries edge

abbrev pub weight_of : ℕ → ℕ
weight_of count = min (2 ^ 32) (1 + count)

abbrev pub weights_of : Seen → List Entry → List ℕ
weights_of view entries =
    map (λ edge. weight_of (count_on entries edge)) (range_with_len 0 (length view.graph.edges))

-- The bytes begin with the lines of these entries, all of them good; then comes the rest.
pub record AreEntries (view : Seen) (bytes : List ℕ) (entries : List Entry) (rest : List ℕ) : Type 0 where
  pub is : bytes ≡ flat_map entry_line entries ++ rest
  pub good : AreGood view 0 entries

-- The bytes are the lines of these entries and this total, and then comes the rest; nothing in the lines is bad.
pub record AreLines (view : Seen) (bytes : List ℕ) (entries : List Entry) (total : Total) (rest : List ℕ) : Type 0 where
  pub entries_are : AreEntries view bytes entries (total_line total ++ rest)
  pub total_is : IsTotal total
  pub right : IsRight view entries total

abbrev pub AreWeights : Seen → List ℕ → List ℕ → Type 0
AreWeights view bytes weights =
    (entries : List Entry) × (total : Total) × AreLines view bytes entries total []
    × (weights ≡ weights_of view entries)

-- ---- the first bad line

-- No line comes first.
pub record IsNoLine (bytes : List ℕ) : Type 0 where
  pub entry : (entry : Entry) (after : List ℕ) → IsEntry entry → bytes ≢ entry_line entry ++ after
  pub total : (total : Total) (after : List ℕ) → IsTotal total → bytes ≢ total_line total ++ after

-- There is no line where one must be.
pub record IsStray (view : Seen) (bytes : List ℕ) (number : ℕ) : Type 0 where
  pub entries : List Entry
  pub rest : List ℕ
  pub before : AreEntries view bytes entries rest
  pub number_is : number ≡ length entries + 1
  pub none : IsNoLine rest

-- There is something behind the last line.
pub record IsBehind (view : Seen) (bytes : List ℕ) (number : ℕ) : Type 0 where
  pub entries : List Entry
  pub total : Total
  pub rest : List ℕ
  pub before : AreLines view bytes entries total rest
  pub number_is : number ≡ length entries + 2
  pub some : rest ≢ []

-- An entry isn't that of an edge, or has no number above the one before.
pub record IsBadEntry (view : Seen) (bytes : List ℕ) (number : ℕ) : Type 0 where
  pub entries : List Entry
  pub entry : Entry
  pub rest : List ℕ
  pub before : AreEntries view bytes entries (entry_line entry ++ rest)
  pub number_is : number ≡ length entries + 1
  pub entry_is : IsEntry entry
  pub bad : ¬ IsGood view (next_after 0 entries) entry

-- The last line counts other edges, or another sum.
pub record IsBadTotal (view : Seen) (bytes : List ℕ) (number : ℕ) : Type 0 where
  pub entries : List Entry
  pub total : Total
  pub rest : List ℕ
  pub before : AreEntries view bytes entries (total_line total ++ rest)
  pub number_is : number ≡ length entries + 1
  pub total_is : IsTotal total
  pub bad : ¬ IsRight view entries total

-- why there are no weights, with the number of the first bad line, from 1 on; want of memory may come at any time
abbrev pub AreRefused : Seen → List ℕ → WeightFault → Type 0
AreRefused view bytes (faults.Line number) = IsStray view bytes number ⊎ IsBehind view bytes number
AreRefused view bytes (faults.Edge number) = IsBadEntry view bytes number
AreRefused view bytes (faults.Total number) = IsBadTotal view bytes number
AreRefused view bytes faults.NoMemory = Unit {0}
