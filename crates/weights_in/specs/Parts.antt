-- The parts of which reading the lines of counts is made.
use Rattle.std.specs.Prelude.{◌≡◌, ◌≢◌, ℕ, ◌+◌, ◌*◌, ◌^◌, ◌<◌, ◌≤◌, ◌&&◌, nat_le, Bool, if◌then◌else◌, List, [], length, replicate, slice_set, codes, Option, Some, None, Result, Ok, Err, Vec}
use Rattle.std.specs.declared.alloc.Global.{Global}
use Rattle.std.specs.Option.{option_map}
use Rattle.std.specs.Str.{bytes_eq}
use Rattle.cfg_view.specs.View.{Seen}
use Rattle.line_words.specs.Words.{◌>>=◌, count_of, number_of, split_at, sum_of}
use Rattle.weights_in.specs.declared.line.EdgeLine.{EdgeLine}
use Rattle.weights_in.specs.declared.line.Total.{Total}
use Rattle.weights_in.specs.declared.line.Line.{Line}
use Rattle.weights_in.specs.declared.line.Line.TheVariants as lines
use Rattle.weights_in.specs.declared.reading.Reading.{Reading}
use Rattle.weights_in.specs.declared.reading.WeightFault.{WeightFault}
use Rattle.weights_in.specs.declared.reading.WeightFault.TheVariants as faults
use Rattle.weights_in.specs.Weights.{Entry, IsGood, is_kind, is_node, weight_of}

-- what a line says
pub data Said : Type 0 where
  Edge : Entry → Said
  Last : Total → Said

-- the line of an edge, without where its words stand
abbrev pub entry_in : EdgeLine → Entry
entry_in line =
    record { number = line.number; kind = line.kind.now; from = line.from.now; to = line.to.now; count = line.count }

abbrev pub said_in : Line → Said
said_in (lines.Edge line) = Edge (entry_in line)
said_in (lines.Last total) = Last total

-- what stands behind this word and a space
unfoldable pub behind : List ℕ → List ℕ → Option (List ℕ)
behind word line = do
  parts ← split_at 32 line
  if bytes_eq parts.0 word then Some parts.1 else None

abbrev pub is_spelled : Entry → Bool
is_spelled entry = is_kind entry.kind && is_node entry.from && is_node entry.to && nat_le 1 entry.count

abbrev pub if_spelled : Entry → Option Entry
if_spelled entry = if is_spelled entry then Some entry else None

-- the words behind `edge`
unfoldable pub entry_of : List ℕ → Option Entry
entry_of words = do
  first ← split_at 32 words
  number ← number_of first.0
  second ← split_at 32 first.1
  third ← split_at 32 second.1
  fourth ← split_at 32 third.1
  count ← count_of fourth.1
  if_spelled (record { number = number; kind = second.0; from = third.0; to = fourth.0; count = count })

-- the words behind `edges`
unfoldable pub total_of : List ℕ → Option Total
total_of words = do
  first ← split_at 32 words
  edges ← number_of first.0
  second ← behind (codes "counted") first.1
  third ← split_at 32 second
  counted ← number_of third.0
  last ← behind (codes "executions") third.1
  executions ← sum_of last
  Some (record { edges = edges; counted = counted; executions = executions })

abbrev pub said_by : List ℕ → List ℕ → Option Said
said_by verb words =
    if bytes_eq verb (codes "edge") then option_map Edge (entry_of words) else
    (if bytes_eq verb (codes "edges") then option_map Last (total_of words) else None)

unfoldable pub said_of : List ℕ → Option Said
said_of line = do
  parts ← split_at 32 line
  said_by parts.0 parts.1

-- the next line, and what follows
unfoldable pub next_of : List ℕ → Option (Said × List ℕ)
next_of bytes = do
  parts ← split_at 10 bytes
  said ← said_of parts.0
  Some (said, parts.1)

-- ---- what was read so far

-- what each part of it stays within
pub record IsWithin (view : Seen) (reading : Reading) : Type 0 where
  pub few : length view.graph.edges < 2 ^ 24
  pub lines : reading.lines ≤ reading.next
  pub next : reading.next ≤ length view.graph.edges
  pub weights : length reading.weights.items ≡ length view.graph.edges
  pub sum : reading.sum ≤ reading.lines * 2 ^ 64

pub record IsTaken (view : Seen) (entry : Entry) (old new : Reading) : Type 0 where
  pub good : IsGood view old.next entry
  pub within : IsWithin view new
  pub lines : new.lines ≡ old.lines + 1
  pub next : new.next ≡ entry.number + 1
  pub weights : new.weights.items ≡ slice_set old.weights.items entry.number (weight_of entry.count)
  pub sum : new.sum ≡ old.sum + entry.count

pub record IsFirst (view : Seen) (reading : Reading) : Type 0 where
  pub within : IsWithin view reading
  pub lines : reading.lines ≡ 0
  pub next : reading.next ≡ 0
  pub weights : reading.weights.items ≡ replicate (length view.graph.edges) 1
  pub sum : reading.sum ≡ 0

-- the last line counts the edges that there are, and the sum of what was read
abbrev pub IsRightFor : Seen → Reading → Total → Type 0
IsRightFor view reading total = (total.edges ≡ length view.graph.edges) × (total.executions ≡ reading.sum)

-- what is answered at the last line, with what follows it
abbrev pub IsEnd : Seen → Reading → Total → List ℕ → Result (Vec ℕ Global) WeightFault → Type 0
IsEnd view reading total rest (Ok weights) = IsRightFor view reading total × (rest ≡ []) × (weights ≡ reading.weights)
IsEnd view reading total rest (Err (faults.Line number)) =
    IsRightFor view reading total × (rest ≢ []) × (number ≡ reading.lines + 2)
IsEnd view reading total rest (Err (faults.Edge number)) = ⊥
IsEnd view reading total rest (Err (faults.Total number)) =
    (¬ IsRightFor view reading total) × (number ≡ reading.lines + 1)
IsEnd view reading total rest (Err faults.NoMemory) = ⊥
