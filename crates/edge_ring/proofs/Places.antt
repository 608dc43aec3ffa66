-- Places that hold edges, or none, and the edges that they hold, as the code has them.
use Rattle.edge_ring.specs.Private.{edge_no_in}
use Rattle.edge_ring.proofs.Common.{◌≡◌, ℕ, zero, suc, ◌<◌, ◌≤◌, List, [], ◌∷◌, ◌++◌, length, take, drop, get_or, nat_lt, None, subst, arith, ◌+◌, ◌%◌, ◌^◌, map, refl, All, filter_map, position, flat_map, All-append, All-drop, All-head, All-tail, edge_in, round_from, edges_in, Notes, edge_line, ring_line, length-drop, length-map, Dump, dump_seen, notes_seen, bad_place, All-take, All-cons, All-nil, drop-append_seam, take-append_seam, Option, position_or_len, ltb-false, take-append-drop, get_or-map, ring_lines, edge_seen, next_place, IsWhole}
use Rattle.std.proofs.lemmas.List.Sums.{fails_before_first, passes_at_first}
use Rattle.std.proofs.lemmas.Bool.Decides.{nat_tests}
use Rattle.eel_base.specs.declared.numbers.EdgeNo.{EdgeNo}
use Rattle.dump_file.specs.declared.dump.Dump as declared_dump
use Rattle.notes.specs.declared.note.Notes as declared_notes
pub use Rattle.edge_ring.proofs.Examples.{no_edges}

-- ---- no place is bad just where each holds an edge or none

module _ (edges : ℕ) (places : List ℕ) where
  -- the first place that is bad, or how many there are
  abbrev first : ℕ
  first = position_or_len (λ entry. nat_lt edges entry) places

  abbrev bad : Option ℕ
  bad = position (λ entry. nat_lt edges entry) places

  pub all_good : bad ≡ None → All (λ entry. entry ≤ edges) places
  all_good is k d inside =
      let past : length places ≤ first = grind (arith, nat_tests) in
      ltb-false edges (get_or places k d)
      (fails_before_first (λ entry. nat_lt edges entry) places k d (omega (arith, past, inside)))

  pub none_bad : All (λ entry. entry ≤ edges) places → bad ≡ None
  none_bad all =
      let stops = passes_at_first (λ entry. nat_lt edges entry) places 0 in
      let fine = all first 0 in
      grind (arith, nat_tests, stops, fine)

-- ---- what holds of all places holds round them

pub all_first : (P : ℕ → Type 0) (xs ys : List ℕ) → All P (xs ++ ys) → All P xs
all_first P xs ys all = subst (All P) (take-append_seam xs ys) (All-take P (length xs) (xs ++ ys) all)

pub all_last : (P : ℕ → Type 0) (xs ys : List ℕ) → All P (xs ++ ys) → All P ys
all_last P xs ys all = subst (All P) (drop-append_seam xs ys) (All-drop P (length xs) (xs ++ ys) all)

module _ (P : ℕ → Type 0) (place : ℕ) (places : List ℕ) where
  pub round : All P places → All P (round_from place places)
  round all = All-append P (drop place places) (take place places) (All-drop P place places all) (All-take P place places all)

  pub unround : All P (round_from place places) → All P places
  unround all =
      subst (All P) (take-append-drop place places) (All-append P (take place places) (drop place places)
      (all_last P (drop place places) (take place places) all) (all_first P (drop place places) (take place places) all))

-- ---- the edges of good places are there

pub edges_inside : (edges : ℕ) (places : List ℕ) → All (λ entry. entry ≤ edges) places
    → All (λ edge. edge < edges) (filter_map edge_in places)
edges_inside edges [] all = All-nil (λ edge. edge < edges)
edges_inside edges (zero ∷ places) all =
    edges_inside edges places (All-tail (λ entry. entry ≤ edges) zero places all)
edges_inside edges (suc edge ∷ places) all =
    let inside = All-head (λ entry. entry ≤ edges) (suc edge) places all in
    All-cons (λ edge. edge < edges) edge (filter_map edge_in places) (omega (arith, inside))
    (edges_inside edges places (All-tail (λ entry. entry ≤ edges) (suc edge) places all))

-- ---- the edges that good places hold, as the code has them

abbrev pub number : EdgeNo → ℕ
number edge = edge.0

numbers_are : (entries : List ℕ) → map number (filter_map edge_no_in entries) ≡ filter_map edge_in entries
unfolding edge_no_in
numbers_are [] = refl
numbers_are (zero ∷ entries) = numbers_are entries
numbers_are (suc edge ∷ entries) = cc (numbers_are entries)

-- the place that is read from, as the code finds it
abbrev pub at : List ℕ → ℕ
at cells = get_or cells 0 0 % length (drop 1 cells)

pub held : (bits : ℕ) (cells older newer : List ℕ) (edges : List EdgeNo) → length cells ≡ 1 + 2 ^ bits
    → edges ≡ filter_map edge_no_in (older ++ newer) → older ≡ drop (at cells) (drop 1 cells)
    → newer ≡ take (at cells) (drop 1 cells) → map number edges ≡ edges_in bits cells
held bits cells older newer edges size are old new =
    let rest : length (drop 1 cells) ≡ 2 ^ bits = omega (arith, size, length-drop 1 cells) in
    rw (are, numbers_are (older ++ newer), old, new, rest) refl

pub inside : (n : declared_notes.Notes) (dump : Dump) (bits : ℕ) (edges : List EdgeNo) → IsWhole (notes_seen n) dump
    → map number edges ≡ edges_in bits dump.cells → All (λ edge. edge.0 < length n.edges.items) edges
inside n dump bits edges whole are k d within =
    let places = drop 1 dump.cells in
    let many = length-map n.edges.items edge_seen in
    let size = length (map edge_seen n.edges.items) in
    let all : All (λ edge. edge < size) (map number edges) =
    rw are (edges_inside size _ (round (λ entry. entry ≤ size) (next_place bits dump.cells) places
    (all_good size places whole.good))) in
    let below = all k d.0 (omega (arith, within, length-map edges number)) in
    omega (arith, below, many, get_or-map number edges k d d.0 within)

-- no place is bad, as the code finds it
pub none_bad_seen : (n : declared_notes.Notes) (d : declared_dump.Dump) (edges : ℕ) (cells : List ℕ)
    → edges ≡ length n.edges.items → cells ≡ d.cells.items → position (λ entry. nat_lt edges entry) (drop 1 cells) ≡ None
    → bad_place (notes_seen n) (dump_seen d) ≡ None
none_bad_seen n d edges cells many same none = rw (length-map n.edges.items edge_seen, ← many, ← same) none

-- ---- the lines of edges, by their numbers

by_number : (f : ℕ → List ℕ) (edges : List EdgeNo) → flat_map (λ edge. f edge.0) edges ≡ flat_map f (map number edges)
by_number f [] = refl
by_number f (edge ∷ edges) = cc (by_number f edges)

pub all_shown : (notes : Notes) (edges : List EdgeNo) (shown text : List ℕ)
    → shown ≡ flat_map (λ edge. edge_line notes edge.0) edges → text ≡ shown ++ ring_line notes (map number edges)
    → text ≡ ring_lines notes (map number edges)
unfolding ring_lines
all_shown notes edges shown text is all = rw (all, is, by_number (edge_line notes) edges) refl
