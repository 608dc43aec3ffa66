-- What a script holds once some lines were read.
use Rattle.snippets.proofs.Common.{◌≡◌, ℕ, zero, suc, ◌+◌, ◌-◌, ◌<◌, ◌≤◌, ◌==◌, max, Bool, inl, inr, true, false, List, [], ◌∷◌, ◌++◌, ◌≢◌, append-nil, append_assoc, length, take, get_or, map, replicate, Result, Ok, Err, Some, None, refl, ap, ap₂, sym, ◌∙◌, arith, range_with_len, cases_lt, eqb-true, eq-eqb, ne_eqb, length-append, length-map, length-set, length-take, length-replicate, get_or-map, get_or-set_other, get_or-take, get_or_append_left, get_or_past, take-append-le, take-take, take_more, take-append_seam, take-length, get_or-append_seam, Op, Said, Nothing, Does, Wrong, Answers, IsFault, IsScript, IsFirstFault, IsGood, cell_end, edge_end, end_of, fault_of, on_edge, ops_on, snips_of, IsCause, cells_after, fault_in, ops_at, padded, said_of, snips_after, with_op}
use Rattle.std.proofs.lemmas.Grind.{get_or-set_at}
use Rattle.std.proofs.lemmas.List.FromFn.{fill_by_all, get_or-map-range_with_len, length-map-range_with_len}
use Rattle.std.specs.Result.{IsErrAnd}
use Rattle.snippets.specs.declared.script.Script.{Script}
use Rattle.snippets.specs.declared.script.ScriptFault.{ScriptFault}
use Rattle.snippets.specs.declared.script.ScriptFault.TheVariants as faults

pub record Held (edges : ℕ) (before : List Said) (snips : List (List Op)) (cells : ℕ) : Type 0 where
  pub good : IsGood edges before
  pub snips_are : snips ≡ snips_of before
  pub cells_are : cells ≡ end_of cell_end before

-- one line more

pub end-more : (end : Said → ℕ) (before : List Said) (line : Said)
    → end_of end (before ++ line ∷ []) ≡ max (end_of end before) (end line)
end-more end [] line = omega arith
end-more end (first ∷ before) line = let rest = end-more end before line in omega arith

pub ops-more : (edge : ℕ) (before : List Said) (line : Said)
    → ops_on edge (before ++ line ∷ []) ≡ ops_on edge before ++ on_edge edge line
ops-more edge [] line = append-nil (on_edge edge line)
ops-more edge (first ∷ before) line = rw (ops-more edge before line, append_assoc) refl

off_edge : (edge : ℕ) (line : Said) → edge_end line ≤ edge → on_edge edge line ≡ []
off_edge edge Nothing past = refl
off_edge edge (Does other op) past = rw (ne_eqb other edge (λ is. absurd (omega arith))) refl
off_edge edge Wrong past = refl

-- past the last edge that is named there are no operations
none_past : (before : List Said) (edge : ℕ) → end_of edge_end before ≤ edge → ops_on edge before ≡ []
none_past [] edge past = refl
none_past (line ∷ before) edge past =
    ap₂ (λ (xs ys : List Op). xs ++ ys) (off_edge edge line (omega arith)) (none_past before edge (omega arith))

-- the snippet of each edge
get-snips : (before : List Said) (edge : ℕ) → get_or (snips_of before) edge [] ≡ ops_on edge before
get-snips before edge =
    let end = end_of edge_end before in
    elim (cases_lt edge end) [
      | inl within ↦ get_or-map-range_with_len (λ e. ops_on e before) 0 end edge edge [] within (omega arith)
      | inr past ↦
          let long = length-map-range_with_len (λ e. ops_on e before) 0 end in
          get_or_past (snips_of before) edge [] (omega arith) ∙ sym (none_past before edge past)
    ]

empties : ℕ → List (List Op)
empties count = replicate count []

get-empties : (count k : ℕ) → get_or (empties count) k [] ≡ []
unfolding empties
get-empties zero k = refl
get-empties (suc count) zero = refl
get-empties (suc count) (suc k) = get-empties count k

get-padded : (snips : List (List Op)) (count k : ℕ) → get_or (snips ++ empties count) k [] ≡ get_or snips k []
get-padded [] count k = get-empties count k
get-padded (snip ∷ snips) count zero = refl
get-padded (snip ∷ snips) count (suc k) = get-padded snips count k

length-empties : (count : ℕ) → length (empties count) ≡ count
unfolding empties
length-empties count = length-replicate count []

-- an operation more
snips-op : (before : List Said) (edge : ℕ) (op : Op)
    → with_op edge op (snips_of before) ≡ snips_of (before ++ Does edge op ∷ [])
unfolding empties
snips-op before edge op =
    let snips = snips_of before in
    let last = end_of edge_end before in
    let after = before ++ Does edge op ∷ [] in
    let long = length-map-range_with_len (λ e. ops_on e before) 0 last in
    let fill = length-empties (edge + 1 - length snips) in
    let all = length-append snips (empties (edge + 1 - length snips)) in
    let kept = length-set (padded (edge + 1) snips) edge (get_or snips edge [] ++ op ∷ []) in
    let end = end-more edge_end before (Does edge op) in
    let size : length (with_op edge op snips) ≡ end_of edge_end after = omega arith in
    let room : edge < length (padded (edge + 1) snips) = omega arith in
    fill_by_all (λ e. ops_on e after) (with_op edge op snips) (end_of edge_end after) [] size
    (λ k below. at k (k == edge) refl room)
  where
    at : (k : ℕ) (b : Bool) → (k == edge) ≡ b → edge < length (padded (edge + 1) (snips_of before))
        → get_or (with_op edge op (snips_of before)) k [] ≡ ops_on k (before ++ Does edge op ∷ [])
    at k true is room =
        let same = eqb-true k edge is in
        let ops = ops_at edge (snips_of before) ++ op ∷ [] in
        get_or-set_at (padded (edge + 1) (snips_of before)) edge k ops [] same room
        ∙ ap (λ (ops : List Op). ops ++ op ∷ []) (get-snips before edge)
        ∙ sym (rw same (ops-more edge before (Does edge op) ∙ rw (eq-eqb edge edge refl) refl))
    at k false is room =
        let other : k ≢ edge = λ same. cc (sym is ∙ eq-eqb k edge same) in
        let apart = ne_eqb edge k (λ same. other (sym same)) in
        let ops = ops_at edge (snips_of before) ++ op ∷ [] in
        get_or-set_other (padded (edge + 1) (snips_of before)) edge k ops [] other
        ∙ get-padded (snips_of before) (edge + 1 - length (snips_of before)) k ∙ get-snips before k
        ∙ sym (ops-more k before (Does edge op) ∙ rw apart (append-nil (ops_on k before)))

snips-nothing : (before : List Said) → snips_of before ≡ snips_of (before ++ Nothing ∷ [])
snips-nothing before =
    let end = end-more edge_end before Nothing in
    let same : end_of edge_end before ≡ end_of edge_end (before ++ Nothing ∷ []) = omega arith in
    ap₂ (λ (ops : ℕ → List Op) (n : ℕ). map ops (range_with_len 0 n)) (λ i edge. ops_stay edge i) same
  where
    ops_stay : (edge : ℕ) → ops_on edge before ≡ ops_on edge (before ++ Nothing ∷ [])
    ops_stay edge = sym (ops-more edge before Nothing ∙ append-nil (ops_on edge before))

-- why the next line is bad, by the snippets so far
fault-same : (edges : ℕ) (before : List Said) (number : ℕ) (snips : List (List Op)) (line : Said)
    → number ≡ length before + 1 → snips ≡ snips_of before
    → fault_in edges number snips line ≡ fault_of edges before line
fault-same edges before number snips Nothing place same = refl
fault-same edges before number snips (Does edge op) place same =
    rw (same, get-snips before edge, place) refl
fault-same edges before number snips Wrong place same = rw place refl

good_more : (edges : ℕ) (before : List Said) (line : Said) → IsGood edges before → fault_of edges before line ≡ None
    → IsGood edges (before ++ line ∷ [])
good_more edges before line good next = λ k below. elim (cases_lt k (length before)) [
  | inl within ↦
      ap₂ (fault_of edges) (take-append-le k before (line ∷ []) (omega arith))
      (get_or_append_left before (line ∷ []) Nothing k within) ∙ good k within
  | inr past ↦
      let all = length-append before (line ∷ []) in
      let last : k ≡ length before = omega arith in
      let front = take-append_seam before (line ∷ []) in
      rw last (ap₂ (fault_of edges) front (get_or-append_seam before line [] Nothing) ∙ next)
]

held_more : (edges : ℕ) (before : List Said) (number : ℕ) (snips : List (List Op)) (cells : ℕ) (line : Said)
    → number ≡ length before + 1 → Held edges before snips cells → fault_in edges number snips line ≡ None
    → Held edges (before ++ line ∷ []) (snips_after line snips) (cells_after line cells)
held_more edges before number snips cells Nothing place held none = record {
  good = good_more edges before Nothing held.good refl;
  snips_are = held.snips_are ∙ snips-nothing before;
  cells_are = let end = end-more cell_end before Nothing in let cells_are = held.cells_are in omega arith;
}
held_more edges before number snips cells (Does edge op) place held none = record {
  good =
      let same = fault-same edges before number snips (Does edge op) place held.snips_are in
      good_more edges before (Does edge op) held.good (sym same ∙ none);
  snips_are = ap (with_op edge op) held.snips_are ∙ snips-op before edge op;
  cells_are = let end = end-more cell_end before (Does edge op) in let cells_are = held.cells_are in omega arith;
}
held_more edges before number snips cells Wrong place held none = absurd (cc none)

-- The lines of a text, one after the other.

-- What is held before the line with this number, from 0 on.
pub record At (edges number : ℕ) (lines : List (List ℕ)) (line : List ℕ) (snips : List (List Op)) (cells : ℕ)
    : Type 0 where
  pub within : number < length lines
  pub is : line ≡ get_or lines number line
  pub held : Held edges (take number (map said_of lines)) snips cells

pub at : (edges number count : ℕ) (lines : List (List ℕ)) (line : List ℕ) (snips : List (List Op)) (cells : ℕ)
    → number ≡ count → (count < length lines) × (line ≡ get_or lines count line)
    → Held edges (take number (map said_of lines)) snips cells → At edges number lines line snips cells
at edges number count lines line snips cells same here held =
    let there = rw (← same) at here in
    record { within = there.0; is = there.1; held = held }

next_said : (lines : List (List ℕ)) (n : ℕ) (line : List ℕ) → n < length lines → line ≡ get_or lines n line
    → get_or (map said_of lines) n Nothing ≡ said_of line
next_said lines n line below is = get_or-map said_of lines n line Nothing below ∙ ap said_of (sym is)

taken : (k n : ℕ) (said : List Said) → k < n → take k (take n said) ≡ take k said
taken k n said below = take-take k n said (omega arith)

module _ (edges number : ℕ) (lines : List (List ℕ)) (line : List ℕ) (snips : List (List Op)) (cells : ℕ)
    (now : At edges number lines line snips cells) where
  said : List Said
  said = map said_of lines

  within : number < length said
  unfolding said
  within = let below = now.within in let all = length-map lines said_of in omega arith

  place : number + 1 ≡ length (take number said) + 1
  place = let size = length-take number said in let below = within in omega arith

  here : get_or said number Nothing ≡ said_of line
  unfolding said
  here = next_said lines number line now.within now.is

  held : Held edges (take number said) snips cells
  unfolding said
  held = now.held

  -- where it isn't bad
  pub turned : (new_snips : List (List Op)) (new_cells : ℕ) → fault_in edges (number + 1) snips (said_of line) ≡ None
      → new_snips ≡ snips_after (said_of line) snips → new_cells ≡ cells_after (said_of line) cells
      → Held edges (take (number + 1) (map said_of lines)) new_snips new_cells
  unfolding said
  turned new_snips new_cells none snips_are cells_are =
      rw (snips_are, cells_are, take_more said number Nothing within, here)
      (held_more edges (take number said) (number + 1) snips cells (said_of line) place held none)

  -- where it is
  first_fault : (fault : ScriptFault) → fault_in edges (number + 1) snips (said_of line) ≡ Some fault
      → IsFirstFault edges said fault
  first_fault fault bad = record {
    place = number;
    within = within;
    is =
        let same = fault-same edges (take number said) (number + 1) snips (said_of line) place held.snips_are in
        ap (fault_of edges (take number said)) here ∙ sym same ∙ bad;
    first = λ k before.
        let front = sym (taken k number said before) in
        let size = length-take number said in
        let below = within in
        let fewer : k < length (take number said) = omega arith in
        ap₂ (fault_of edges) front (sym (get_or-take number said k Nothing before)) ∙ held.good k fewer;
  }

  by_fault : (fault : ScriptFault) → IsCause fault (fault_in edges (number + 1) snips (said_of line))
      → IsFault edges said fault
  by_fault faults.NoMemory cause = tt
  by_fault fault cause = first_fault fault cause

  pub stopped : (fault : ScriptFault) (result : Result Script ScriptFault)
      → IsCause fault (fault_in edges (number + 1) snips (said_of line)) → IsErrAnd result (λ other. other ≡ fault)
      → Answers edges (map said_of lines) result
  unfolding said
  stopped fault (Ok script) cause is = absurd is
  stopped fault (Err other) cause is = rw is (by_fault fault cause)

-- after the last line
pub finished : (edges number count : ℕ) (lines : List (List ℕ)) (script : Script) → number ≡ count
    → count ≡ length lines → Held edges (take number (map said_of lines)) script.snips.items script.cells
    → IsScript edges (map said_of lines) script
finished edges number count lines script same all held =
    let long = length-map lines said_of in
    let is = rw (same, all, ← long, take-length (map said_of lines)) at held in
    record { good = is.good; snips = is.snips_are; cells = is.cells_are }
