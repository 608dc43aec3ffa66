-- What was read once some lines were taken.
use Rattle.weights_in.proofs.Common.{◌≡◌, ℕ, ◌+◌, ◌<◌, ◌≤◌, ◌^◌, ◌==◌, if◌then◌else◌, Bool, true, false, List, [], ◌∷◌, ◌++◌, length, get_or, set, Some, Result, Ok, Err, inr, append_assoc, refl, ap, sym, subst, ◌∙◌, arith, IfErr, IfOk, Vec, All, flat_map, sum_by, eq-eqb, eqb-true, ne_eqb, get_or-replicate, get_or-set_other, length-append, Seen, Total, WeightFault, AreEntries, AreGood, AreLines, AreRefused, AreWeights, Entry, IsBadEntry, IsEntry, IsGood, IsNoLine, IsStray, IsTotal, count_on, entry_line, next_after, total_line, weight_of, weights_of, IsEnd, IsFirst, IsTaken, IsWithin, Said, next_of, said_in}
use Rattle.std.specs.declared.alloc.Global.{Global}
use Rattle.std.specs.Result.{IsErrAnd}
use Rattle.std.proofs.lemmas.Grind.{get_or-set_at}
use Rattle.std.proofs.lemmas.List.Sums.{sum_by_push}
use Rattle.std.proofs.lemmas.List.FromFn.{fill_by_all, get_or-map-range_with_len, length-map-range_with_len}
use Rattle.weights_in.specs.declared.line.Line.{Line}
use Rattle.weights_in.specs.declared.reading.Reading.{Reading}
use Rattle.weights_in.specs.declared.reading.WeightFault.TheVariants as faults
use Rattle.weights_in.proofs.Lines.{next_read, IsNext}

pub record IsRead (view : Seen) (bytes : List ℕ) (reading : Reading) (rest : List ℕ) : Type 0 where
  pub entries : List Entry
  pub before : AreEntries view bytes entries rest
  pub lines : reading.lines ≡ length entries
  pub next : reading.next ≡ next_after 0 entries
  pub sum_is : reading.sum ≡ sum_by (λ entry. entry.count) entries
  pub weights : (edge : ℕ) → edge < length view.graph.edges
      → get_or reading.weights.items edge 0 ≡ weight_of (count_on entries edge)
  pub within : IsWithin view reading

-- what is answered
pub record Answers (view : Seen) (bytes : List ℕ) (result : Result (Vec ℕ Global) WeightFault) : Type 0 where
  pub weights : IfOk result (λ weights. AreWeights view bytes weights.items)
  pub refused : IfErr result (AreRefused view bytes)

pub first : (view : Seen) (bytes : List ℕ) (reading : Reading) → IsFirst view reading → IsRead view bytes reading bytes
first view bytes reading is = record {
  entries = [];
  before = record { is = refl; good = tt };
  lines = is.lines;
  next = is.next;
  sum_is = is.sum;
  weights = λ edge inside.
      rw (is.weights, get_or-replicate {A = ℕ} (length view.graph.edges) edge 1 0 inside) (omega arith);
  within = is.within;
}

-- ---- a line more

lines_push : (entries : List Entry) (entry : Entry) (after : List ℕ)
    → flat_map entry_line (entries ++ entry ∷ []) ++ after ≡ flat_map entry_line entries ++ (entry_line entry ++ after)
lines_push [] entry after = append_assoc (entry_line entry) [] after
lines_push (head ∷ entries) entry after =
    append_assoc (entry_line head) (flat_map entry_line (entries ++ entry ∷ [])) after
    ∙ ap (λ (rest : List ℕ). entry_line head ++ rest) (lines_push entries entry after)
    ∙ sym (append_assoc (entry_line head) (flat_map entry_line entries) (entry_line entry ++ after))

next_push : (next : ℕ) (entries : List Entry) (entry : Entry)
    → next_after next (entries ++ entry ∷ []) ≡ entry.number + 1
next_push next [] entry = refl
next_push next (head ∷ entries) entry = next_push (head.number + 1) entries entry

module _ (view : Seen) where
  good_push : (next : ℕ) (entries : List Entry) (entry : Entry) → AreGood view next entries → IsEntry entry
      → IsGood view (next_after next entries) entry → AreGood view next (entries ++ entry ∷ [])
  good_push next [] entry good is one = (is, one, tt)
  good_push next (head ∷ entries) entry good is one =
      (good.0, good.1, good_push (head.number + 1) entries entry good.2 is one)

  le_next : (next : ℕ) (entries : List Entry) → AreGood view next entries → next ≤ next_after next entries
  le_next next [] good = omega arith
  le_next next (head ∷ entries) good =
      let here = good.1.0 in let later = le_next (head.number + 1) entries good.2 in omega arith

  count_push : (next : ℕ) (entries : List Entry) (entry : Entry) → AreGood view next entries
      → next_after next entries ≤ entry.number → (edge : ℕ)
      → count_on (entries ++ entry ∷ []) edge ≡ (if entry.number == edge then entry.count else count_on entries edge)
  count_push next [] entry good above edge = refl
  count_push next (head ∷ entries) entry good above edge =
      let later = le_next (head.number + 1) entries good.2 in
      by_test (head.number == edge) refl (omega arith) (count_push (head.number + 1) entries entry good.2 above edge)
    where
      by_test : (b : Bool) → (head.number == edge) ≡ b → head.number < entry.number
          → count_on (entries ++ entry ∷ []) edge ≡ (if entry.number == edge then entry.count else count_on entries edge)
          → (if b then head.count else count_on (entries ++ entry ∷ []) edge)
          ≡ (if entry.number == edge then entry.count else (if b then head.count else count_on entries edge))
      by_test true is below rest =
          let same = eqb-true head.number edge is in
          rw (ne_eqb entry.number edge (λ e. absurd (omega arith))) refl
      by_test false is below rest = rest

weight_set : (weights : List ℕ) (number edge count before : ℕ) → number < length weights
    → get_or weights edge 0 ≡ weight_of before
    → get_or (set weights number (weight_of count)) edge 0 ≡ weight_of (if number == edge then count else before)
weight_set weights number edge count before inside is = by_test (number == edge) refl
  where
    by_test : (b : Bool) → (number == edge) ≡ b
        → get_or (set weights number (weight_of count)) edge 0 ≡ weight_of (if b then count else before)
    by_test true same =
        let at = eqb-true number edge same in
        get_or-set_at weights number edge (weight_of count) 0 (sym at) inside
    by_test false other =
        get_or-set_other weights number edge (weight_of count) 0
        (λ at. cc (sym other ∙ eq-eqb number edge (sym at))) ∙ is

module _ (view : Seen) (bytes : List ℕ) (reading : Reading) (rest : List ℕ) (read : IsRead view bytes reading rest) where
  at_entry : (entry : Entry) (after : List ℕ) → rest ≡ entry_line entry ++ after
      → bytes ≡ flat_map entry_line read.entries ++ (entry_line entry ++ after)
  at_entry entry after line = read.before.is ∙ ap (λ (r : List ℕ). flat_map entry_line read.entries ++ r) line

  pub more : (entry : Entry) (after : List ℕ) (new : Reading) → IsEntry entry → rest ≡ entry_line entry ++ after
      → IsTaken view entry reading new → IsRead view bytes new after
  more entry after new is line taken =
      let good = subst (λ (n : ℕ). IsGood view n entry) read.next taken.good in
      let more : List Entry = read.entries ++ entry ∷ [] in
      let long = length-append read.entries (entry ∷ []) in
      let inside : entry.number < length reading.weights.items =
      let a = taken.next in let b = taken.within.next in let c = read.within.weights in omega arith in
      record {
        entries = more;
        before = record {
          is = at_entry entry after line ∙ sym (lines_push read.entries entry after);
          good = good_push view 0 read.entries entry read.before.good is good;
        };
        lines = let a = taken.lines in let b = read.lines in omega arith;
        next = taken.next ∙ sym (next_push 0 read.entries entry);
        sum_is = taken.sum ∙ ap (λ (n : ℕ). n + entry.count) read.sum_is
            ∙ sym (sum_by_push (λ (e : Entry). e.count) read.entries entry);
        weights = λ edge within.
            ap (λ (w : List ℕ). get_or w edge 0) taken.weights
            ∙ weight_set reading.weights.items entry.number edge entry.count (count_on read.entries edge) inside
            (read.weights edge within)
            ∙ ap weight_of (sym (count_push view 0 read.entries entry read.before.good good.0 edge));
        within = taken.within;
      }

  -- ---- where reading stops

  pub stray : (number : ℕ) → IsNoLine rest → number ≡ reading.lines + 1 → IsStray view bytes number
  stray number none is = record {
    entries = read.entries;
    rest = rest;
    before = read.before;
    number_is = let a = read.lines in omega arith;
    none = none;
  }

  pub bad_entry : (number : ℕ) (entry : Entry) (after : List ℕ) → IsEntry entry → rest ≡ entry_line entry ++ after
      → ¬ IsGood view reading.next entry → number ≡ reading.lines + 1 → IsBadEntry view bytes number
  bad_entry number entry after is line bad number_is = record {
    entries = read.entries;
    entry = entry;
    rest = after;
    before = record { is = at_entry entry after line; good = read.before.good };
    number_is = let a = read.lines in omega arith;
    entry_is = is;
    bad = λ good. bad (subst (λ (n : ℕ). IsGood view n entry) (sym read.next) good);
  }

  weights_are : reading.weights.items ≡ weights_of view read.entries
  weights_are =
      fill_by_all (λ edge. weight_of (count_on read.entries edge)) reading.weights.items (length view.graph.edges) 0
      read.within.weights read.weights

  module _ (total : Total) (is : IsTotal total) (after : List ℕ) (line : rest ≡ total_line total ++ after) where
    at_total : AreEntries view bytes read.entries (total_line total ++ after)
    at_total = record {
      is = read.before.is ∙ ap (λ (r : List ℕ). flat_map entry_line read.entries ++ r) line;
      good = read.before.good;
    }

    pub whole_lines : (total.edges ≡ length view.graph.edges) × (total.executions ≡ reading.sum)
        → AreLines view bytes read.entries total after
    whole_lines right = record {
      entries_are = at_total;
      total_is = is;
      right = record { edges = right.0; executions = right.1 ∙ read.sum_is };
    }

    -- what is answered at the last line
    pub ended : (result : Result (Vec ℕ Global) WeightFault) → IsEnd view reading total after result
        → Answers view bytes result
    ended (Ok weights) end = record {
      weights = (
        read.entries,
        total,
        subst (λ (r : List ℕ). AreLines view bytes read.entries total r) end.1 (whole_lines end.0),
        ap (λ (w : Vec ℕ Global). w.items) end.2 ∙ weights_are,
      );
      refused = tt;
    }
    ended (Err (faults.Line number)) end = record {
      weights = tt;
      refused = inr (record {
        entries = read.entries;
        total = total;
        rest = after;
        before = whole_lines end.0;
        number_is = let a = read.lines in let b = end.2 in omega arith;
        some = end.1;
      });
    }
    ended (Err (faults.Edge number)) end = absurd end
    ended (Err (faults.Total number)) end = record {
      weights = tt;
      refused = record {
        entries = read.entries;
        total = total;
        rest = after;
        before = at_total;
        number_is = let a = read.lines in let b = end.1 in omega arith;
        total_is = is;
        bad = λ right. end.0 (right.edges, right.executions ∙ sym read.sum_is);
      };
    }
    ended (Err faults.NoMemory) end = absurd end

-- ---- steps of the loop

pub next_said : (bytes : List ℕ) (line : Line) (after : List ℕ) (said : Said)
    → Some (said_in line, after) ≡ next_of bytes → said_in line ≡ said → IsNext bytes said after
next_said bytes line after said read is =
    subst (λ (s : Said). IsNext bytes s after) is (next_read bytes (said_in line, after) (sym read))

pub shorter : (entry : Entry) (rest after : List ℕ) → rest ≡ entry_line entry ++ after → length after < length rest
shorter entry rest after is =
    let long = length-append (entry_line entry) after in
    let same = ap length is in
    omega arith

pub fault_out : {T : Type 0} (view : Seen) (bytes : List ℕ) (fault : WeightFault) (result : Result T WeightFault)
    → IsErrAnd result (λ other. other ≡ fault) → AreRefused view bytes fault → IfErr result (AreRefused view bytes)
fault_out view bytes fault (Ok x) is why = tt
fault_out view bytes fault (Err other) is why = subst (AreRefused view bytes) (sym is) why

-- ---- what is so of all weights

pub len_is : (view : Seen) (bytes weights : List ℕ) → AreWeights view bytes weights
    → length weights ≡ length view.graph.edges
len_is view bytes weights are =
    ap length are.3
    ∙ length-map-range_with_len (λ edge. weight_of (count_on are.0 edge)) 0 (length view.graph.edges)

pub most_is : (view : Seen) (bytes weights : List ℕ) → AreWeights view bytes weights
    → All (λ weight. weight ≤ 2 ^ 32) weights
most_is view bytes weights are k d inside =
    let count = length view.graph.edges in
    let long = len_is view bytes weights are in
    let here : get_or weights k d ≡ weight_of (count_on are.0 k) =
    ap (λ (w : List ℕ). get_or w k d) are.3
    ∙ get_or-map-range_with_len (λ edge. weight_of (count_on are.0 edge)) 0 count k k d (omega arith) (omega arith) in
    omega arith

pub most_out : (view : Seen) (bytes : List ℕ) (result : Result (Vec ℕ Global) WeightFault) → Answers view bytes result
    → IfOk result (λ weights. All (λ weight. weight ≤ 2 ^ 32) weights.items)
most_out view bytes (Ok weights) are = most_is view bytes weights.items are.weights
most_out view bytes (Err fault) are = tt
