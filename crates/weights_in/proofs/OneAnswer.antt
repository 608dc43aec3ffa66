-- Each text has one answer.
use Rattle.weights_in.proofs.Common.{◌≡◌, ◌≢◌, ℕ, ◌+◌, ◌==◌, ◌&&◌, if◌then◌else◌, Bool, true, false, List, [], ◌∷◌, ◌++◌, length, Option, Some, None, Result, Ok, Err, append_assoc, inl, inr, refl, ap, sym, subst, ◌∙◌, flat_map, sum_by, and_from, and_parts, eq-eqb, eqb-true, false_from_ne_true, Seen, Total, WeightFault, AreEntries, AreGood, Entry, IsBadEntry, IsBadTotal, IsBehind, IsEntry, IsGood, IsNoLine, IsRight, IsStray, IsTotal, entry_line, next_after, total_line, weights_of, Edge, Last, Said, next_of}
use Rattle.weights_in.specs.declared.reading.WeightFault.TheVariants as faults
use Rattle.weights_in.specs.Laws.{IsAnswer, TextsHaveOneAnswer}
use Rattle.weights_in.proofs.Lines.{next_back, next_read, IsNext}

-- what is said of one next line is one thing
module _ (found : Option (Said × List ℕ)) (entry : Entry) (after : List ℕ) (is : found ≡ Some (Edge entry, after)) where
  same_next : (said : Said) (rest : List ℕ) → found ≡ Some (said, rest)
      → ◌≡◌ {A = Said × List ℕ} (Edge entry, after) (said, rest)
  same_next said rest same = let one : Some (Edge entry, after) ≡ Some (said, rest) = sym is ∙ same in cc one

  same_said : (said : Said) (rest : List ℕ) → found ≡ Some (said, rest) → Edge entry ≡ said
  same_said said rest same = ap (λ (next : Said × List ℕ). next.0) (same_next said rest same)

  same_entry : (other : Entry) (rest : List ℕ) → found ≡ Some (Edge other, rest) → entry ≡ other
  same_entry other rest same = cc (same_said (Edge other) rest same)

  same_rest : (other : Entry) (rest : List ℕ) → found ≡ Some (Edge other, rest) → after ≡ rest
  same_rest other rest same = ap (λ (next : Said × List ℕ). next.1) (same_next (Edge other) rest same)

  not_last : (total : Total) (rest : List ℕ) → found ≡ Some (Last total, rest) → ⊥
  not_last total rest same = cc (same_said (Last total) rest same)

none_next : (bytes : List ℕ) → IsNoLine bytes → next_of bytes ≡ None
none_next bytes none = go (next_of bytes) refl
  where
    by_said : (said : Said) (after : List ℕ) → IsNext bytes said after → ⊥
    by_said (Edge entry) after is = none.entry entry after is.0 is.1
    by_said (Last total) after is = none.total total after is.0 is.1

    go : (found : Option (Said × List ℕ)) → next_of bytes ≡ found → found ≡ None
    go (Some next) is = absurd (by_said next.0 next.1 (next_read bytes next is))
    go None is = refl

module _ (view : Seen) where
  -- ---- the answer behind some entries, by what comes next

  abbrev is_right : List Entry → Total → Bool
  is_right entries total =
      (total.edges == length view.graph.edges) && (total.executions == sum_by (λ entry. entry.count) entries)

  abbrev at_end : List Entry → List ℕ → Result (List ℕ) WeightFault
  at_end entries [] = Ok (weights_of view entries)
  at_end entries (byte ∷ bytes) = Err (faults.Line (length entries + 2))

  abbrev by_said : List Entry → Said → List ℕ → Result (List ℕ) WeightFault
  by_said entries (Edge entry) after = Err (faults.Edge (length entries + 1))
  by_said entries (Last total) after =
      if is_right entries total then at_end entries after else Err (faults.Total (length entries + 1))

  abbrev by_next : List Entry → Option (Said × List ℕ) → Result (List ℕ) WeightFault
  by_next entries None = Err (faults.Line (length entries + 1))
  by_next entries (Some next) = by_said entries next.0 next.1

  right_true : (entries : List Entry) (total : Total) → IsRight view entries total → is_right entries total ≡ true
  right_true entries total right =
      and_from (total.edges == length view.graph.edges) (total.executions == sum_by (λ entry. entry.count) entries)
      (eq-eqb total.edges (length view.graph.edges) right.edges)
      (eq-eqb total.executions (sum_by (λ entry. entry.count) entries) right.executions)

  right_false : (entries : List Entry) (total : Total) → ¬ IsRight view entries total → is_right entries total ≡ false
  right_false entries total bad = false_from_ne_true (is_right entries total) (λ h.
      let parts =
      and_parts (total.edges == length view.graph.edges) (total.executions == sum_by (λ entry. entry.count) entries) h in
      bad (record {
        edges = eqb-true total.edges (length view.graph.edges) parts.0;
        executions = eqb-true total.executions (sum_by (λ entry. entry.count) entries) parts.1;
      }))

  some_behind : (entries : List Entry) (after : List ℕ) → after ≢ []
      → at_end entries after ≡ Err (faults.Line (length entries + 2))
  some_behind entries [] some = absurd (some refl)
  some_behind entries (byte ∷ bytes) some = refl

  -- ---- where reading stops

  -- no good entry comes first
  abbrev IsStop : ℕ → List ℕ → Type 0
  IsStop next rest =
      (entry : Entry) (after : List ℕ) → IsEntry entry → rest ≡ entry_line entry ++ after → ¬ IsGood view next entry

  record Stopped (bytes : List ℕ) (answer : Result (List ℕ) WeightFault) : Type 0 where
    entries : List Entry
    rest : List ℕ
    before : AreEntries view bytes entries rest
    stops : IsStop (next_after 0 entries) rest
    is : answer ≡ by_next entries (next_of rest)

  -- the last line is no entry
  stop_last : (next : ℕ) (total : Total) (after : List ℕ) → IsTotal total → IsStop next (total_line total ++ after)
  stop_last next total after is entry behind entry_is same good =
      let bytes : List ℕ = total_line total ++ after in
      not_last (next_of bytes) entry behind (next_back bytes behind (Edge entry) (entry_is, same)) total after
      (next_back bytes after (Last total) (is, refl))

  at_last : (entries : List Entry) (total : Total) (after : List ℕ) → IsTotal total
      → by_next entries (next_of (total_line total ++ after))
      ≡ (if is_right entries total then at_end entries after else Err (faults.Total (length entries + 1)))
  at_last entries total after is =
      ap (by_next entries) (next_back (total_line total ++ after) after (Last total) (is, refl))

  at_right : (entries : List Entry) (total : Total) (after : List ℕ) → IsTotal total → IsRight view entries total
      → by_next entries (next_of (total_line total ++ after)) ≡ at_end entries after
  at_right entries total after is right = at_last entries total after is ∙ rw (right_true entries total right) refl

  module _ (bytes : List ℕ) where
    stopped_line : (number : ℕ) → IsStray view bytes number → Stopped bytes (Err (faults.Line number))
    stopped_line number bad = record {
      entries = bad.entries;
      rest = bad.rest;
      before = bad.before;
      stops = λ entry after is same good. bad.none.entry entry after is same;
      is = ap (λ (n : ℕ). Err (faults.Line n)) bad.number_is
          ∙ sym (ap (by_next bad.entries) (none_next bad.rest bad.none));
    }

    stopped_behind : (number : ℕ) → IsBehind view bytes number → Stopped bytes (Err (faults.Line number))
    stopped_behind number bad = record {
      entries = bad.entries;
      rest = total_line bad.total ++ bad.rest;
      before = bad.before.entries_are;
      stops = stop_last (next_after 0 bad.entries) bad.total bad.rest bad.before.total_is;
      is = ap (λ (n : ℕ). Err (faults.Line n)) bad.number_is ∙ sym (some_behind bad.entries bad.rest bad.some)
          ∙ sym (at_right bad.entries bad.total bad.rest bad.before.total_is bad.before.right);
    }

    stopped_entry : (number : ℕ) → IsBadEntry view bytes number → Stopped bytes (Err (faults.Edge number))
    stopped_entry number bad =
        let rest : List ℕ = entry_line bad.entry ++ bad.rest in
        let here = next_back rest bad.rest (Edge bad.entry) (bad.entry_is, refl) in
        record {
          entries = bad.entries;
          rest = rest;
          before = bad.before;
          stops = λ entry after is same good.
              let there = next_back rest after (Edge entry) (is, same) in
              let one : entry ≡ bad.entry = same_entry (next_of rest) entry after there bad.entry bad.rest here in
              bad.bad (subst (λ (e : Entry). IsGood view (next_after 0 bad.entries) e) one good);
          is = ap (λ (n : ℕ). Err (faults.Edge n)) bad.number_is ∙ sym (ap (by_next bad.entries) here);
        }

    stopped_total : (number : ℕ) → IsBadTotal view bytes number → Stopped bytes (Err (faults.Total number))
    stopped_total number bad = record {
      entries = bad.entries;
      rest = total_line bad.total ++ bad.rest;
      before = bad.before;
      stops = stop_last (next_after 0 bad.entries) bad.total bad.rest bad.total_is;
      is = ap (λ (n : ℕ). Err (faults.Total n)) bad.number_is
          ∙ sym (at_last bad.entries bad.total bad.rest bad.total_is
          ∙ rw (right_false bad.entries bad.total bad.bad) refl);
    }

    stopped : (answer : Result (List ℕ) WeightFault) → answer ≢ Err faults.NoMemory → IsAnswer view bytes answer
        → Stopped bytes answer
    stopped (Ok weights) some (entries, total, lines, is) = record {
      entries = entries;
      rest = total_line total ++ [];
      before = lines.entries_are;
      stops = stop_last (next_after 0 entries) total [] lines.total_is;
      is = ap Ok is ∙ sym (at_right entries total [] lines.total_is lines.right);
    }
    stopped (Err (faults.Line number)) some bad =
        elim bad as (λ _. Stopped bytes (Err (faults.Line number))) [
          | inl stray ↦ stopped_line number stray
          | inr behind ↦ stopped_behind number behind
        ]
    stopped (Err (faults.Edge number)) some bad = stopped_entry number bad
    stopped (Err (faults.Total number)) some bad = stopped_total number bad
    stopped (Err faults.NoMemory) some bad = absurd (some refl)

  -- ---- it stops at one place

  record Same (entries : List Entry) (rest : List ℕ) (others : List Entry) (after : List ℕ) : Type 0 where
    entries_are : entries ≡ others
    rest_is : rest ≡ after

  entry_first : (entry : Entry) (entries : List Entry) (rest bytes : List ℕ)
      → bytes ≡ flat_map entry_line (entry ∷ entries) ++ rest
      → bytes ≡ entry_line entry ++ (flat_map entry_line entries ++ rest)
  entry_first entry entries rest bytes is = is ∙ append_assoc (entry_line entry) (flat_map entry_line entries) rest

  same_place : (bytes : List ℕ) (next : ℕ) (entries : List Entry) (rest : List ℕ) (others : List Entry) (after : List ℕ)
      → AreGood view next entries → AreGood view next others → bytes ≡ flat_map entry_line entries ++ rest
      → bytes ≡ flat_map entry_line others ++ after → IsStop (next_after next entries) rest
      → IsStop (next_after next others) after → Same entries rest others after
  same_place bytes next [] rest [] after good fine one other ends stops =
      record { entries_are = refl; rest_is = sym one ∙ other }
  same_place bytes next [] rest (entry ∷ others) after good fine one other ends stops =
      absurd (ends entry (flat_map entry_line others ++ after) fine.0
      (sym one ∙ entry_first entry others after bytes other) fine.1)
  same_place bytes next (entry ∷ entries) rest [] after good fine one other ends stops =
      absurd (stops entry (flat_map entry_line entries ++ rest) good.0
      (sym other ∙ entry_first entry entries rest bytes one) good.1)
  same_place bytes next (entry ∷ entries) rest (head ∷ others) after good fine one other ends stops =
      let mine : List ℕ = flat_map entry_line entries ++ rest in
      let theirs : List ℕ = flat_map entry_line others ++ after in
      let here = next_back bytes mine (Edge entry) (good.0, entry_first entry entries rest bytes one) in
      let there = next_back bytes theirs (Edge head) (fine.0, entry_first head others after bytes other) in
      let entry_is : head ≡ entry = same_entry (next_of bytes) head theirs there entry mine here in
      let rest_is : mine ≡ theirs = same_rest (next_of bytes) entry mine here head theirs there in
      let number : head.number + 1 ≡ entry.number + 1 = ap (λ (e : Entry). e.number + 1) entry_is in
      let later =
      same_place mine (entry.number + 1) entries rest others after good.2
      (subst (λ (n : ℕ). AreGood view n others) number fine.2) refl rest_is ends
      (subst (λ (n : ℕ). IsStop (next_after n others) after) number stops) in
      record {
        entries_are = ap (λ (e : Entry). e ∷ entries) (sym entry_is)
            ∙ ap (λ (es : List Entry). head ∷ es) later.entries_are;
        rest_is = later.rest_is;
      }

  same_answer : (bytes : List ℕ) (one other : Result (List ℕ) WeightFault) → Stopped bytes one → Stopped bytes other
      → one ≡ other
  same_answer bytes one other a b =
      let same =
      same_place bytes 0 a.entries a.rest b.entries b.rest a.before.good b.before.good a.before.is b.before.is a.stops
      b.stops in
      a.is ∙ ap (λ (es : List Entry). by_next es (next_of a.rest)) same.entries_are
      ∙ ap (λ (r : List ℕ). by_next b.entries (next_of r)) same.rest_is ∙ sym b.is

pub one_answer : TextsHaveOneAnswer
one_answer view bytes one other some any a b =
    same_answer view bytes one other (stopped view bytes one some a) (stopped view bytes other any b)
