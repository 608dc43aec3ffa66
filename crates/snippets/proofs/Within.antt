-- A script without a bad line keeps its limits.
use Rattle.std.proofs.Math.Nat.{le_refl, le_trans}
use Rattle.snippets.proofs.Common.{◌≡◌, ℕ, zero, suc, ◌+◌, ◌<◌, ◌≤◌, ◌^◌, ◌==◌, Bool, true, false, if◌then◌else◌, List, [], ◌∷◌, ◌++◌, append-nil, length, take, get_or, Some, None, refl, ap, subst, ◌∙◌, arith, eqb-true, leb-false, ltb-false, cond_both, length-append, take_more, take-length, Op, Add, Put, Keep, Top, Count, Log, WorksBelow, WorksIn, cells_end, AllSay, IsSpelled, Says, Said, Nothing, Does, Wrong, IsWithin, IsGood, cell_end, edge_end, end_of, fault_of, on_edge, ops_on}
use Rattle.std.specs.Prelude.{nat_le, nat_lt}
use Rattle.std.proofs.lemmas.List.Elements.{All-append}
use Rattle.snippets.proofs.Held.{end-more, ops-more}

works_more : (m n : ℕ) (op : Op) → m ≤ n → WorksIn m op → WorksIn n op
works_more m n (Log cell bits value) few works = (works.0, works.1, omega (arith, works.2))
works_more m n op few works = le_trans works few

-- an operation works below its end
works_own : (op : Op) → IsSpelled op → WorksIn (cells_end op) op
works_own (Log cell bits value) fits = absurd fits
works_own op fits = le_refl _

below_more : (m n : ℕ) (ops : List Op) → m ≤ n → WorksBelow m ops → WorksBelow n ops
below_more m n ops few below = λ k d within. works_more m n (get_or ops k d) few (below k d within)

pub none_below : (n : ℕ) → WorksBelow n []
none_below n = λ k d within. absurd (omega arith)

below_one : (edge : ℕ) (line : List ℕ) (said : Said) → Says line said → WorksBelow (cell_end said) (on_edge edge said)
below_one edge line Nothing says = none_below 0
below_one edge line (Does other op) says = by_test (other == edge)
  where
    by_test : (b : Bool) → WorksBelow (cells_end op) (if b then op ∷ [] else [])
    by_test true zero d within = works_own op says.op_fits
    by_test true (suc k) d within = absurd (omega arith)
    by_test false k d within = absurd (omega arith)
below_one edge line Wrong says = none_below 0

-- cells are below their number
cells_below : (edge : ℕ) (lines : List (List ℕ)) (said : List Said) → AllSay lines said
    → WorksBelow (end_of cell_end said) (ops_on edge said)
cells_below edge lines [] all = none_below 0
cells_below edge [] (first ∷ said) all = absurd all
cells_below edge (line ∷ lines) (first ∷ said) all =
    let end = end_of cell_end (first ∷ said) in
    let one = below_one edge line first all.0 in
    let here = below_more (cell_end first) end (on_edge edge first) (omega arith) one in
    let others = cells_below edge lines said all.1 in
    let rest = below_more (end_of cell_end said) end (ops_on edge said) (omega arith) others in
    All-append (WorksIn end) (on_edge edge first) (ops_on edge said) here rest

-- The limits that a bad line would break.
record Kept (edges : ℕ) (said : List Said) : Type 0 where
  edges_there : end_of edge_end said ≤ edges
  cells_few : end_of cell_end said ≤ 2 ^ 22
  ops_few : (edge : ℕ) → length (ops_on edge said) ≤ 8

-- none of three tests is met
record Passes (a b c : Bool) : Type 0 where
  first : a ≡ false
  second : b ≡ false
  third : c ≡ false

passes : {A : Type 0} (a b c : Bool) (x y z : A)
    → (if a then Some x else (if b then Some y else (if c then Some z else None))) ≡ None → Passes a b c
passes true b c x y z h = absurd (cc h)
passes false true c x y z h = absurd (cc h)
passes false false true x y z h = absurd (cc h)
passes false false false x y z h = record { first = refl; second = refl; third = refl }

one_more : (edge other : ℕ) (op : Op) (before : List Op) → (other ≡ edge → length before < 8) → length before ≤ 8
    → length (before ++ on_edge edge (Does other op)) ≤ 8
one_more edge other op before room few = cond_both (other == edge) (op ∷ []) [] (λ more. length (before ++ more) ≤ 8)
    (λ is. omega (arith, length-append before (op ∷ []), room (eqb-true other edge is)))
    (λ is. rw (append-nil before) few)

kept_more : (edges : ℕ) (before : List Said) (line : Said) → Kept edges before → fault_of edges before line ≡ None
    → Kept edges (before ++ line ∷ [])
kept_more edges before Nothing kept none =
    let edge = end-more edge_end before Nothing in
    let cell = end-more cell_end before Nothing in
    let edges_there = kept.edges_there in
    let cells_few = kept.cells_few in
    record {
      edges_there = omega arith;
      cells_few = omega arith;
      ops_few = λ e. rw (ops-more e before Nothing ∙ append-nil (ops_on e before)) (kept.ops_few e);
    }
kept_more edges before (Does edge op) kept none =
    let tests =
    passes (nat_le edges edge) (nat_lt (2 ^ 22) (cells_end op)) (nat_le 8 (length (ops_on edge before)))
    _ _ _ none in
    let there = leb-false edges edge tests.first in
    let low = ltb-false (2 ^ 22) (cells_end op) tests.second in
    let room = leb-false 8 (length (ops_on edge before)) tests.third in
    let edge_is = end-more edge_end before (Does edge op) in
    let cell_is = end-more cell_end before (Does edge op) in
    let edges_there = kept.edges_there in
    let cells_few = kept.cells_few in
    record {
      edges_there = omega arith;
      cells_few = omega arith;
      ops_few = λ e.
          rw (ops-more e before (Does edge op))
          (one_more e edge op (ops_on e before) (λ same. rw same at room) (kept.ops_few e));
    }
kept_more edges before Wrong kept none = absurd (cc none)

kept_so_far : (edges : ℕ) (said : List Said) → IsGood edges said → (k : ℕ) → k ≤ length said
    → Kept edges (take k said)
kept_so_far edges said good zero within =
    record { edges_there = omega arith; cells_few = omega arith; ops_few = λ e. omega arith }
kept_so_far edges said good (suc k) within =
    let before = kept_so_far edges said good k (omega arith) in
    let one : suc k ≡ k + 1 = omega arith in
    let more : take (suc k) said ≡ take k said ++ get_or said k Nothing ∷ [] =
    ap (λ (n : ℕ). take n said) one ∙ take_more said k Nothing (omega arith) in
    rw more (kept_more edges (take k said) (get_or said k Nothing) before (good k (omega arith)))

pub good_within : (edges : ℕ) (lines : List (List ℕ)) (said : List Said) → AllSay lines said → IsGood edges said
    → IsWithin edges said
good_within edges lines said all good =
    let kept = subst (Kept edges) (take-length said) (kept_so_far edges said good (length said) (omega arith)) in
    record {
      edges_there = kept.edges_there;
      cells_few = kept.cells_few;
      cells_below = λ edge. cells_below edge lines said all;
      ops_few = kept.ops_few;
    }
