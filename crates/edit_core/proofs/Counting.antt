-- The entries of tables, counted by the edges along which they lead.
use Rattle.edit_core.proofs.Common.{◌≡◌, ℕ, each, ◌+◌, ◌^◌, ◌≤◌, ◌==◌, ◌&&◌, Bool, true, false, cond, nat_eq, Option, Some, List, [], ◌∷◌, length, length-append, refl, ap, arith, if◌then◌else◌, count_by, range_with_len, sum_by, and_parts, eqb-true, nat_tests, count_by-le-length, sum_by-cons, Node, Block, Landed, X, Graph, lands, IsGraph, IsNodeIn, same_node, node_number, Open, is_at, length-range_with_len, sum_by-append, targets_in, CaseKey, case_key, count_of, entries_with, is_entry, same_key, cases_Bool, inl, inr, ◌++◌}
use Rattle.std.proofs.lemmas.List.FromFn.{map-range_with_len_more}
use Rattle.std.proofs.lemmas.List.Sums.{sum_by_push}
use Rattle.std.proofs.lemmas.List.{map-id}
use Rattle.cfg_walk.proofs.Nodes.{lands_in}
use Rattle.image_code.proofs.OpenSums.{count_none}

-- ---- counts

count_same : (p q : ℕ → Bool) (xs : List ℕ) → ((x : ℕ) → p x ≡ q x) → count_by p xs ≡ count_by q xs
count_same p q [] h = refl
count_same p q (x ∷ xs) h = grind (arith, cond)

-- one more
pub range_more : (p : ℕ → Bool) (from n : ℕ)
    → count_by p (range_with_len from (n + 1)) ≡ (if p (from + n) then 1 else 0) + count_by p (range_with_len from n)
range_more p from n =
    let next = map-range_with_len_more (λ x. x) from n (from + n) refl in
    let same : range_with_len from (n + 1) ≡ range_with_len from n ++ (from + n) ∷ [] = rw (map-id, map-id) at next in
    rw same (omega (arith, sum_by_push (λ z. cond (p z) 1 0) (range_with_len from n) (from + n)))

pub range_few : (p : ℕ → Bool) (from n : ℕ) → count_by p (range_with_len from n) ≤ n
range_few p from n = omega (arith, count_by-le-length p (range_with_len from n), length-range_with_len from n)

-- ---- keys

-- what is counted once one more is counted under a key
pub key_counted : (old : CaseKey → Option ℕ) (key : CaseKey) (count : ℕ) → count ≡ count_of (old key) → (other : CaseKey)
    → count_of (cond (same_key key other) (Some (count + 1)) (old other))
    ≡ (if same_key key other then 1 else 0) + count_of (old other)
key_counted old key count is other = elim (cases_Bool (same_key key other)) [
  | inl same ↦
      let e : key ≡ other = grind (arith, and_parts, eqb-true) in
      rw same (omega (arith, is, ap (λ (k : CaseKey). count_of (old k)) e))
  | inr differs ↦ rw differs (omega arith)
]

module _ (graph : Graph) (is : IsGraph graph) where
  -- nodes have different numbers
  numbers_tell : (one other : Node) → IsNodeIn graph.blocks graph.opens one → IsNodeIn graph.blocks graph.opens other
      → nat_eq (node_number graph one) (node_number graph other) ≡ same_node one other
  numbers_tell (Block a) (Block b) l m = refl
  numbers_tell (Landed a) (Landed b) l m = grind (arith, nat_tests)
  numbers_tell X X l m = grind (arith, nat_tests)
  numbers_tell (Block a) (Landed b) l m = grind (arith, nat_tests)
  numbers_tell (Block a) X l m = grind (arith, nat_tests)
  numbers_tell (Landed a) (Block b) l m = grind (arith, nat_tests)
  numbers_tell (Landed a) X l m = grind (arith, nat_tests)
  numbers_tell X (Block b) l m = grind (arith, nat_tests)
  numbers_tell X (Landed b) l m = grind (arith, nat_tests)

  -- what is counted under a Case edge's key are the entries that lead along it
  module _ (from : ℕ) (to : Node) (inside : IsNodeIn graph.blocks graph.opens to) where
    abbrev key : CaseKey
    key = case_key from (node_number graph to)

    pub counts_led : (opens : List Open) → entries_with graph key opens ≡ count_by (is_at graph to) (targets_in opens from)
    counts_led [] = refl
    counts_led (o ∷ opens) =
        let one = sum_by-cons (λ (x : Open). count_by (is_entry graph x.block key) x.targets) o opens in
        let both = sum_by-append (λ word. cond (is_at graph to word) 1 0) (if o.block == from then o.targets else [])
        (targets_in opens from) in
        omega (arith, one, both, here (o.block == from) refl, counts_led opens)
      where
        here : (t : Bool) → (o.block == from) ≡ t → count_by (is_entry graph o.block key) o.targets
            ≡ count_by (is_at graph to) (if t then o.targets else [])
        here true e = count_same (is_entry graph o.block key) (is_at graph to) o.targets (λ word.
            let landed = lands_in graph.blocks graph.opens is.firsts.some (Some word) in
            cc (e, numbers_tell (lands graph (Some word)) to landed inside))
        here false e = count_none (is_entry graph o.block key) o.targets (each _ o.targets (λ word.
            ap (λ (t : Bool). t && nat_eq (node_number graph (lands graph (Some word))) (node_number graph to)) e))

    targets_few : (opens : List Open) → length (targets_in opens from) ≤ sum_by (λ (o : Open). length o.targets) opens
    targets_few [] = omega arith
    targets_few (o ∷ opens) =
        let later = targets_few opens in
        let both = length-append (if o.block == from then o.targets else []) (targets_in opens from) in
        grind (arith, cond, sum_by-cons (λ (x : Open). length x.targets) o opens)

    pub led_few : count_by (is_at graph to) (targets_in graph.opens from) ≤ 2 ^ 20
    led_few =
        let among = count_by-le-length (is_at graph to) (targets_in graph.opens from) in
        omega (arith, among, targets_few graph.opens, is.opens.entries, is.few)
