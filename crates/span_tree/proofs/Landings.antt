-- What holds of each edge of a flow graph holds of the landings at its nodes, and of an edge from each jump's block.
use Rattle.span_tree.proofs.Common.{◌≡◌, ℕ, zero, suc, ◌<◌, ◌≤◌, true, false, List, [], ◌∷◌, ◌++◌, length, map, Some, inl, inr, refl, subst, arith, if◌then◌else◌, AllByRecursion, filter, flat_map, list_any, cases_lt, cond_both, cases_Bool, false≢true, flat_map-append, length-append, Blocks, below, Edge, Node, Block, Landed, Open, is_copied, jumps_in, targets_in, case_nodes, case_of, copied_edges, edges_in, edges_of, has_cases, landing_at, landings_of, lands_of, once_onto}
use Rattle.cfg_normal.specs.Nodes.{same_node}
use Rattle.cfg_normal.specs.Opens.{compares_in}

abbrev pub block : ℕ → Node
block k = Block (record { 0 = k })

abbrev pub copy : ℕ → Node
copy k = Landed (record { 0 = k })

-- ---- what holds of each element of a list

abbrev pub Each : {A : Type 0} → (A → Type 0) → List A → Type 0
Each P xs = AllByRecursion P xs

left_part : {A : Type 0} (P : A → Type 0) (xs ys : List A) → Each P (xs ++ ys) → Each P xs
left_part P [] ys h = tt
left_part P (x ∷ xs) ys h = (h.0, left_part P xs ys h.1)

right_part : {A : Type 0} (P : A → Type 0) (xs ys : List A) → Each P (xs ++ ys) → Each P ys
right_part P [] ys h = h
right_part P (x ∷ xs) ys h = right_part P xs ys h.1

of_map : {A B : Type 0} (P : B → Type 0) (f : A → B) (xs : List A) → Each P (map f xs) → Each (λ x. P (f x)) xs
of_map P f [] h = tt
of_map P f (x ∷ xs) h = (h.0, of_map P f xs h.1)

of_below : {A : Type 0} (P : A → Type 0) (f : ℕ → List A) (n k : ℕ) → k < n → Each P (flat_map f (below n)) → Each P (f k)
of_below P f zero k l h = absurd (omega arith)
of_below P f (suc n) k l h = elim (cases_lt k n) [
  | inl less ↦ of_below P f n k less (left_part P (flat_map f (below n)) (f n ++ []) parts)
  | inr more ↦
      let same : n ≡ k = omega (arith, l, more) in
      subst (λ (j : ℕ). Each P (f j)) same
      (left_part P (f n) [] (right_part P (flat_map f (below n)) (f n ++ []) parts))
]
  where
    parts : Each P (flat_map f (below n) ++ (f n ++ []))
    parts = subst (Each P) (flat_map-append f (below n) (n ∷ [])) h

-- nodes that are kept once keep those that came before
kept : (P : Node → Type 0) (seen nodes : List Node) → Each P (once_onto seen nodes) → Each P seen
kept P seen [] h = h
kept P seen (node ∷ nodes) h =
    cond_both (list_any (same_node node) seen) seen (seen ++ node ∷ []) (λ xs. Each P xs → Each P seen) (λ _ h. h)
    (λ _ h. left_part P seen (node ∷ []) h)
    (kept P (if list_any (same_node node) seen then seen else seen ++ node ∷ []) nodes h)

-- ---- the targets of a jump

pub record HasFirst (words : List ℕ) : Type 0 where
  pub first : ℕ
  pub rest : List ℕ
  pub is : words ≡ first ∷ rest

pub first_of : (words : List ℕ) → 1 ≤ length words → HasFirst words
first_of [] h = absurd (omega (arith, h))
first_of (x ∷ xs) h = record { first = x; rest = xs; is = refl }

pub targets_some : (opens : List Open) (k : ℕ) → jumps_in opens k ≡ true → Each (λ (o : Open). 1 ≤ length o.targets) opens
    → 1 ≤ length (targets_in opens k)
targets_some [] k h some = absurd (false≢true h)
targets_some (o ∷ opens) k h some =
    let rest = (λ (r : jumps_in opens k ≡ true). targets_some opens k r some.1) in
    let a = length-append o.targets (targets_in opens k) in
    let s = some.0 in grind (arith, rest, a, s)

-- a jump never lands at a node that has Case edges
pub lands_plain : (b : Blocks) (opens : List Open) (word : ℕ) → has_cases opens (lands_of b opens (Some word)) ≡ false
lands_plain b opens word = grind arith

-- ---- the edges

module _ (b : Blocks) (opens : List Open) (P : Edge → Type 0) (all : Each P (edges_in b opens)) where
  abbrev own : List Edge
  own = flat_map (edges_of b opens) (below (length b.firsts))

  abbrev copied : List Edge
  copied = flat_map (copied_edges b opens) (filter (is_copied opens) (below (length b.firsts)))

  abbrev landings : List Edge
  landings = map landing_at (flat_map (landings_of opens) (below (length b.firsts)))

  parts : Each P ((own ++ copied) ++ landings)
  unfolding edges_in
  parts = all

  own_edges : (k : ℕ) → k < length b.firsts → Each P (edges_of b opens k)
  own_edges k l =
      of_below P (edges_of b opens) (length b.firsts) k l
      (left_part P own copied (left_part P (own ++ copied) landings parts))

  abbrev Lands : Node → Type 0
  Lands node = P (landing_at node)

  landing_edges : (k : ℕ) → k < length b.firsts → Each Lands (landings_of opens k)
  landing_edges k l =
      of_below Lands (landings_of opens) (length b.firsts) k l
      (of_map P landing_at (flat_map (landings_of opens) (below (length b.firsts)))
      (right_part P (own ++ copied) landings parts))

  -- at a block that no jump of an open switch ends
  pub landed_block : (k : ℕ) → k < length b.firsts → jumps_in opens k ≡ false → P (landing_at (block k))
  landed_block k l quiet = elim (cases_Bool (compares_in opens k)) [
    | inl c ↦ (rw (quiet, c) at (landing_edges k l)).0
    | inr c ↦ (rw (quiet, c) at (landing_edges k l)).0
  ]

  -- at a landed copy
  pub landed_copy : (k : ℕ) → k < length b.firsts → is_copied opens k ≡ true → P (landing_at (copy k))
  landed_copy k l is = elim (cases_Bool (jumps_in opens k)) [
    | inl j ↦ (rw j at (landing_edges k l)).0
    | inr j ↦ (rw (j, rw j at is) at (landing_edges k l)).1.0
  ]

  -- from a jump's block, to where its first target lands
  abbrev Cases : ℕ → Node → Type 0
  Cases k node = P (case_of b k node)

  abbrev lands : ℕ → Node
  lands word = lands_of b opens (Some word)

  pub cased : (k : ℕ) → k < length b.firsts → jumps_in opens k ≡ true → (word : ℕ) (words : List ℕ)
      → targets_in opens k ≡ word ∷ words → P (case_of b k (lands_of b opens (Some word)))
  cased k l jumps word words e =
      let nodes = of_map P (case_of b k) (case_nodes b opens k) (rw jumps at (own_edges k l)) in
      (kept (Cases k) (lands word ∷ []) (map lands words) (rw e at nodes)).0
