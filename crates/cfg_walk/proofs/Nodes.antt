-- The nodes about open switches.
use Rattle.cfg_walk.proofs.Common.{◌≡◌, ℕ, ◌<◌, ◌≤◌, nat_le, Bool, true, false, not, ◌&&◌, ◌||◌, nat_lt, List, [], ◌∷◌, ◌++◌, length, map, Option, Some, None, refl, sym, subst, arith, if◌then◌else◌, ◌==◌, filter, flat_map, list_any, slice_get, and_parts, cond_both, false≢true, lt-ltb, or_left, nat_tests, EdgeKind, Blocks, holding_of, Node, Block, Landed, X, home_of, IsNodeIn, same_node, Open, compares_in, is_behind, is_copied, jumps_in, targets_in, graph_of, edges_in, edges_of, copied_edges, case_nodes, case_of, edge_of, ways_out, landing_at, directed, is_compared, landings_of, lands_of, node_of, once_onto, below, ways_from, Edge, led_to, node_after, same_itself}
use Rattle.std.proofs.lemmas.List.Sums.{count_by-le-length}
use Rattle.cfg_normal.proofs.GraphFacts.{copied_where}
use Rattle.cfg_walk.proofs.Edges.{any_once, block, each_edge, leave_node, leave_own, copy, is_it}
use Rattle.cfg_walk.proofs.Lists.{Each, each, each-append, each-below, each-flat_map, each-map, each-then, each_at}

pub home_of_node : (b : Blocks) (to : Option ℕ) → home_of (node_of b to) ≡ node_of b to
home_of_node b to = grind arith

pub home_directed : (opens : List Open) (from : Node) (kind : EdgeKind) (to : Node)
    → home_of (directed opens from kind to) ≡ home_of to
home_directed opens from kind to = grind arith

-- the node at which a word's landing goes on: the block that holds the word, or its copy
pub lands_as : (b : Blocks) (opens : List Open) (word : ℕ) → word < b.words → (P : Node → Type 0)
    → ((jumps_in opens (holding_of b word) || is_behind opens (holding_of b word) word) ≡ true
    → P (copy (holding_of b word)))
    → ((jumps_in opens (holding_of b word) || is_behind opens (holding_of b word) word) ≡ false
    → P (block (holding_of b word)))
    → P (lands_of b opens (Some word))
lands_as b opens word l P one other =
    let k : ℕ = holding_of b word in
    rw (lt-ltb _ _ l) (cond_both (jumps_in opens k || is_behind opens k word) (copy k) (block k) P one other)

pub home_lands : (b : Blocks) (opens : List Open) (to : Option ℕ) → home_of (lands_of b opens to) ≡ node_of b to
home_lands b opens to = grind arith

-- there is a landing there
pub lands_there : (b : Blocks) (opens : List Open) (word : ℕ) → word < b.words
    → list_any (is_it (lands_of b opens (Some word))) (landings_of opens (holding_of b word)) ≡ true
lands_there b opens word l =
    lands_as b opens word l (λ n. list_any (is_it n) (landings_of opens (holding_of b word)) ≡ true)
    (λ h. at_copy (holding_of b word) (copied_where opens (holding_of b word) word h)) (λ h. at_block (holding_of b word) h)
  where
    at_copy : (k : ℕ) → is_copied opens k ≡ true → list_any (is_it (copy k)) (landings_of opens k) ≡ true
    at_copy k h = grind arith

    at_block : (k : ℕ) → (jumps_in opens k || is_behind opens k word) ≡ false
        → list_any (is_it (block k)) (landings_of opens k) ≡ true
    at_block k h = grind arith

-- ---- nodes of the graph

held_in : (b : Blocks) → 1 ≤ length b.firsts → (word : ℕ) → holding_of b word < length b.firsts
held_in b some word = omega (arith, count_by-le-length (λ first. nat_le first word) b.firsts)

pub node_in : (b : Blocks) (opens : List Open) → 1 ≤ length b.firsts → (to : Option ℕ) → IsNodeIn b opens (node_of b to)
node_in b opens some None = tt
node_in b opens some (Some word) =
    cond_both (nat_lt word b.words) (block (holding_of b word)) X (IsNodeIn b opens) (λ _. held_in b some word) (λ _. tt)

pub directed_in : (b : Blocks) (opens : List Open) (from : Node) (kind : EdgeKind) (to : Node) → IsNodeIn b opens to
    → IsNodeIn b opens (directed opens from kind to)
directed_in b opens from kind (Block to) h =
    cond_both (jumps_in opens to.0 && not (is_compared opens from kind to.0)) (Landed to) (Block to)
    (IsNodeIn b opens) (λ e. (
      h,
      or_left (jumps_in opens to.0) (compares_in opens to.0)
          (and_parts (jumps_in opens to.0) (not (is_compared opens from kind to.0)) e).0,
    )) (λ _. h)
directed_in b opens from kind (Landed to) h = h
directed_in b opens from kind X h = h

pub lands_in : (b : Blocks) (opens : List Open) → 1 ≤ length b.firsts → (to : Option ℕ)
    → IsNodeIn b opens (lands_of b opens to)
lands_in b opens some None = tt
lands_in b opens some (Some word) =
    let k : ℕ = holding_of b word in
    cond_both (nat_lt word b.words) (if jumps_in opens k || is_behind opens k word then copy k else block k) X
    (IsNodeIn b opens)
    (λ _.
    let within : k < length b.firsts = held_in b some word in
    cond_both (jumps_in opens k || is_behind opens k word) (copy k) (block k) (IsNodeIn b opens)
    (λ c. (within, copied_where opens k word c)) (λ _. within))
    (λ _. tt)

-- ---- the targets of a jump

any_to : (b : Blocks) (opens : List Open) (word : ℕ) (words : List ℕ) → list_any (λ x. x == word) words ≡ true
    → list_any (is_it (lands_of b opens (Some word))) (map (λ w. lands_of b opens (Some w)) words) ≡ true
any_to b opens word [] h = absurd (false≢true h)
any_to b opens word (x ∷ xs) h =
    let rest = any_to b opens word xs in
    let self = same_itself (lands_of b opens (Some word)) in grind (arith, nat_tests, rest, self)

pub case_any : (b : Blocks) (opens : List Open) (k word : ℕ) → list_any (λ x. x == word) (targets_in opens k) ≡ true
    → list_any (is_it (lands_of b opens (Some word))) (case_nodes b opens k) ≡ true
case_any b opens k word h =
    any_once b opens (lands_of b opens (Some word)) [] (map (λ w. lands_of b opens (Some w)) (targets_in opens k))
    (any_to b opens word (targets_in opens k) h)

-- ---- edges lead to nodes of the graph

each-filtered : (q : ℕ → Bool) (xs : List ℕ) (P Q : ℕ → Type 0) → ((k : ℕ) → P k → q k ≡ true → Q k) → Each P xs
    → Each Q (filter q xs)
each-filtered q [] P Q f h = tt
each-filtered q (x ∷ xs) P Q f h =
    let rest = each-filtered q xs P Q f h.1 in
    cond_both (q x) (x ∷ filter q xs) (filter q xs) (Each Q) (λ e. (f x h.0 e, rest)) (λ _. rest)

module _ (b : Blocks) (opens : List Open) (some : 1 ≤ length b.firsts) where
  abbrev LeadsIn : Edge → Type 0
  LeadsIn edge = IsNodeIn b opens edge.to

  once_in : (seen nodes : List Node) → Each (IsNodeIn b opens) seen → Each (IsNodeIn b opens) nodes
      → Each (IsNodeIn b opens) (once_onto seen nodes)
  once_in seen [] h g = h
  once_in seen (node ∷ nodes) h g =
      once_in (if list_any (same_node node) seen then seen else seen ++ node ∷ []) nodes
      (cond_both (list_any (same_node node) seen) seen (seen ++ node ∷ []) (Each (IsNodeIn b opens)) (λ _. h)
      (λ _. each-append (IsNodeIn b opens) seen (node ∷ []) h (g.0, tt))) g.1

  ways_in : (from : Node) (k : ℕ) → Each LeadsIn (ways_out b opens from k)
  ways_in from k =
      each-map LeadsIn (edge_of b opens from k) (ways_from b k)
      (each _ (ways_from b k) (λ w. directed_in b opens from w.kind (node_of b w.to) (node_in b opens some w.to)))

  cases_in : (k : ℕ) → Each LeadsIn (map (case_of b k) (case_nodes b opens k))
  cases_in k =
      each-map LeadsIn (case_of b k) (case_nodes b opens k)
      (once_in [] (map (λ w. lands_of b opens (Some w)) (targets_in opens k)) tt
      (each-map (IsNodeIn b opens) (λ w. lands_of b opens (Some w)) (targets_in opens k)
      (each _ (targets_in opens k) (λ w. lands_in b opens some (Some w)))))

  landing_in : (k : ℕ) → k < length b.firsts → Each (IsNodeIn b opens) (landings_of opens k)
  landing_in k l =
      cond_both (jumps_in opens k) (copy k ∷ []) (if is_copied opens k then block k ∷ copy k ∷ [] else block k ∷ [])
      (Each (IsNodeIn b opens)) (λ e. ((l, or_left _ (compares_in opens k) e), tt))
      (λ _. cond_both (is_copied opens k) (block k ∷ copy k ∷ []) (block k ∷ []) (Each (IsNodeIn b opens))
      (λ e. (l, ((l, e), tt))) (λ _. (l, tt)))

  pub edges_lead_in : Each LeadsIn (edges_in b opens)
  edges_lead_in =
      each_edge b opens LeadsIn
      (each-flat_map LeadsIn (edges_of b opens) (below (length b.firsts)) (each _ (below (length b.firsts)) (λ k.
      cond_both (jumps_in opens k) (map (case_of b k) (case_nodes b opens k)) (ways_out b opens (block k) k)
      (Each LeadsIn) (λ _. cases_in k) (λ _. ways_in (block k) k))))
      (each-flat_map LeadsIn (copied_edges b opens) _ (each _ _ (λ k. ways_in (copy k) k)))
      (each-map LeadsIn landing_at (flat_map (landings_of opens) (below (length b.firsts)))
      (each-flat_map (IsNodeIn b opens) (landings_of opens) (below (length b.firsts))
      (each-below (λ k. Each (IsNodeIn b opens) (landings_of opens k)) (length b.firsts) landing_in)))

  -- and leave such nodes
  abbrev LeavesIn : Edge → Type 0
  LeavesIn edge = IsNodeIn b opens edge.from

  pub edges_leave_in : Each LeavesIn (edges_in b opens)
  edges_leave_in =
      each_edge b opens LeavesIn
      (each-flat_map LeavesIn (edges_of b opens) (below (length b.firsts))
      (each-below (λ k. Each LeavesIn (edges_of b opens k)) (length b.firsts) (λ k l.
      each-then (λ edge. edge.from ≡ block k) LeavesIn (edges_of b opens k)
      (λ x e. subst (IsNodeIn b opens) (sym e) l) (leave_own b opens k))))
      (each-flat_map LeavesIn (copied_edges b opens) (filter (is_copied opens) (below (length b.firsts)))
      (each-filtered (is_copied opens) (below (length b.firsts)) (λ k. k < length b.firsts)
      (λ k. Each LeavesIn (copied_edges b opens k))
      (λ k l c. each-then (λ edge. edge.from ≡ copy k) LeavesIn (copied_edges b opens k)
      (λ x e. subst (IsNodeIn b opens) (sym e) (l, c)) (leave_node b opens (copy k)))
      (each-below (λ k. k < length b.firsts) (length b.firsts) (λ k l. l))))
      (each-map LeavesIn landing_at (flat_map (landings_of opens) (below (length b.firsts))) (each _ _ (λ n. tt)))

  -- so a walk stays in the graph
  pub after_in : (node : Node) (numbers : List ℕ) → IsNodeIn b opens node
      → IsNodeIn b opens (node_after (graph_of b opens) node numbers)
  after_in node [] h = h
  after_in node (n ∷ ns) h =
      after_in (led_to node (slice_get (edges_in b opens) n)) ns (by (slice_get (edges_in b opens) n) refl)
    where
      by : (o : Option Edge) → slice_get (edges_in b opens) n ≡ o → IsNodeIn b opens (led_to node o)
      by None e = h
      by (Some edge) e = each_at LeadsIn (edges_in b opens) n edge edges_lead_in e
