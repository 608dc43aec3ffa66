-- The edges of a graph lie between its nodes, and their slots in its text; they are at most seven for each word.
use Rattle.cfg_normal.proofs.Common.{◌≡◌, ℕ, zero, suc, ◌+◌, ◌*◌, ◌<◌, ◌≤◌, nat_le, nat_lt, Bool, true, ◌||◌, List, [], ◌∷◌, ◌++◌, length, map, Option, Some, None, refl, ap, arith, cond, get_or, ◌==◌, ◌&&◌, not, All, filter, flat_map, list_any, sum_by, append-nil, length-append, length-map, flat_map-append, All-append, All-cons, All-filter, All-head, All-map, All-nil, All-tail, All-weaker, filter_passes, count_by-le-length, length-filter, sum_by-cons, and_parts, cond_both, or_left, nat_tests, Blocks, below, end_of, holding_of, last_word, Entered, ways_from, IsBlockList, BlockEnd, EdgeKind, get_or-below, length-below, Edge, Node, Block, Landed, X, same_node, AreOpenIn, IsEdgeIn, IsGraph, IsNodeIn, IsSlotIn, Open, compares_in, is_behind, is_copied, jumps_in, targets_in, case_nodes, case_of, copied_edges, directed, edge_of, edges_in, edges_of, is_compared, landing_at, landings_of, lands_of, node_of, once_onto, runs_slot, slot_behind, slot_on, ways_out}
use Rattle.cfg_blocks.specs.Ends.{ways_of}
use Rattle.cfg_blocks.specs.declared.EdgeKind.TheVariants as kinds
use Rattle.cfg_normal.specs.declared.Slot.TheVariants.{Nothing, Word, Off}

-- ---- lists

All-flat_map : {X A : Type 0} (P : A → Type 0) (f : X → List A) (xs : List X) → All (λ x. All P (f x)) xs
    → All P (flat_map f xs)
All-flat_map P f [] each = All-nil P
All-flat_map P f (x ∷ xs) each =
    All-append P (f x) (flat_map f xs) (All-head (λ x. All P (f x)) x xs each)
    (All-flat_map P f xs (All-tail (λ x. All P (f x)) x xs each))

All-below : (P : ℕ → Type 0) (n : ℕ) → ((k : ℕ) → k < n → P k) → All P (below n)
All-below P n each =
    λ k d l.
    let h : k < n = omega (arith, length-below n) in
    rw get_or-below (each k h)

-- ---- nodes and slots

-- a comparison stands before the words behind it
behind_compares : (opens : List Open) (block word : ℕ) → is_behind opens block word ≡ true
    → compares_in opens block ≡ true
behind_compares [] block word h = absurd (cc)
behind_compares (o ∷ opens) block word h = let next = behind_compares opens block word in grind (arith, next)

pub copied_where : (opens : List Open) (block word : ℕ) → (jumps_in opens block || is_behind opens block word) ≡ true
    → is_copied opens block ≡ true
copied_where opens block word h = let next = behind_compares opens block word in grind (arith, next)

module _ (b : Blocks) (opens : List Open) (some : 1 ≤ length b.firsts) where
  abbrev IsNode : Node → Type 0
  IsNode = IsNodeIn b opens

  held : (word : ℕ) → holding_of b word < length b.firsts
  held word = omega (arith, count_by-le-length (λ first. nat_le first word) b.firsts)

  node_of-in : (to : Option ℕ) → IsNode (node_of b to)
  node_of-in None = tt
  node_of-in (Some word) =
      cond_both (nat_lt word b.words) (Block (record { 0 = holding_of b word })) X IsNode (λ h. held word) (λ h. tt)

  lands_of-in : (to : Option ℕ) → IsNode (lands_of b opens to)
  lands_of-in None = tt
  lands_of-in (Some word) =
      let block = holding_of b word in
      let there = jumps_in opens block || is_behind opens block word in
      cond_both (nat_lt word b.words)
      (cond there (Landed (record { 0 = block })) (Block (record { 0 = block }))) X IsNode
      (λ _. cond_both there (Landed (record { 0 = block })) (Block (record { 0 = block })) IsNode
      (λ h. (held word, copied_where opens block word h)) (λ _. held word))
      (λ _. tt)

  directed-in : (from : Node) (kind : EdgeKind) (to : Node) → IsNode to → IsNode (directed opens from kind to)
  directed-in from kind (Block to) is =
      let jumps = jumps_in opens to.0 in
      let other = not (is_compared opens from kind to.0) in
      cond_both (jumps && other) (Landed to) (Block to) IsNode
      (λ h. (is, or_left jumps (compares_in opens to.0) (and_parts jumps other h).0)) (λ _. is)
  directed-in from kind (Landed to) is = is
  directed-in from kind X is = tt

  slot_behind-in : (word : ℕ) → IsSlotIn b (slot_behind b.words word)
  slot_behind-in word =
      cond_both (nat_lt (word + 1) b.words) (Word (record { 0 = word + 1 })) Off (IsSlotIn b)
      (λ h. grind (arith, nat_tests)) (λ h. tt)

  slot_on-in : (block : ℕ) (kind : EdgeKind) → IsSlotIn b (slot_on b block kind)
  slot_on-in block kind =
      let last = last_word b.firsts b.words block in
      cond_both (runs_slot (end_of b block) kind) (slot_behind b.words last) Nothing (IsSlotIn b)
      (λ h. slot_behind-in last) (λ h. tt)

  -- ---- edges

  abbrev AreEdges : List Edge → Type 0
  AreEdges = All (IsEdgeIn b opens)

  ways_out-in : (from : Node) (block : ℕ) → IsNode from → AreEdges (ways_out b opens from block)
  ways_out-in from block is =
      All-map (IsEdgeIn b opens) (edge_of b opens from block) (ways_from b block) (λ k d l. record {
        from = is;
        to = directed-in from _ _ (node_of-in _);
        slot = slot_on-in block _;
      })

  once-in : (seen nodes : List Node) → All IsNode seen → All IsNode nodes → All IsNode (once_onto seen nodes)
  once-in seen [] known each = known
  once-in seen (node ∷ nodes) known each =
      once-in (cond (list_any (same_node node) seen) seen (seen ++ node ∷ [])) nodes
      (cond_both (list_any (same_node node) seen) seen (seen ++ node ∷ []) (All IsNode) (λ _. known)
      (λ _. All-append IsNode seen (node ∷ []) known
      (All-cons IsNode node [] (All-head IsNode node nodes each) (All-nil IsNode))))
      (All-tail IsNode node nodes each)

  cases-in : (block : ℕ) → block < length b.firsts → AreEdges (map (case_of b block) (case_nodes b opens block))
  cases-in block h =
      All-map (IsEdgeIn b opens) (case_of b block) (case_nodes b opens block)
      (All-weaker IsNode (λ node. IsEdgeIn b opens (case_of b block node))
      (λ node is. record { from = h; to = is; slot = slot_on-in block kinds.Case }) (case_nodes b opens block)
      (once-in [] (map (λ word. lands_of b opens (Some word)) (targets_in opens block)) (All-nil IsNode)
      (All-map IsNode (λ word. lands_of b opens (Some word)) (targets_in opens block)
      (λ k d l. lands_of-in (Some (get_or (targets_in opens block) k d))))))

  edges_of-in : (block : ℕ) → block < length b.firsts → AreEdges (edges_of b opens block)
  edges_of-in block h =
      cond_both (jumps_in opens block) (map (case_of b block) (case_nodes b opens block))
      (ways_out b opens (Block (record { 0 = block })) block) AreEdges
      (λ _. cases-in block h) (λ _. ways_out-in (Block (record { 0 = block })) block h)

  copies-in : AreEdges (flat_map (copied_edges b opens) (filter (is_copied opens) (below (length b.firsts))))
  copies-in =
      let blocks = below (length b.firsts) in
      let bounds = All-filter (is_copied opens) (λ k. k < length b.firsts) blocks
      (All-below (λ k. k < length b.firsts) (length b.firsts) (λ k h. h)) in
      let copied = filter_passes (is_copied opens) blocks in
      All-flat_map (IsEdgeIn b opens) (copied_edges b opens) (filter (is_copied opens) blocks)
      (λ k d l. ways_out-in (Landed (record { 0 = _ })) _ (bounds k d l, copied k d l))

  landings-in : (block : ℕ) → block < length b.firsts
      → All (λ node. IsEdgeIn b opens (landing_at node)) (landings_of opens block)
  landings-in block h =
      let P : Node → Type 0 = λ node. IsEdgeIn b opens (landing_at node) in
      let home : Node = Block (record { 0 = block }) in
      let copy : Node = Landed (record { 0 = block }) in
      let at_home : P home = record { from = tt; to = h; slot = tt } in
      cond_both (jumps_in opens block) (copy ∷ []) (cond (is_copied opens block) (home ∷ copy ∷ []) (home ∷ [])) (All P)
      (λ j. All-cons P copy []
      (record { from = tt; to = (h, or_left (jumps_in opens block) (compares_in opens block) j); slot = tt }) (All-nil P))
      (λ _. cond_both (is_copied opens block) (home ∷ copy ∷ []) (home ∷ []) (All P)
      (λ c. All-cons P home (copy ∷ []) at_home
      (All-cons P copy [] (record { from = tt; to = (h, c); slot = tt }) (All-nil P)))
      (λ _. All-cons P home [] at_home (All-nil P)))

  edges_in-in : AreEdges (edges_in b opens)
  unfolding edges_in
  edges_in-in =
      let n = length b.firsts in
      let own = flat_map (edges_of b opens) (below n) in
      let copied = flat_map (copied_edges b opens) (filter (is_copied opens) (below n)) in
      let landed = flat_map (landings_of opens) (below n) in
      All-append (IsEdgeIn b opens) (own ++ copied) (map landing_at landed)
      (All-append (IsEdgeIn b opens) own copied
      (All-flat_map (IsEdgeIn b opens) (edges_of b opens) (below n)
      (All-below (λ block. AreEdges (edges_of b opens block)) n edges_of-in)) copies-in)
      (All-map (IsEdgeIn b opens) landing_at landed
      (All-flat_map (λ node. IsEdgeIn b opens (landing_at node)) (landings_of opens) (below n)
      (All-below (λ block. All (λ node. IsEdgeIn b opens (landing_at node)) (landings_of opens block)) n landings-in)))

-- ---- how many there are

-- a block has at most two ways out of it
pub ways_few : (count word : ℕ) (end : BlockEnd) → length (ways_of count word end) ≤ 2
ways_few count word end = grind arith

pub flat_few : {X A : Type 0} (f : X → List A) (xs : List X) → ((x : X) → length (f x) ≤ 2)
    → length (flat_map f xs) ≤ 2 * length xs
flat_few f [] each = omega arith
flat_few f (x ∷ xs) each = omega (arith, each x, flat_few f xs each, length-append (f x) (flat_map f xs))

-- sums over the numbers below one
unfoldable pub total : (ℕ → ℕ) → ℕ → ℕ
total f zero = 0
total f (suc n) = total f n + f n

pub total_flat : {A : Type 0} (f : ℕ → List A) (n : ℕ) → length (flat_map f (below n)) ≡ total (λ k. length (f k)) n
unfolding total
total_flat f zero = refl
total_flat f (suc n) =
    simp (flat_map-append, append-nil, length-append, total_flat f n)

pub total_le : (f g : ℕ → ℕ) (n : ℕ) → ((k : ℕ) → f k ≤ 2 + g k) → total f n ≤ 2 * n + total g n
unfolding total
total_le f g zero each = omega arith
total_le f g (suc n) each = omega (arith, total_le f g n each, each n)

pub total_plus : (f g : ℕ → ℕ) (n : ℕ) → total (λ k. f k + g k) n ≡ total f n + total g n
unfolding total
total_plus f g zero = omega arith
total_plus f g (suc n) = omega (arith, total_plus f g n)

pub total_same : (f g : ℕ → ℕ) (n : ℕ) → ((k : ℕ) → f k ≡ g k) → total f n ≡ total g n
unfolding total
total_same f g zero each = refl
total_same f g (suc n) each = omega (arith, total_same f g n each, each n)

-- what stands at one number alone counts once at most
pub total_at : (at m n : ℕ) → (n ≤ at → total (λ k. cond (at == k) m 0) n ≡ 0) × (total (λ k. cond (at == k) m 0) n ≤ m)
unfolding total
total_at at m zero = (λ h. refl, omega arith)
total_at at m (suc n) =
    let before = total_at at m n in let none = before.0 in let few = before.1 in (λ h. grind (arith, none), grind (arith, none, few))

unfoldable pub entries_of : List Open → ℕ
entries_of opens = sum_by (λ (o : Open). length o.targets) opens

pub targets_few : (opens : List Open) (n : ℕ) → total (λ k. length (targets_in opens k)) n ≤ entries_of opens
unfolding total entries_of
targets_few [] n = omega (arith, none n)
  where
    none : (n : ℕ) → total (λ k. 0) n ≡ 0
    none zero = refl
    none (suc n) = omega (arith, none n)
targets_few (o ∷ opens) n =
    let here : ℕ → ℕ = λ k. cond (o.block == k) (length o.targets) 0 in
    simp (length-append, cut) (omega (
      arith,
      total_plus here (λ k. length (targets_in opens k)) n,
      (total_at o.block (length o.targets) n).1,
      targets_few opens n,
      sum_by-cons (λ (o : Open). length o.targets) o opens,
    ))
  where
    cut : (t : Bool) → length (cond t o.targets []) ≡ cond t (length o.targets) 0
    cut t = grind arith

pub once_few : (seen nodes : List Node) → length (once_onto seen nodes) ≤ length seen + length nodes
once_few seen [] = omega arith
once_few seen (node ∷ nodes) =
    let rest = once_few (cond (list_any (same_node node) seen) seen (seen ++ node ∷ [])) nodes in
    let longer = length-append seen (node ∷ []) in
    grind (arith, rest, longer)

module _ (b : Blocks) (opens : List Open) where
  pub ways_out-few : (from : Node) (block : ℕ) → length (ways_out b opens from block) ≤ 2
  ways_out-few from block =
      let few = ways_few b.words (last_word b.firsts b.words block) (end_of b block) in
      omega (arith, few, length-map (ways_from b block) (edge_of b opens from block))

  pub edges_of-few : (block : ℕ) → length (edges_of b opens block) ≤ 2 + length (targets_in opens block)
  edges_of-few block =
      let nodes = map (λ word. lands_of b opens (Some word)) (targets_in opens block) in
      let few = simp length-map at (once_few [] nodes) in
      cond_both (jumps_in opens block) (map (case_of b block) (case_nodes b opens block))
      (ways_out b opens (Block (record { 0 = block })) block)
      (λ es. length es ≤ 2 + length (targets_in opens block))
      (λ _. simp length-map (omega (arith, few)))
      (λ _. omega (arith, ways_out-few (Block (record { 0 = block })) block))

  landings_of-few : (block : ℕ) → length (landings_of opens block) ≤ 2
  landings_of-few block = grind arith

  edges_few : entries_of opens ≤ b.words → length b.firsts ≤ b.words → length (edges_in b opens) ≤ 7 * b.words
  unfolding edges_in
  edges_few entries firsts =
      let n = length b.firsts in
      let own = flat_map (edges_of b opens) (below n) in
      let blocks = filter (is_copied opens) (below n) in
      let own_few : length own ≤ 2 * n + total (λ k. length (targets_in opens k)) n =
      rw (total_flat (edges_of b opens) n)
      (total_le (λ k. length (edges_of b opens k)) (λ k. length (targets_in opens k)) n edges_of-few) in
      let copied_few = flat_few (copied_edges b opens) blocks (λ block. ways_out-few (Landed (record { 0 = block })) block) in
      let landed_few = flat_few (landings_of opens) (below n) landings_of-few in
      simp (length-append, length-map) (omega (
        arith,
        own_few,
        targets_few opens n,
        entries,
        copied_few,
        landed_few,
        length-filter (is_copied opens) (below n),
        count_by-le-length (is_copied opens) (below n),
        length-below n,
      ))

-- blocks and open switches, with their edges, are a graph
pub is_graph : (list : Entered) (opens : List Open) (edges : List Edge) → IsBlockList list
    → AreOpenIn list.blocks opens → edges ≡ edges_in list.blocks opens
    → IsGraph (record { blocks = list.blocks; opens = opens; edges = edges })
unfolding entries_of
is_graph list opens edges blocks are all =
    record {
      made = ap (λ (edges : List Edge). record { blocks = list.blocks; opens = opens; edges = edges }) all;
      firsts = blocks.firsts;
      few = blocks.few;
      targets = λ k d l. (are.each k d l).some;
      opens = are;
      edges = rw all (edges_in-in list.blocks opens blocks.firsts.some);
      edge_count = rw all (edges_few list.blocks opens are.entries blocks.firsts.few);
    }
