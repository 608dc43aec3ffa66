-- How many edges a graph has, and how often the snippets on all of them are made, by the words of its text.
use Rattle.exact_counts.proofs.Common.{◌≡◌, ℕ, zero, suc, ◌+◌, ◌-◌, ◌*◌, ◌<◌, ◌≤◌, true, false, ◌==◌, cond, List, [], ◌∷◌, append-nil, length, Some, refl, ap, sym, ◌∙◌, arith, if◌then◌else◌, slice_index, list_any, sum_by, eq-eqb, false≢true, sum_by-cons, Words, blocks_of, entered_of, Edge, is_copied, Graph, edges_in, cut, Each, copies_of, map, ◌++◌, Bool, count_by, filter, flat_map, range_with_len, cond_both, or_parts, flat_map-append, length-map, length-range_with_len, filter-append, sum_by-append, sum_by-le, sum_by_push, Blocks, below, end_of, last_word, size_of, ways_from, AreOne, Open, compares_in, jumps_in, targets_in, case_nodes, case_of, copied_edges, edge_of, edges_of, landing_at, landings_of, lands, lands_of, once_onto, ways_out, graph_of, entries_of, once_few, targets_few, total, total_at, total_le, total_plus, ways_out-few, IsCut, each-map, each-then}
use Rattle.image_code.specs.Graphs.{opens_in}
use Rattle.eel_base.specs.Code.{IsText}
use Rattle.cfg_normal.specs.declared.Node.{Node}
use Rattle.cfg_blocks.specs.declared.BlockEnd.{BlockEnd}
use Rattle.cfg_blocks.specs.declared.BlockEnd.TheVariants as ends
use Rattle.cfg_blocks.specs.declared.EdgeKind.TheVariants as kinds
use Rattle.cfg_blocks.specs.Ends.{Way, always, never, ways_of}
use Rattle.cfg_normal.specs.Nodes.{same_kind, same_node}
use Rattle.cfg_walk.proofs.Edges.{block, copy, same_nodes}
use Rattle.cfg_walk.proofs.Holding.{some_words}
use Rattle.switch_runs.specs.Cases.{IsOpenSwitch}
use Rattle.switch_runs.specs.Joined.{IsCaseBlock}
use Rattle.switch_runs.proofs.CaseBlocks.{case_block}
use Rattle.switch_runs.proofs.Opened.{opens_are}
use Rattle.edit_core.proofs.Eaches.{all_each}
use Rattle.image_code.proofs.OpenBlocks.{are_open, sizes_all}
use Rattle.image_code.proofs.OpenSums.{AreDistinct, distinct_sum}

-- ---- sums

total_below : (f g : ℕ → ℕ) (n : ℕ) → ((k : ℕ) → k < n → f k ≤ g k) → total f n ≤ total g n
unfolding total
total_below f g zero each = omega arith
total_below f g (suc n) each =
    omega (arith, total_below f g n (λ k l. each k (omega (arith, l))), each n (omega arith))

total_ones : (n : ℕ) → total (λ k. 1) n ≡ n
unfolding total
total_ones zero = refl
total_ones (suc n) = omega (arith, total_ones n)

sum_map : {A B : Type 0} (f : B → ℕ) (g : A → B) (xs : List A) → sum_by f (map g xs) ≡ sum_by (λ x. f (g x)) xs
sum_map f g [] = refl
sum_map f g (x ∷ xs) = simp sum_by-cons (omega (arith, sum_map f g xs))

sum_flat : {A : Type 0} (f : A → ℕ) (g : ℕ → List A) (n : ℕ)
    → sum_by f (flat_map g (below n)) ≡ total (λ k. sum_by f (g k)) n
unfolding total
sum_flat f g zero = refl
sum_flat f g (suc n) = simp (flat_map-append, append-nil, sum_by-append) (omega (arith, sum_flat f g n))

sum_filtered : {A : Type 0} (f : A → ℕ) (g : ℕ → List A) (p : ℕ → Bool) (n : ℕ)
    → sum_by f (flat_map g (filter p (below n))) ≡ total (λ k. cond (p k) (sum_by f (g k)) 0) n
unfolding total
sum_filtered f g p zero = refl
sum_filtered f g p (suc n) =
    let one = ap (sum_by f) (append-nil (g n)) in
    simp (filter-append, flat_map-append, sum_by-append) (grind (arith, one, sum_filtered f g p n))

sum_ones : {A : Type 0} (xs : List A) → sum_by (λ x. 1) xs ≡ length xs
sum_ones [] = refl
sum_ones (x ∷ xs) = omega (arith, sum_by-cons (λ y. 1) x xs, sum_ones xs)

-- ---- words that are shared among nodes: each is at one of them at most

abbrev AreApart : List Node → Type 0
AreApart nodes = (node : Node) → count_by (same_node node) nodes ≤ 1

none_counted : {A : Type 0} (p : A → Bool) (xs : List A) → list_any p xs ≡ false → count_by p xs ≡ 0
none_counted p [] none = refl
none_counted p (x ∷ xs) none =
    let parts = or_parts (p x) (list_any p xs) none in
    simp (sum_by-cons, parts.0, none_counted p xs parts.1)

-- the nodes to which a jump goes stand once
once_apart : (seen nodes : List Node) → AreApart seen → AreApart (once_onto seen nodes)
once_apart seen [] apart = apart
once_apart seen (node ∷ nodes) apart =
    once_apart (if list_any (same_node node) seen then seen else seen ++ node ∷ []) nodes
    (cond_both (list_any (same_node node) seen) seen (seen ++ node ∷ []) AreApart (λ _. apart) (λ new other.
    let none : same_node other node ≡ true → count_by (same_node other) seen ≡ 0 =
    λ e. rw (same_nodes other node e) (none_counted (same_node node) seen new) in
    grind (arith, sum_by_push (λ n. cond (same_node other n) 1 0) seen node, apart other, none)))

module _ (to : ℕ → Node) where
  -- how many words of a list are at a node
  abbrev many_at : List ℕ → Node → ℕ
  many_at words node = count_by (λ word. same_node (to word) node) words

  many_more : (word : ℕ) (words : List ℕ) (nodes : List Node)
      → sum_by (many_at (word ∷ words)) nodes ≡ count_by (same_node (to word)) nodes + sum_by (many_at words) nodes
  many_more word words [] = refl
  many_more word words (node ∷ nodes) =
      rw (sum_by-cons (many_at (word ∷ words)) node nodes, many_more word words nodes) (simp sum_by-cons (omega arith))

  shared : (nodes : List Node) → AreApart nodes → (words : List ℕ) → sum_by (many_at words) nodes ≤ length words
  shared nodes apart [] = omega (arith, sum_by-le (many_at []) 0 nodes (λ i d l. omega arith))
  shared nodes apart (word ∷ words) =
      omega (arith, many_more word words nodes, apart (to word), shared nodes apart words)

-- ---- ways out of blocks

-- none is a landing or a Case
abbrev IsPlain : Way → Type 0
IsPlain w = (same_kind w.kind kinds.Land ≡ false) × (same_kind w.kind kinds.Case ≡ false)

ways_are_plain : (count word : ℕ) (end : BlockEnd) → Each IsPlain (ways_of count word end)
ways_are_plain count word (ends.Branch c annul target) = grind (arith, cond_both, always, never)
ways_are_plain count word _ = ((refl, refl), tt)

-- ---- sums over the edges of a graph

compared_few : (opens : List Open) (m n : ℕ) → total (λ k. cond (compares_in opens k) m 0) n ≤ m * length opens
unfolding entries_of
compared_few [] m n = omega (arith, targets_few [] n)
compared_few (o ∷ opens) m n =
    let at : ℕ → ℕ = λ k. cond (o.switch.compare.0 == k) m 0 in
    let later : ℕ → ℕ = λ k. cond (compares_in opens k) m 0 in
    omega (
      arith,
      total_below (λ k. cond (compares_in (o ∷ opens) k) m 0) (λ k. at k + later k) n (λ k l. grind arith),
      total_plus at later n,
      (total_at o.switch.compare.0 m n).1,
      compared_few opens m n,
      let more : m * suc (length opens) ≡ m + m * length opens = omega arith in more,
    )

-- What is summed is 1 at most for the edge of a way, as many as the entries at most for the Case edges of a block, and so
-- many at most for the landings at one.
pub record AreFew (b : Blocks) (opens : List Open) (f : Edge → ℕ) (most : ℕ → ℕ) : Type 0 where
  pub ways : (edge : Edge) → same_kind edge.kind kinds.Land ≡ false → same_kind edge.kind kinds.Case ≡ false
      → f edge ≤ 1
  pub cases : (k : ℕ) → sum_by f (map (case_of b k) (case_nodes b opens k)) ≤ length (targets_in opens k)
  pub landings : (k : ℕ) → sum_by (λ node. f (landing_at node)) (landings_of opens k) ≤ most k

module _ (b : Blocks) (opens : List Open) (f : Edge → ℕ) (most : ℕ → ℕ) (few : AreFew b opens f most) where
  abbrev in_block : ℕ → ℕ
  in_block k = sum_by f (edges_of b opens k)

  abbrev in_copy : ℕ → ℕ
  in_copy k = cond (is_copied opens k) (sum_by f (copied_edges b opens k)) 0

  abbrev in_landings : ℕ → ℕ
  in_landings k = sum_by (λ node. f (landing_at node)) (landings_of opens k)

  ways_sum : (from : Node) (k : ℕ) → sum_by f (ways_out b opens from k) ≤ 2
  ways_sum from k =
      let each = each-map (λ edge. f edge ≤ 1) (edge_of b opens from k) (ways_from b k)
      (each-then IsPlain _ (ways_from b k) (λ w is. few.ways (edge_of b opens from k w) is.0 is.1)
      (ways_are_plain b.words (last_word b.firsts b.words k) (end_of b k))) in
      omega (arith, sum_by-le f 1 (ways_out b opens from k) (all_each _ _ each), ways_out-few b opens from k)

  block_sum : (k : ℕ) → in_block k + in_copy k ≤ 2 + (cond (compares_in opens k) 2 0 + length (targets_in opens k))
  block_sum k = grind (arith, few.cases k, ways_sum (copy k) k, ways_sum (block k) k)

  pub few_in_all : sum_by f (edges_in b opens)
      ≤ 2 * length b.firsts + (2 * length opens + entries_of opens) + total most (length b.firsts)
  unfolding edges_in
  few_in_all =
      let count = length b.firsts in
      let compared : ℕ → ℕ = λ k. cond (compares_in opens k) 2 0 in
      let targets : ℕ → ℕ = λ k. length (targets_in opens k) in
      simp (sum_by-append, sum_map) (omega (
        arith,
        sum_flat f (edges_of b opens) count,
        sum_filtered f (copied_edges b opens) (is_copied opens) count,
        sum_flat (λ node. f (landing_at node)) (landings_of opens) count,
        total_plus in_block in_copy count,
        total_le (λ k. in_block k + in_copy k) (λ k. compared k + targets k) count block_sum,
        total_plus compared targets count,
        compared_few opens 2 count,
        targets_few opens count,
        total_below in_landings most count (λ k l. few.landings k),
      ))

-- ---- how many edges there are, and how often their snippets are made

module _ (b : Blocks) (opens : List Open) where
  abbrev graph : Graph
  graph = graph_of b opens

  abbrev targeted : ℕ → List Node
  targeted k = map (λ word. lands_of b opens (Some word)) (targets_in opens k)

  edges_few : AreFew b opens (λ edge. 1) (λ k. 1 + cond (compares_in opens k) 1 0)
  edges_few = record {
    ways = λ edge land case. omega arith;
    cases = λ k.
        let few = simp length-map at (once_few [] (targeted k)) in
        omega (arith, sum_ones (map (case_of b k) (case_nodes b opens k)), length-map (case_nodes b opens k) (case_of b k), few);
    landings = λ k. grind arith;
  }

  -- each word lands at one node, and each entry leads to one
  copies_few : AreFew b opens (copies_of graph) (size_of b)
  copies_few = record {
    ways = λ edge land case. rw (land, case) (omega arith);
    cases = λ k.
        let sum = shared to (case_nodes b opens k) (once_apart [] (targeted k) (λ node. omega arith)) (targets_in opens k) in
        omega (arith, sum, sum_map (copies_of graph) (case_of b k) (case_nodes b opens k));
    landings = λ k.
        let both = shared to (block k ∷ copy k ∷ []) (once_apart [] (block k ∷ copy k ∷ []) (λ node. omega arith))
        (range_with_len (slice_index b.firsts k) (size_of b k)) in
        grind (arith, both, length-range_with_len (slice_index b.firsts k) (size_of b k));
  }
    where
      to : ℕ → Node
      to word = lands graph (Some word)

-- ---- a block that ends in the jump of an open switch has two words at least: the load of an entry, and the jump

abbrev own_blocks : List Open → List ℕ
own_blocks opens = map (λ (o : Open). o.block) opens

no_other : (block : ℕ) (opens : List Open) → jumps_in opens block ≡ false
    → Each (λ (j : ℕ). j ≡ block → ⊥) (own_blocks opens)
no_other block [] none = tt
no_other block (o ∷ opens) none =
    let parts = or_parts (o.block == block) (jumps_in opens block) none in
    (λ same. false≢true (sym parts.0 ∙ eq-eqb o.block block same), no_other block opens parts.1)

own_apart : (opens : List Open) → AreOne opens → AreDistinct (own_blocks opens)
own_apart [] one = tt
own_apart (o ∷ opens) one = (no_other o.block opens one.0, own_apart opens one.1)

some_each : (b : Blocks) (opens : List Open) → Each (λ o. 2 ≤ size_of b o.block) opens
    → length opens ≤ sum_by (λ k. size_of b k - 1) (own_blocks opens)
some_each b [] each = omega arith
some_each b (o ∷ opens) each = simp sum_by-cons (omega (arith, each.0, some_each b opens each.1))

module _ (text : Words) (given : List ℕ) (entry : ℕ) (is_text : IsText text) where
  abbrev b : Blocks
  b = blocks_of text given

  abbrev opens : List Open
  opens = opens_in text given entry

  abbrev count : ℕ
  count = length b.firsts

  parts : IsCut text b
  parts = cut text given is_text.some

  case_blocks : Each (IsCaseBlock text b) opens
  case_blocks =
      each-then (IsOpenSwitch text (entered_of text given) entry) _ opens (case_block text given entry is_text)
      (opens_are text given entry is_text)

  room_for_copies : count + length opens ≤ length text.words
  room_for_copies =
      let less : ℕ → ℕ = λ k. size_of b k - 1 in
      omega (
        arith,
        some_each b opens (each-then (IsCaseBlock text b) _ opens (λ o is.
            let load = is.loaded in omega (arith, is.first, is.last, load.above, load.below)) case_blocks),
        distinct_sum less count (own_blocks opens) (own_apart opens (are_open text given entry is_text).one)
            (each-map _ _ opens (each-then (IsCaseBlock text b) _ opens (λ o is. is.within) case_blocks)),
        total_below (λ k. less k + 1) (size_of b) count
            (λ k l. omega (arith, some_words b.words b.firsts parts.firsts k l)),
        total_plus less (λ k. 1) count,
        total_ones count,
        sizes_all b parts.firsts count refl,
        parts.words,
      )

  entries_few : entries_of opens ≤ length text.words
  unfolding entries_of
  entries_few = omega (arith, (are_open text given entry is_text).entries, parts.words)

  pub edges_in_all : length (edges_in b opens) ≤ 4 * length text.words
  edges_in_all =
      omega (
        arith,
        sum_ones (edges_in b opens),
        few_in_all b opens (λ edge. 1) (λ k. 1 + cond (compares_in opens k) 1 0) (edges_few b opens),
        total_plus (λ k. 1) (λ k. cond (compares_in opens k) 1 0) count,
        total_ones count,
        compared_few opens 1 count,
        room_for_copies,
        entries_few,
      )

  pub copies_in_all : sum_by (copies_of (graph_of b opens)) (edges_in b opens) ≤ 4 * length text.words
  copies_in_all =
      omega (
        arith,
        few_in_all b opens (copies_of (graph_of b opens)) (size_of b) (copies_few b opens),
        sizes_all b parts.firsts count refl,
        parts.words,
        room_for_copies,
        entries_few,
      )
