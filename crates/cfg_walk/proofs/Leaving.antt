-- Leaving a block from its last word.
use Rattle.cfg_walk.proofs.Common.{◌≡◌, ℕ, suc, ◌+◌, ◌<◌, true, false, ◌==◌, List, [], inl, inr, slice_index, Some, refl, ap, sym, ◌∙◌, subst, arith, if◌then◌else◌, cond_both, eqb-false, eqb-true, false_from_ne_true, false≢true, lt-ltb, Words, Instr, decode_of, transfers, Way, way, within, end_at, end_by, is_transfer, ways_of, Blocks, block_end, end_of, holding_of, last_word, ways_from, Node, home_of, IsNodeIn, Open, jumps_in, Graph, directed, graph_of, has_cases, node_of, edge_of, AreOpen, is_jump, edge_from, ends_block, left_at, left_by, node_after}
use Rattle.v8_decode.specs.declared.Instr.TheVariants as i
use Rattle.cfg_blocks.specs.declared.BlockEnd.TheVariants as ends
use Rattle.cfg_blocks.specs.declared.EdgeKind.TheVariants as kinds
use Rattle.cfg_walk.proofs.Holding.{IsIn, Leads, in_held, is_held, is_last, ends_within}
use Rattle.cfg_walk.proofs.Cut.{IsCut}
use Rattle.cfg_walk.proofs.Ways.{IsOne, fall_is_one}
use Rattle.cfg_walk.proofs.Edges.{IsEdge, block, edge_found, leads_along, node_at}
use Rattle.cfg_walk.proofs.Nodes.{home_directed, home_of_node}

-- ---- nodes

pub node_is : (b : Blocks) (word : ℕ) → word < b.words → node_of b (Some word) ≡ block (holding_of b word)
node_is b word l = rw (lt-ltb _ _ l)

pub node_within : (b : Blocks) (word : ℕ) → word < b.words
    → node_of b (within b.words word) ≡ block (holding_of b word)
node_within b word l = rw (lt-ltb _ _ l) (node_is b word l)

-- ---- how control leaves a word

pub end_is : (text : Words) (word : ℕ) (instr : Instr) → decode_of (slice_index text.words word) ≡ instr
    → end_at text word ≡ end_by text word instr
unfolding end_at
end_is text word instr e = ap (end_by text word) e

pub straight_end : (text : Words) (word : ℕ) (instr : Instr) → transfers instr ≡ false
    → end_by text word instr ≡ ends.Fall
straight_end text word instr e = grind arith

pub straight_left : (graph : Graph) (node : Node) (word : ℕ) (instr : Instr) → transfers instr ≡ false
    → left_by graph node word instr
    ≡ (if ends_block graph node word then edge_from graph node kinds.Fall else [])
straight_left graph node word (i.Branch cond annul disp22) e = absurd (cc)
straight_left graph node word _ e = refl

-- ---- nodes whose home is a block

pub ends_home : (b : Blocks) (opens : List Open) (node : Node) (k word : ℕ) → home_of node ≡ block k
    → ends_block (graph_of b opens) node word ≡ (word == last_word b.firsts b.words k)
ends_home b opens node k word h = elim (node_at node k h) [ inl here ↦ rw here | inr there ↦ rw there ]

-- a node of a block that ends in no jump has no Case edges
pub no_cases : (b : Blocks) (opens : List Open) → AreOpen b opens → (node : Node) (k : ℕ) → home_of node ≡ block k
    → is_jump (end_of b k) ≡ false → has_cases opens node ≡ false
no_cases b opens are node k h plain = elim (node_at node k h) [
  | inl here ↦ rw here (false_from_ne_true (jumps_in opens k) (λ e. false≢true (sym plain ∙ are k e)))
  | inr there ↦ rw there
]

module _ (text : Words) (b : Blocks) (opens : List Open) (c : IsCut text b) (word : ℕ) (l : word < b.words) where
  -- the block that holds the word
  abbrev pub here : ℕ
  here = holding_of b word

  abbrev graph : Graph
  graph = graph_of b opens

  pub is_in : IsIn b.words b.firsts word here
  is_in = in_held b.words b.firsts c.firsts word l

  pub ways_at : word ≡ last_word b.firsts b.words here
      → ways_from b here ≡ ways_of b.words word (end_at text word)
  ways_at last =
      rw (c.ends here is_in.within, ← last) refl

  -- a transfer is the last word of its block
  pub transfer_ends : is_transfer (end_at text word) ≡ true → word ≡ last_word b.firsts b.words here
  transfer_ends t = is_last b.words b.firsts c.firsts word here is_in (λ more.
      let next : word + 1 ≡ suc word = omega arith in
      subst (λ w. Leads b.firsts w) next (c.after word t (omega arith)))

  pub end_here : word ≡ last_word b.firsts b.words here → end_of b here ≡ end_at text word
  end_here last = c.ends here is_in.within ∙ ap (end_at text) (sym last)

  module _ (are : AreOpen b opens) (node : Node) (there : IsNodeIn b opens node) (home : home_of node ≡ block here) where
    pub way_found : (w : Way) → word ≡ last_word b.firsts b.words here → has_cases opens node ≡ false
        → IsOne w (ways_of b.words word (end_at text word))
        → IsEdge graph (edge_from graph node w.kind) (edge_of b opens node here w)
    way_found w last quiet h =
        edge_found b opens node here w there home quiet (subst (λ ways. IsOne w ways) (sym (ways_at last)) h)

    -- ---- a word that is no transfer

    pub falls_to : end_at text word ≡ ends.Fall → word ≡ last_word b.firsts b.words here
        → node_after graph node (edge_from graph node kinds.Fall)
        ≡ directed opens node kinds.Fall (node_of b (within b.words (word + 1)))
    falls_to e last =
        let quiet : has_cases opens node ≡ false =
        no_cases b opens are node here home (ap is_jump (end_here last ∙ e)) in
        leads_along graph node _ (edge_of b opens node here (way kinds.Fall (within b.words (word + 1))))
        (way_found (way kinds.Fall (within b.words (word + 1))) last quiet
        (rw e (fall_is_one b.words word)))

    falls : end_at text word ≡ ends.Fall → word ≡ last_word b.firsts b.words here
        → home_of (node_after graph node (edge_from graph node kinds.Fall)) ≡ node_of b (within b.words (word + 1))
    falls e last =
        rw (falls_to e last, home_directed, home_of_node) refl

    stays : (word ≡ last_word b.firsts b.words here → ⊥) → block here ≡ node_of b (within b.words (word + 1))
    stays inner =
        let after : word + 1 < block_end b.firsts b.words here = omega (arith, is_in.below, inner) in
        let low : word + 1 < b.words = omega (arith, ends_within b.words b.firsts c.firsts here is_in.within) in
        let same : holding_of b (word + 1) ≡ here =
        is_held b.words b.firsts c.firsts (word + 1) here
        (record { within = is_in.within; above = omega (arith, is_in.above); below = after }) in
        ap block (sym same) ∙ sym (node_within b (word + 1) low)

    pub straight_on : (instr : Instr) → decode_of (slice_index text.words word) ≡ instr
        → transfers instr ≡ false
        → home_of (node_after graph node (left_at text graph node (Some word)))
        ≡ node_of b (within b.words (word + 1))
    straight_on instr is straight =
        rw (is, straight_left graph node word instr straight, ends_home b opens node here word home)
        (cond_both (word == last_word b.firsts b.words here) (edge_from graph node kinds.Fall) []
        (λ numbers. home_of (node_after graph node numbers) ≡ node_of b (within b.words (word + 1)))
        (λ e. falls (end_is text word instr is ∙ straight_end text word instr straight) (eqb-true _ _ e))
        (λ e. home ∙ stays (eqb-false _ _ e)))
