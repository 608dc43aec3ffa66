-- What is known of the graph of a text with its open switches: where their blocks lie, that no two share one, and so
-- how many words, entries and edges there are.
use Rattle.image_code.proofs.Common.{[], ◌≡◌, ℕ, zero, suc, ◌+◌, ◌-◌, ◌*◌, ◌<◌, ◌≤◌, true, false, ◌==◌, Option, Some, None, List, ◌∷◌, ◌++◌, length, map, refl, ap, sym, ◌∙◌, subst, arith, if◌then◌else◌, slice_get, slice_index, flat_map, sum_by, option_to_list, cond_both, eq-eqb, false≢true, nat_tests, length-append, length-map, sum_by-cons, Words, IsText, decode_of, is_transfer, within, Blocks, below, blocks_of, end_of, holding_of, last_word, size_of, entered_of, is_jump, get_or-below, length-below, Edge, Node, same_kind, IsEdgeIn, Open, jumps_in, targets_in, Graph, edges_in, graph_of, IsCut, cut, block, copy, ends_within, some_words, Each, each, each-append, each-below, each_at, IsOpenSwitch, opens_are, All, get_or-map, BlockEnd, Way, number_of, is_copied, edge_of, is_held, each-map, each-then, about, filter, or_parts, count_by-le-length, length-filter, Switch, is_among, Entered, ways_from, switch_of, switches_of, targets_within, AreOne, AreOpenIn, IsOpenIn, IsTableIn, edges_of-few, entries_of, flat_few, targets_few, total, total_flat, total_le, ways_out-few, ends_at_next, ends_at_words, each-flat_map, each_in, edges_lie_in, IsOwn, ways_are_own, load_of, or_zero, edges_but_landings, IsGraphOf, opens_in, cases_lt, inl, inr, zero-add, find, range_with_len, or_first, loads_by, StandsInText, length-take}
use Rattle.cfg_blocks.specs.declared.BlockEnd.TheVariants as ends
use Rattle.cfg_blocks.specs.declared.EdgeKind.TheVariants as kinds
use Rattle.std.proofs.lemmas.List.{take_at}
use Rattle.cfg_blocks.specs.Code.{AreFirsts, IsBlockList}
use Rattle.cfg_blocks.specs.Arrivals.{entered_in}
use Rattle.cfg_blocks.specs.Values.{instr_at}
use Rattle.cfg_blocks.proofs.Agreement.{entered_alike}
use Rattle.cfg_normal.specs.Graph.{case_of, copied_edges, edges_of, landing_at, landings_of, ways_out}
use Rattle.cfg_normal.specs.Code.{landing_count}
use Rattle.cfg_normal.proofs.Candidates.{opens_are as open_in_blocks}
use Rattle.jump_slice.proofs.Parts.{switch_of-is, table_in}
use Rattle.switch_runs.proofs.Into.{leads_in}
use Rattle.switch_runs.proofs.Opened.{found_in}
use Rattle.switch_runs.proofs.Whole.{ends_count}
use Rattle.image_code.proofs.Positions.{any_at, get_taken, get_second, found_within}
use Rattle.image_code.proofs.OpenSums.{AreDistinct, distinct_sum, sum_flat}

-- ---- one open switch

-- The word to which a block's branch leads on the one way that an open switch takes: untaken for `bgu`, taken for
-- `bleu`.
abbrev led_by : ℕ → ℕ → BlockEnd → ℕ
led_by count last (ends.Branch c annul target) = or_zero (if c == 12 then within count (last + 2) else number_of target)
led_by count last _ = 0

abbrev led_word : Blocks → ℕ → ℕ
led_word b k = led_by b.words (last_word b.firsts b.words k) (end_of b k)

-- Its blocks are blocks of the text that end in transfers, one in a branch and one in a jump. The branch leads to one
-- jump alone, and the load stands in the jump's block.
pub record IsSwitchIn (text : Words) (b : Blocks) (o : Open) : Type 0 where
  pub compare_in : o.switch.compare.0 < length b.firsts
  pub block_in : o.block < length b.firsts
  pub branches : is_transfer (decode_of (slice_index text.words (last_word b.firsts b.words o.switch.compare.0))) ≡ true
  pub jumps : is_transfer (decode_of (slice_index text.words (last_word b.firsts b.words o.block))) ≡ true
  pub branch : is_jump (end_of b o.switch.compare.0) ≡ false
  pub jump : is_jump (end_of b o.block) ≡ true
  pub led : o.block ≡ holding_of b (led_word b o.switch.compare.0)
  pub above : slice_index b.firsts o.block ≤ load_of text o
  pub below : load_of text o ≤ last_word b.firsts b.words o.block

-- the load stands in the jump's block
pub load_between : (text : Words) (o : Open) → o.approach.first ≤ o.approach.jump
    → (o.approach.first ≤ load_of text o) × (load_of text o ≤ o.approach.jump)
unfolding load_of
load_between text o ordered = by _ refl
  where
    by : (found : Option ℕ) → find (λ word. loads_by text o word (instr_at text word))
        (range_with_len o.approach.first (o.approach.jump - o.approach.first)) ≡ found
        → (o.approach.first ≤ or_first o found) × (or_first o found ≤ o.approach.jump)
    by None e = (omega arith, ordered)
    by (Some word) e =
        let h = found_within _ o.approach.first (o.approach.jump - o.approach.first) word e in (h.0, omega (arith, h.1))

pub load_within : (text : Words) (b : Blocks) (o : Open) → StandsInText text b o
    → (slice_index b.firsts o.block ≤ load_of text o) × (load_of text o ≤ last_word b.firsts b.words o.block)
load_within text b o stands =
    let h = load_between text o stands.ordered in omega (arith, h.0, h.1, stands.first, stands.jump)

module _ (text : Words) (given : List ℕ) (entry : ℕ) (is_text : IsText text) where
  abbrev its : Blocks
  its = blocks_of text given

  parts : IsCut text its
  parts = cut text given is_text.some

  switch_in : (o : Open) → IsOpenSwitch text (entered_of text given) entry o → IsSwitchIn text its o
  unfolding entered_of
  switch_in o is =
      let a = about text given entry is_text o is in
      let s = switch_of-is text (entered_of text given) entry o.block o.switch is.is_switch o.switch.compare o.way is.cond
      is.annul is.parts.target o.approach.compare is.parts.edge is.parts.branch is.parts.sets in
      let some = some_words its.words its.firsts parts.firsts o.block a.block_in in
      let load = load_between text o (omega (arith, a.first, a.jump)) in
      let leads = leads_in text given o.block o.switch.compare o.way a.block_in is.parts.edge is.cond is.annul
      is.parts.target is.parts.branch in
      -- a bound's way, by its condition
      let way : o.way ≡ (if is.cond == 12 then kinds.Untaken else kinds.Taken) =
      let bounded = a.bounded in grind (arith, nat_tests) in
      let first : led_word its o.switch.compare.0 ≡ slice_index its.firsts o.block =
      ap (led_by its.words (last_word its.firsts its.words o.switch.compare.0)) is.parts.branch
      ∙ cond_both (is.cond == 12) _ _ (λ (to : Option ℕ). or_zero to ≡ slice_index its.firsts o.block)
      (λ e. ap or_zero (leads.untaken (rw e at way))) (λ e. ap or_zero (leads.taken (rw e at way))) in
      record {
        compare_in = a.from_in;
        block_in = a.block_in;
        branches = ap (λ (w : ℕ). is_transfer (instr_at text w)) (sym a.last) ∙ ap is_transfer a.branch;
        jumps = ap is_transfer s.jumps.is;
        branch = ap is_jump is.parts.branch;
        jump = (found_in text (entered_of text given) o.block o.switch entry is.is_switch).1;
        led = rw first (sym (is_held its.words its.firsts parts.firsts (slice_index its.firsts o.block) o.block
            (record { within = a.block_in; above = omega arith; below = some })));
        above = omega (arith, load.0, a.first);
        below = omega (arith, load.1, a.jump);
      }

  -- ---- the list of blocks, and the tables

  pub is_list : IsBlockList (entered_of text given)
  unfolding entered_of entered_in
  is_list =
      let marks = map (is_among given) (below (length text.words)) in
      let alike = entered_alike text given marks is_text.some (λ k l. get_or-map (is_among given) _ k 0 false
      (omega (arith, l, length-below (length text.words))) ∙ ap (is_among given) (get_or-below (length text.words) k 0 l)) in
      record {
        firsts = parts.firsts;
        ends = ends_count text given;
        targets = rw (parts.words, ← ap (λ (list : Entered). list.blocks.ends) alike)
            (targets_within text _ _ _ _ refl refl);
        intos = length-map (below (length its.firsts)) _ ∙ length-below (length its.firsts);
        few = omega (arith, parts.words, is_text.few);
      }

  tables : Each (IsTableIn text) (switches_of text (entered_of text given) entry)
  unfolding entered_of
  tables = each-flat_map _ _ _ (each-below _ (length its.firsts) (λ k l. by k l _ refl))
    where
      by : (k : ℕ) → k < length its.firsts → (o : Option Switch) → switch_of text (entered_of text given) entry k ≡ o
          → Each (IsTableIn text) (option_to_list o)
      by k l None e = tt
      by k l (Some switch) e =
          let f = (found_in text (entered_of text given) k switch entry e).0 in
          let s = switch_of-is text (entered_of text given) entry k switch e f.from f.way f.cond f.annul f.target f.compare
          f.edge f.branch f.sets in
          let some = some_words its.words its.firsts parts.firsts k l in
          let inside = ends_within its.words its.firsts parts.firsts k l in (
            table_in text switch (omega (arith, f.jump_is, parts.words)) (omega (arith, s.jumps.count))
                (rw s.jumps.count s.jumps.table),
            tt,
          )

  pub are_open : AreOpenIn its (opens_in text given entry)
  unfolding entered_of
  are_open =
      open_in_blocks text (entered_of text given) parts.words is_list (switches_of text (entered_of text given) entry)
      (λ k d l. each_in (IsTableIn text) (switches_of text (entered_of text given) entry) k d tables l)

-- ---- their blocks differ

-- the blocks of each, its comparison's first
abbrev keys : List Open → List ℕ
keys opens = flat_map (λ (o : Open). o.switch.compare.0 ∷ o.block ∷ []) opens

-- the words of both blocks
abbrev pub words_of : Blocks → Open → ℕ
words_of b o = size_of b o.switch.compare.0 + size_of b o.block

module _ (text : Words) (b : Blocks) where
  abbrev AreIn : List Open → Type 0
  AreIn = Each (IsSwitchIn text b)

  keys_low : (opens : List Open) → AreIn opens → Each (λ k. k < length b.firsts) (keys opens)
  keys_low [] are = tt
  keys_low (o ∷ opens) are = (are.0.compare_in, (are.0.block_in, keys_low opens are.1))

  -- a branch is no jump
  branch_jump : (j k : ℕ) → is_jump (end_of b j) ≡ false → is_jump (end_of b k) ≡ true → j ≡ k → ⊥
  branch_jump j k branch jump e = false≢true (sym branch ∙ rw e jump)

  abbrev IsNoneOf : Open → ℕ → Type 0
  IsNoneOf o j = (j ≡ o.switch.compare.0 → ⊥) × (j ≡ o.block → ⊥)

  no_other : (o : Open) → IsSwitchIn text b o → (opens : List Open) → AreIn opens → jumps_in opens o.block ≡ false
      → Each (IsNoneOf o) (keys opens)
  no_other o is [] are new = tt
  no_other o is (p ∷ opens) are new =
      let apart = or_parts (p.block == o.block) (jumps_in opens o.block) new in
      let differ : p.block ≡ o.block → ⊥ = λ e. false≢true (sym apart.0 ∙ eq-eqb p.block o.block e) in (
        (λ e. differ (are.0.led ∙ rw e (sym is.led)), branch_jump _ _ are.0.branch is.jump),
        ((λ e. branch_jump _ _ is.branch are.0.jump (sym e), differ), no_other o is opens are.1 apart.1),
      )

  keys_apart : (opens : List Open) → AreIn opens → AreOne opens → AreDistinct (keys opens)
  keys_apart [] are one = tt
  keys_apart (o ∷ opens) are one =
      let others = no_other o are.0 opens are.1 one.0 in (
        (λ e. branch_jump _ _ are.0.branch are.0.jump (sym e), each-then (IsNoneOf o) _ (keys opens) (λ j h. h.0) others),
        (each-then (IsNoneOf o) _ (keys opens) (λ j h. h.1) others, keys_apart opens are.1 one.1),
      )

  -- each has a word at least
  few_of : AreFirsts b.words b.firsts → (opens : List Open) → AreIn opens → length opens ≤ sum_by (words_of b) opens
  few_of f [] are = omega arith
  few_of f (o ∷ opens) are =
      let some = some_words b.words b.firsts f o.block are.0.block_in in
      omega (arith, sum_by-cons (words_of b) o opens, some, few_of f opens are.1)

-- each by its number
apart_at : (opens : List Open) → AreOne opens → (j k : ℕ) (o p : Open) → j < k → slice_get opens j ≡ Some o
    → slice_get opens k ≡ Some p → o.block ≡ p.block → ⊥
apart_at [] one j k o p l e d same = absurd (cc)
apart_at (q ∷ opens) one zero (suc k) o p l e d same =
    let here : q.block ≡ p.block = cc in
    false≢true (sym one.0 ∙ any_at (λ (x : Open). x.block == q.block) opens k p d (eq-eqb p.block q.block (sym here)))
apart_at (q ∷ opens) one (suc j) (suc k) o p l e d same = apart_at opens one.1 j k o p (omega (arith, l)) e d same
apart_at (q ∷ opens) one j zero o p l e d same = omega arith

-- ---- the blocks follow one another

module _ (b : Blocks) (f : AreFirsts b.words b.firsts) where
  sizes_before : (k : ℕ) → k < length b.firsts → total (size_of b) k ≡ slice_index b.firsts k
  unfolding total
  sizes_before zero l = omega (arith, f.begin)
  sizes_before (suc k) l =
      let some = some_words b.words b.firsts f k (omega (arith, l)) in
      omega (arith, sizes_before k (omega (arith, l)), some, ends_at_next b.words b.firsts f k l)

  pub sizes_all : (n : ℕ) → n ≡ length b.firsts → total (size_of b) n ≡ b.words
  unfolding total
  sizes_all zero e = absurd (omega (arith, f.some))
  sizes_all (suc k) e =
      let some = some_words b.words b.firsts f k (omega (arith, e)) in
      omega (arith, sizes_before k (omega (arith, e)), some, ends_at_words b.words b.firsts f k (omega (arith, e)))

-- ---- edges

module _ (b : Blocks) (opens : List Open) where
  abbrev blocks_edges : List Edge
  blocks_edges = flat_map (edges_of b opens) (below (length b.firsts))

  abbrev copies_edges : List Edge
  copies_edges = flat_map (copied_edges b opens) (filter (is_copied opens) (below (length b.firsts)))

  abbrev nodes : List Node
  nodes = flat_map (landings_of opens) (below (length b.firsts))

  own_are : edges_but_landings (graph_of b opens) ≡ blocks_edges ++ copies_edges
  unfolding edges_in
  own_are =
      take_at (blocks_edges ++ copies_edges) (map landing_at nodes) _ (simp (length-append, length-map) (omega arith))

  own_few : entries_of opens ≤ b.words → length b.firsts ≤ b.words
      → length (edges_but_landings (graph_of b opens)) ≤ 5 * b.words
  own_few entries firsts =
      let blocks = below (length b.firsts) in
      let copied = flat_few (copied_edges b opens) (filter (is_copied opens) blocks) (λ k. ways_out-few b opens _ k) in
      let blocked = count_by-le-length (is_copied opens) blocks in
      let own = total_le _ (λ k. length (targets_in opens k)) (length b.firsts) (edges_of-few b opens) in
      let targets = targets_few opens (length b.firsts) in
      let count = length-below (length b.firsts) in
      rw own_are (simp (length-append, total_flat) (omega (arith, own, length-filter (is_copied opens) blocks)))

  abbrev NoLanding : Edge → Type 0
  NoLanding edge = same_kind edge.kind kinds.Land ≡ false

  ways_no_landings : (from : Node) (k : ℕ) → Each NoLanding (ways_out b opens from k)
  ways_no_landings from k =
      each-map NoLanding (edge_of b opens from k) (ways_from b k)
      (each-then IsOwn (λ (w : Way). same_kind w.kind kinds.Land ≡ false) (ways_from b k) (λ w own. own.0)
      (ways_are_own b.words (last_word b.firsts b.words k) (end_of b k)))

  no_landings : Each NoLanding (edges_but_landings (graph_of b opens))
  no_landings =
      rw own_are (each-append _ blocks_edges copies_edges
      (each-flat_map _ (edges_of b opens) _ (each _ _ (λ k. cond_both (jumps_in opens k) _ _ (Each NoLanding)
      (λ _. each-map _ (case_of b k) _ (each _ _ (λ n. refl))) (λ _. ways_no_landings (block k) k))))
      (each-flat_map _ (copied_edges b opens) _ (each _ _ (λ k. ways_no_landings (copy k) k))))

  -- an edge that is no landing stands before the landings
  pub own_before : (number : ℕ) (edge : Edge) → slice_get (edges_in b opens) number ≡ Some edge → NoLanding edge
      → number < length (edges_but_landings (graph_of b opens))
  unfolding edges_in
  own_before number edge e other = rw own_are (elim (cases_lt number (length (blocks_edges ++ copies_edges))) [
    | inl l ↦ l
    | inr m ↦
        let k = number - length (blocks_edges ++ copies_edges) in
        let here : length (blocks_edges ++ copies_edges) + k ≡ number = omega (arith, m) in
        absurd (false≢true (sym other
        ∙ each_at (λ (x : Edge). same_kind x.kind kinds.Land ≡ true) (map landing_at nodes) k edge
        (each-map _ landing_at nodes (each _ nodes (λ n. refl)))
        (sym (get_second (blocks_edges ++ copies_edges) (map landing_at nodes) k) ∙ rw here e)))
  ])

-- ---- the graph

pub record IsTextGraph (text : Words) (graph : Graph) : Type 0 where
  pub cut : IsCut text graph.blocks
  pub switches : Each (IsSwitchIn text graph.blocks) graph.opens
  pub apart : (j k : ℕ) (o p : Open) → j < k → slice_get graph.opens j ≡ Some o → slice_get graph.opens k ≡ Some p
      → o.block ≡ p.block → ⊥
  pub room : sum_by (words_of graph.blocks) graph.opens ≤ length text.words
  pub few : length graph.opens ≤ length text.words
  pub entries : sum_by (λ (o : Open). length o.targets) graph.opens ≤ length text.words
  pub targets : Each (λ (o : Open). Each (λ word. word < length text.words) o.targets) graph.opens
  pub own_few : length (edges_but_landings graph) ≤ 5 * length text.words
  -- the edges but for the landings stand before these
  pub no_landings : (number : ℕ) (edge : Edge) → number < length (edges_but_landings graph)
      → slice_get graph.edges number ≡ Some edge → same_kind edge.kind kinds.Land ≡ false
  pub before : (number : ℕ) (edge : Edge) → slice_get graph.edges number ≡ Some edge
      → same_kind edge.kind kinds.Land ≡ false → number < length (edges_but_landings graph)
  pub edges : Each (IsEdgeIn graph.blocks graph.opens) graph.edges

each_from : {A : Type 0} (P Q : A → Type 0) (xs : List A) → ((x : A) → P x → Q x) → All P xs → Each Q xs
each_from P Q [] f h = tt
each_from P Q (x ∷ xs) f h =
    (f x (h 0 x (omega arith)), each_from P Q xs f (λ k d l. h (suc k) d (omega (arith, l))))

pub text_graph : (text : Words) (graph : Graph) → IsText text → IsGraphOf text graph → IsTextGraph text graph
unfolding edges_in entries_of
text_graph text graph is_text h =
    let b = blocks_of text h.given in
    let opens = opens_in text h.given h.entry in
    let c = cut text h.given is_text.some in
    let switches : Each (IsSwitchIn text b) opens =
    each-then _ _ _ (switch_in text h.given h.entry is_text) (opens_are text h.given h.entry is_text) in
    let are = are_open text h.given h.entry is_text in
    let keyed : sum_by (size_of b) (keys opens) ≡ sum_by (words_of b) opens = simp (sum_flat, zero-add) in
    let distinct = distinct_sum (size_of b) (length b.firsts) (keys opens) (keys_apart text b opens switches are.one)
    (keys_low text b opens switches) in
    let room : sum_by (words_of b) opens ≤ b.words =
    omega (arith, keyed, distinct, sizes_all b c.firsts (length b.firsts) refl) in
    let own = own_few b opens are.entries c.firsts.few in
    subst (IsTextGraph text) (sym h.is) (record {
      cut = c;
      switches = switches;
      apart = apart_at opens are.one;
      room = omega arith;
      few = omega (arith, few_of text b c.firsts opens switches);
      entries = omega (arith, are.entries);
      targets = each_from (IsOpenIn b) _ opens
          (λ o is. each_from (λ word. word < b.words) _ o.targets (λ word l. omega (arith, l)) is.targets) are.each;
      own_few = omega arith;
      no_landings = λ number edge l e.
          let count = length (edges_in b opens) - landing_count (graph_of b opens) in
          let low : number < count = omega (arith, l, length-take count (edges_in b opens)) in
          each_at _ (edges_but_landings (graph_of b opens)) number edge (no_landings b opens)
          (get_taken count number (edges_in b opens) low ∙ e);
      before = own_before b opens;
      edges = edges_lie_in b opens c.firsts.some;
    })
