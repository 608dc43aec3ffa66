-- One step of the peeling, on lists.
use Rattle.flow_rebuild.proofs.Common.{◌≡◌, ℕ, ◌<◌, ◌≤◌, ◌⊎◌, inl, inr, true, false, cond, List, [], ◌∷◌, ◌++◌, not, length, set, refl, ap, sym, ◌∙◌, arith, ℤ, pos, ◌+ℤ◌, ◌==◌, if◌then◌else◌, ints, cases_eq, eq-eqb, ne_eqb, get_or-set_same, get_or-set_other, length-set, length-append, Graph, IsFlow, NodeSet, IsTheFlow, rest, graph_of, link_at, IsLinked, only, far_end, Grows, on, joined_by, HasEveryEnd, Link, eqb_swap, not_twice, off_grown_determines, far_inside, total_zero, excess, int_at, abs_sum, other_node, carries, reached_by, edges_of, IsGrown, nodes_in, edges_in, Join, marked_below, graph_ok, edges-push, nodes-push}
use Rattle.flow_tree.specs.declared.Tree.{Tree}
use Rattle.flow_rebuild.proofs.Changed.{Moved, carried, other_end, with_at}
use Rattle.flow_rebuild.proofs.Settling.{Settled, settle_last, moved, last_of, Last, on_pushed, settled_flow, on_in_push}
use Rattle.flow_rebuild.proofs.Sums.{abs_moved}

pub int_set : (xs : List ℤ) (e : ℕ) (z : ℤ) → e < length xs → int_at (set xs e z) ≡ with_at (int_at xs) e z
int_set xs e z l = λ i u. at u i
  where
    at : (u : ℕ) → int_at (set xs e z) u ≡ with_at (int_at xs) e z u
    at u = elim (cases_eq u e) [
      | inl c ↦ rw (c, eq-eqb e e refl) (get_or-set_same xs e z (pos 0) l)
      | inr c ↦ rw (ne_eqb u e c) (get_or-set_other xs e u z (pos 0) c)
    ]

-- edges with a node each are apart from their last one
snoc_equal : (xs ys : List ℕ) (x y : ℕ) → xs ++ x ∷ [] ≡ ys ++ y ∷ [] → (xs ≡ ys) × (x ≡ y)
snoc_equal [] [] x y e = (refl, cc)
snoc_equal [] (b ∷ ys) x y e = absurd (omega (arith, ap length e, length-append ys (y ∷ [])))
snoc_equal (a ∷ xs) [] x y e = absurd (omega (arith, ap length e, length-append xs (x ∷ [])))
snoc_equal (a ∷ xs) (b ∷ ys) x y e = let r = snoc_equal xs ys x y cc in let h : a ≡ b = cc in (cc, r.1)

-- the joins `left` carry nothing yet, and the nodes that came in after them have no excess
pub record IsPeeled (n : ℕ) (links : List Link) (root a b : ℕ) (left : List Join) (values ex : List ℤ) : Type 0 where
  pub values_len : length values ≡ length links
  pub excess_len : length ex ≡ n
  pub settled : Settled (graph_of n links) (λ e. 0) root a b (edges_in left) (int_at values)
  pub joined : nodes_in left ≡ joined_by (graph_of n links) (only root) (edges_in left)
  pub excesses : (u : ℕ) → u < n → int_at ex u ≡ excess (graph_of n links) a b (int_at values) u

-- the last join
module _ {n : ℕ} {links : List Link} {root a b : ℕ} (left : List Join) (j : Join) {values ex : List ℤ}
    (ok : IsLinked n links) (h : IsPeeled n links root a b (left ++ j ∷ []) values ex) where
  abbrev g : Graph
  g = graph_of n links

  abbrev other : ℕ
  other = other_node (link_at links j.edge) j.node

  -- the values and excesses with the excess of its node at its edge's other end
  abbrev values' : ℕ → ℤ
  values' = with_at (int_at values) j.edge (carried g j.edge j.node (excess g a b (int_at values) j.node))

  abbrev ex' : List ℤ
  ex' = set ex other (int_at ex other +ℤ int_at ex j.node)

  grows : Grows g (λ e. 0) (only root) (edges_in left ++ j.edge ∷ []) h.settled.reached
  grows = rw (edges-push left j) at h.settled.grows

  abbrev la : Last g (λ e. 0) (only root) (edges_in left) j.edge h.settled.reached
  la = last_of g (λ e. 0) (only root) (edges_in left) j.edge h.settled.reached grows

  apart : (nodes_in left ≡ joined_by g (only root) (edges_in left)) × (j.node ≡ far_end g la.before j.edge)
  apart = snoc_equal _ _ _ _ (sym (nodes-push left j) ∙ h.joined ∙ ap (joined_by g (only root)) (edges-push left j) ∙ la.joined)

  pub edge_inside : j.edge < length links
  edge_inside = la.heaviest.inside

  pub node_inside : j.node < n
  node_inside = rw apart.1 (far_inside g la.before j.edge (graph_ok n links ok) la.heaviest.inside)

  unset : int_at values j.edge ≡ pos 0
  unset = h.settled.unset j.edge la.heaviest.inside (rw (edges-push left j) (on_pushed (edges_in left) j.edge))

  moves : Moved g a b (int_at values) values' j.node (other_end g j.edge j.node)
      × (la.before (other_end g j.edge j.node) ≡ true) × (other_end g j.edge j.node ≡ j.node → ⊥)
  moves = moved g la.before a b (int_at values) j.edge j.node la.heaviest.inside la.heaviest.across apart.1 unset

  other_inside : other < n
  other_inside =
      let k : ((link_at links j.edge).from < n) × ((link_at links j.edge).to < n) = ok j.edge _ la.heaviest.inside in
      by (link_at links j.edge).to (link_at links j.edge).from k.0 k.1
    where
      by : (t f : ℕ) → f < n → t < n → (if t == j.node then f else t) < n
      by t f p q = grind arith

  node_there : j.node < length ex
  node_there = omega (arith, node_inside, h.excess_len)

  other_there : other < length ex
  other_there = omega (arith, other_inside, h.excess_len)

  values_are : int_at (set values j.edge (carries (link_at links j.edge) j.node (int_at ex j.node))) ≡ values'
  values_are = rw (h.excesses j.node node_inside) (int_set values j.edge _ (omega (arith, edge_inside, h.values_len)))

  excess_at : (u : ℕ) → u < n → (u ≡ j.node) ⊎ (u ≡ j.node → ⊥) → (u ≡ other) ⊎ (u ≡ other → ⊥) →
      int_at (set ex' j.node (pos 0)) u ≡ excess g a b values' u
  excess_at u l (inl c) d =
      rw c (get_or-set_same ex' j.node (pos 0) (pos 0) (omega (arith, length-set ex other (int_at ex other +ℤ int_at ex j.node), node_there)) ∙ sym moves.0.none_left)
  excess_at u l (inr c) (inl d) =
      rw d (get_or-set_other ex' j.node other (pos 0) (pos 0) moves.2 ∙ get_or-set_same ex other _ (pos 0) other_there
      ∙ cc (h.excesses other other_inside, h.excesses j.node node_inside, moves.0.taken))
  excess_at u l (inr c) (inr d) =
      get_or-set_other ex' j.node u (pos 0) (pos 0) c ∙ get_or-set_other ex other u _ (pos 0) d ∙ h.excesses u l ∙ sym (moves.0.others u c d)

  pub peel_small : abs_sum (set ex' j.node (pos 0)) ≤ abs_sum ex
  peel_small = abs_moved ex other j.node other_there node_there moves.2

  pub peel_step : IsPeeled n links root a b left (set values j.edge (carries (link_at links j.edge) j.node (int_at ex j.node))) (set ex' j.node (pos 0))
  peel_step = record {
    values_len = length-set values j.edge _ ∙ h.values_len;
    excess_len = length-set ex' j.node _ ∙ length-set ex other _ ∙ h.excess_len;
    settled = rw values_are (settle_last g (λ e. 0) root a b (edges_in left) j.edge j.node (int_at values) h.settled.reached grows apart.1
        (λ i l o. h.settled.unset i l (rw (edges-push left j) o)) h.settled.done);
    joined = apart.0;
    excesses = λ u l. excess_at u l (cases_eq u j.node) (cases_eq u other) ∙ ap (λ (x : ℕ → ℤ). excess g a b x u) (sym values_are);
  }

-- a node outside the tree has no edge, and is not the start or the end
excess_outside : (g : Graph) (a b : ℕ) (x : ℕ → ℤ) (t : NodeSet) (u : ℕ) → HasEveryEnd g t → t a ≡ true → t b ≡ true → t u ≡ false → excess g a b x u ≡ pos 0
excess_outside g a b x t u ends ta tb h =
    let p = total_zero g.edges (λ e. if g.to e == u then x e else pos 0) (λ e l. apart (g.to e) (ends e l).1 (x e)) in
    let q = total_zero g.edges (λ e. if g.from e == u then x e else pos 0) (λ e l. apart (g.from e) (ends e l).0 (x e)) in
    omega (arith, ints, p, q, rw (eqb_swap a u) at (apart a ta (pos 1)), rw (eqb_swap b u) at (apart b tb (pos 1)))
  where
    apart : (v : ℕ) → t v ≡ true → (z : ℤ) → cond (v == u) z (pos 0) ≡ pos 0
    apart v k z = grind arith

pub start_settled : (n : ℕ) (links : List Link) (tree : Tree) (a b : ℕ) (values : List ℤ) → IsGrown (graph_of n links) tree → HasEveryEnd (graph_of n links) (reached_by tree) → reached_by tree a ≡ true → reached_by tree b ≡ true →
    ((e : ℕ) → on (edges_of tree) e ≡ true → int_at values e ≡ pos 0) → Settled (graph_of n links) (λ e. 0) tree.root a b (edges_of tree) (int_at values)
start_settled n links tree a b values h ends ta tb unset = record {
  reached = reached_by tree;
  grows = h.grows;
  unset = λ e l o. unset e o;
  done = λ u l c. excess_outside (graph_of n links) a b (int_at values) (reached_by tree) u ends ta tb c;
}

pub start_peeled : (n m : ℕ) (links : List Link) (tree : Tree) (a b : ℕ) (left : List Join) (values ex : List ℤ) → m ≡ n → left ≡ tree.joins.items →
    IsGrown (graph_of n links) tree → HasEveryEnd (graph_of n links) (reached_by tree) → reached_by tree a ≡ true → reached_by tree b ≡ true → length values ≡ length links → length ex ≡ m →
    ((e : ℕ) → on (edges_of tree) e ≡ true → int_at values e ≡ pos 0) → ((u : ℕ) → u < m → int_at ex u ≡ excess (graph_of m links) a b (int_at values) u) →
    IsPeeled n links tree.root a b left values ex
start_peeled n m links tree a b left values ex c e h ends ta tb lv le unset is = rw e (record {
  values_len = lv;
  excess_len = le ∙ c;
  settled = start_settled n links tree a b values h ends ta tb unset;
  joined = h.nodes;
  excesses = λ u l. is u (omega (arith, c));
})

-- a tree has numbers of nodes alone
pub reached_below : (n : ℕ) (links : List Link) (tree : Tree) (v : ℕ) → IsGrown (graph_of n links) tree → reached_by tree v ≡ true → v < n
reached_below n links tree v h t = omega (arith, marked_below tree.reached.items v t, h.len)

-- as the loop meets these facts
pub on_longer : (left : List Join) (j : Join) (all : List Join) (e : ℕ) → all ≡ left ++ j ∷ [] → on (edges_in left) e ≡ true → on (edges_in all) e ≡ true
on_longer left j all e h o = rw (h, edges-push left j) (on_in_push (edges_in left) j.edge e o)

pub on_last : (left : List Join) (j : Join) (all : List Join) → all ≡ left ++ j ∷ [] → on (edges_in all) j.edge ≡ true
on_last left j all h = rw (h, edges-push left j) (on_pushed (edges_in left) j.edge)

pub none_left : (n : ℕ) (links : List Link) (root a b : ℕ) (left : List Join) (values ex : List ℤ) → length left ≡ 0 → IsPeeled n links root a b left values ex → Settled (graph_of n links) (λ e. 0) root a b [] (int_at values)
none_left n links root a b [] values ex e h = h.settled
none_left n links root a b (j ∷ left) values ex e h = absurd (omega arith)

-- ---- the one flow
pub the_flow : (n : ℕ) (links : List Link) (tree : Tree) (a b : ℕ) (given x : List ℤ) → IsLinked n links → IsGrown (graph_of n links) tree → a < n → b < n →
    Settled (graph_of n links) (λ e. 0) tree.root a b [] (int_at x) → ((e : ℕ) → on (edges_of tree) e ≡ false → int_at x e ≡ int_at given e) →
    IsTheFlow (graph_of n links) (rest (on (edges_of tree))) a b (int_at given) (int_at x)
the_flow n links tree a b given x ok h la lb settled same = record {
  flow = flow;
  agrees = λ e l t. sym (same e (off e t));
  only = λ y fy ay. off_grown_determines (graph_of n links) (λ e. 0) tree.root (edges_of tree) (reached_by tree) (graph_ok n links ok) h.grows a b (int_at x) y la lb flow fy (λ e l t. same e (off e t) ∙ ay e l t);
}
  where
    flow : IsFlow (graph_of n links) a b (int_at x)
    flow = settled_flow (graph_of n links) (λ e. 0) tree.root a b (int_at x) (graph_ok n links ok) la lb settled

    off : (e : ℕ) → rest (on (edges_of tree)) e ≡ true → on (edges_of tree) e ≡ false
    off e t = sym (not_twice (on (edges_of tree) e)) ∙ ap not t
