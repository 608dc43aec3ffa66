-- The ranks of edges, and that weights rise with them.
use Rattle.span_tree.proofs.Common.{◌≡◌, ℕ, ◌^◌, ◌<◌, ◌≤◌, List, [], ◌∷◌, length, map, ap, ◌∙◌, arith, All, length-map, All-cons, All-nil, weight_in, RisesWith, common_steps, Blocks, below, get_or-below, length-below, Edge, Node, Graph, edge_at, rank_of, tie_by, weight_from, weights_of}
use Rattle.cfg_blocks.specs.declared.EdgeKind.{EdgeKind}

-- ---- ties

pub tie_few : (b : Blocks) (kind : EdgeKind) (to : Node) → tie_by b kind to < 4
tie_few b kind to = grind arith

-- ---- the list of ranks

pub ranks_length : (g : Graph) (weights ranks : List ℕ) (n : ℕ) → ranks ≡ map (rank_of g weights) (below n) → length ranks ≡ n
ranks_length g weights ranks n are = ap length are ∙ length-map (below n) (rank_of g weights) ∙ length-below n

module _ (g : Graph) (weights ranks : List ℕ) (n : ℕ) (are : ranks ≡ map (rank_of g weights) (below n)) where
  rank_at : (e : ℕ) → e < n → weight_in ranks e ≡ rank_of g weights e
  rank_at e l = rw are (grind (arith, common_steps, length-below n, get_or-below n e 0))

  pub ranks_rise : RisesWith n (weight_in ranks) (rank_of g weights)
  ranks_rise e h le lh below = omega (arith, below, rank_at e le, rank_at h lh)

  pub weights_rise : RisesWith n (weight_in ranks) (weight_in weights)
  weights_rise e h le lh below =
      let one = tie_few g.blocks (edge_at g e).kind (edge_at g e).to in
      let other = tie_few g.blocks (edge_at g h).kind (edge_at g h).to in
      omega (arith, below, rank_at e le, rank_at h lh, one, other)

-- ---- weights

weight_most : (b : Blocks) (node : Node) → weight_from b node ≤ 2 ^ 32
weight_most b node = grind arith

pub weights_most : (b : Blocks) (edges : List Edge) → All (λ weight. weight ≤ 2 ^ 32) (weights_of b edges)
weights_most b [] = All-nil (λ weight. weight ≤ 2 ^ 32)
weights_most b (x ∷ xs) =
    All-cons (λ weight. weight ≤ 2 ^ 32) (weight_from b x.from) (weights_of b xs) (weight_most b x.from) (weights_most b xs)
