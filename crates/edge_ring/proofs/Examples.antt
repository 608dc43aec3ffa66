-- Facts that compute: no edge, two edges, and six, in a ring of four places.
use Rattle.edge_ring.proofs.Common.{◌≡◌, [], ◌∷◌, refl, edges_in, last_of}

pub no_edges : edges_in 2 (0 ∷ 0 ∷ 0 ∷ 0 ∷ 0 ∷ []) ≡ []
no_edges = refl

two_edges : edges_in 2 (2 ∷ 1 ∷ 4 ∷ 0 ∷ 0 ∷ []) ≡ 0 ∷ 3 ∷ []
two_edges = refl

six_edges : edges_in 2 (6 ∷ 2 ∷ 3 ∷ 2 ∷ 2 ∷ []) ≡ 1 ∷ 1 ∷ 1 ∷ 2 ∷ []
six_edges = refl

last_four : last_of 2 (0 ∷ 1 ∷ 1 ∷ 1 ∷ 1 ∷ 2 ∷ []) ≡ 1 ∷ 1 ∷ 1 ∷ 2 ∷ []
last_four = refl
