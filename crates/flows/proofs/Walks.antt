-- How often a walk takes each edge is a flow.
use Rattle.flows.proofs.Common.{◌≡◌, ℕ, ◌+◌, ◌<◌, List, [], ◌∷◌, ◌++◌, arith, pos, ◌+ℤ◌, ◌==◌, if◌then◌else◌, ints, Graph, total, one_at, IsFlow, times, IsWalk}
use Rattle.flows.proofs.Sums.{total_zero, total_change}

pub times-append : (es more : List ℕ) (e : ℕ) → times (es ++ more) e ≡ times es e + times more e
times-append [] more e = omega arith
times-append (x ∷ es) more e = let later = times-append es more e in omega (arith, later)

-- the edges into or out of v, by their ends
ends_total : (n : ℕ) (end : ℕ → ℕ) (v x : ℕ) (xs : List ℕ) → x < n →
    total n (λ e. if end e == v then pos (times (x ∷ xs) e) else pos 0) ≡ total n (λ e. if end e == v then pos (times xs e) else pos 0) +ℤ one_at (end x) v
ends_total n end v x xs l =
    let p = total_change n (λ e. if end e == v then pos (times (x ∷ xs) e) else pos 0) (λ e. if end e == v then pos (times xs e) else pos 0) x l (λ i m c. grind arith) in
    grind (arith, p)

pub walk_is_flow : (g : Graph) (a b : ℕ) (es : List ℕ) → IsWalk g a es b → IsFlow g a b (λ e. pos (times es e))
walk_is_flow g a b [] h v l =
    cc (total_zero g.edges (λ e. if g.to e == v then pos 0 else pos 0) (λ e m. grind arith), total_zero g.edges (λ e. if g.from e == v then pos 0 else pos 0) (λ e m. grind arith))
walk_is_flow g a b (x ∷ xs) h v l =
    let p = ends_total g.edges g.to v x xs h.0 in
    let q = ends_total g.edges g.from v x xs h.0 in
    let s = walk_is_flow g (g.to x) b xs h.2 v l in
    let r : one_at (g.from x) v ≡ one_at a v = rw h.1 in
    omega (arith, ints, p, q, r, s)
