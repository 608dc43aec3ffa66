-- How many edges a step completes, that they are edges of the graph, and that it completes none of them twice.
use Rattle.exact_counts.proofs.Common.{ℕ, zero, suc, ◌<◌, ◌≤◌, List, length, arith, Words, State, run, Graph, end_of_walk, gone_in, goes_on_at, point_of, walk, Each, times, times-append, nat_tests, each-append, ExecutionsAreFew}
use Rattle.edit_core.proofs.Completed.{Completes, gone_completes, none, one, two}

-- two edges at most, none of them twice, and all of them edges of the graph
pub record AreFew (count : ℕ) (es : List ℕ) : Type 0 where
  pub few : length es ≤ 2
  pub within : Each (λ e. e < count) es
  pub once : (e : ℕ) → times es e ≤ 1

module _ (text : Words) (graph : Graph) where
  abbrev edges : ℕ
  edges = length graph.edges

  completed_few : (es : List ℕ) → Completes graph es → AreFew edges es
  completed_few _ none = record { few = omega arith; within = tt; once = λ e. omega arith }
  completed_few _ (one x l) = record { few = omega arith; within = (l, tt); once = λ e. grind (arith, nat_tests) }
  completed_few _ (two x y l unknown k apart) = grind (arith, nat_tests)

  pub step_few : (entry : ℕ) (s0 : State) (n : ℕ) → AreFew edges (gone_in text graph entry s0 n)
  step_few entry s0 n =
      completed_few (gone_in text graph entry s0 n)
      (gone_completes graph text (end_of_walk text graph entry s0 n) (point_of (run s0 n)) (goes_on_at (run s0 (suc n))))

  pub walk_within : (entry : ℕ) (s0 : State) (n : ℕ) → Each (λ e. e < edges) (walk text graph entry s0 n)
  unfolding walk
  walk_within entry s0 zero = tt
  walk_within entry s0 (suc n) =
      each-append _ (walk text graph entry s0 n) (gone_in text graph entry s0 n) (walk_within entry s0 n)
      (step_few entry s0 n).within

pub executions_are_few : ExecutionsAreFew
unfolding walk
executions_are_few text graph entry s0 zero e = omega arith
executions_are_few text graph entry s0 (suc n) e =
    omega (
      arith,
      executions_are_few text graph entry s0 n e,
      (step_few text graph entry s0 n).once e,
      times-append (walk text graph entry s0 n) (gone_in text graph entry s0 n) e,
    )
