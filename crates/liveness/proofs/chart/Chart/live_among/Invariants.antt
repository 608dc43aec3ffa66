use Rattle.liveness.proofs.Common.{◌≡◌, true, [], Part, has, Adds, Between, LivesAtLanding, first_in}
use Rattle.liveness.proofs.chart.Chart.live_among.Given as goal

abbrev pub invariant-loop-word : goal.invariant-loop-word
invariant-loop-word l =
    Adds {A = Part} (λ x. has [] x ≡ true) (λ x. has l.live x ≡ true)
    (Between (LivesAtLanding l.self.graph.now l.node l.sets) (first_in l.self.graph.now l.node) l.word)
