use Rattle.flow_tree.proofs.Common.{rules, IsReal}
use Rattle.flow_tree.proofs.Heaps.{pushed_kept, pushed_here, pushed_all}
use Rattle.flow_tree.proofs.growth.WeighedGraph.offer.Goals as goal

pub returns-in_ok-push-clause-heap : goal.returns-in_ok-push-clause-heap
returns-in_ok-push-clause-heap c = (search rules, pushed_all (IsReal c.args.self.now.weights.now) _ _ _ c.in_ok-push.ensures.permutation (search rules) c.requires.heap.1)

pub returns-in_ok-push-clause-kept : goal.returns-in_ok-push-clause-kept
returns-in_ok-push-clause-kept c = λ x h. pushed_kept _ _ _ c.in_ok-push.ensures.permutation x h

pub returns-in_ok-push-clause-added : goal.returns-in_ok-push-clause-added
returns-in_ok-push-clause-added c = λ h. pushed_here _ _ _ c.in_ok-push.ensures.permutation
