use Rattle.eel.proofs.Common.{[]}
use Rattle.eel.proofs.Tame.{profiled_or_wanting}
use Rattle.eel.proofs.Tools.{few_edges, profile_made, profile_refused}
use Rattle.eel.proofs.demo.profile.Goals as goal

pub heaviest_tree-requires-clause-few : goal.heaviest_tree-requires-clause-few
heaviest_tree-requires-clause-few c = few_edges c.args.original.now [] _ c.requires.view c.requires.tame.sound

pub returns-in-Ok-clause-written : goal.returns-in-Ok-clause-written
returns-in-Ok-clause-written c =
    profile_made _ _ c.in_ok-tree.tree c.requires.view c.in_ok-tree.ensures.cells c.in-Ok.written.items
    (rw c.new.ensures.items at c.in-Ok.ensures.edited)

pub returns-in-Err-clause-wanting : goal.returns-in-Err-clause-wanting
returns-in-Err-clause-wanting c =
    rw (profiled_or_wanting c.args.original.now c.requires.tame c.in-Err.fault
    (profile_refused _ _ c.in_ok-tree.tree c.requires.view c.in_ok-tree.ensures.cells c.in-Err.fault
    (rw c.new.ensures.items at c.in-Err.ensures.refused)))
    at c.refusal.ensures
