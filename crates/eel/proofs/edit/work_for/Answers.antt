use Rattle.eel.proofs.Common.{[], view_seen, every_word}
use Rattle.eel.proofs.Tools.{guessed_asked, weighed_asked}
use Rattle.eel.proofs.edit.work_for.Goals as goal

pub returns-in_ok-heaviest_tree-in-Profile-clause-asked : goal.returns-in_ok-heaviest_tree-in-Profile-clause-asked
returns-in_ok-heaviest_tree-in-Profile-clause-asked c =
    let tree = c.in_ok-heaviest_tree-in-Profile in
    rw c.in-Profile.is (λ bytes is. guessed_asked (view_seen c.args.view.now) bytes [] tree.field-0 is tree.ensures.cells)

pub returns-in_ok-measured_tree-in-Weighed-clause-asked : goal.returns-in_ok-measured_tree-in-Weighed-clause-asked
returns-in_ok-measured_tree-in-Weighed-clause-asked c =
    let tree = c.in_ok-measured_tree-in-Weighed in
    let (weights, are, found) = tree.ensures.cells in
    rw c.in-Weighed.is
    (λ bytes is. weighed_asked (view_seen c.args.view.now) bytes [] c.args.lines.now weights tree.field-0 is are found)

pub returns-in_ok-heaviest_tree-in-Every-clause-asked : goal.returns-in_ok-heaviest_tree-in-Every-clause-asked
returns-in_ok-heaviest_tree-in-Every-clause-asked c =
    let tree = c.in_ok-heaviest_tree-in-Every in
    rw c.in-Every.is
    (λ bytes is. guessed_asked (view_seen c.args.view.now) bytes (every_word bytes) tree.field-0 is tree.ensures.cells)
