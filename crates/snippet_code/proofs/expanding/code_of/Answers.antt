use Rattle.snippet_code.proofs.WholeCode.{last_ones, picked_for, whole_code}
use Rattle.snippet_code.proofs.expanding.code_of.Goals as goal

pub returns-clause-code : goal.returns-clause-code
returns-clause-code c =
    let pick = c.pick-picked.ensures in
    let wanted = c.registers_for.ensures.value in
    let flag = c.has-codes_dead.ensures.value in
    let used = picked_for c.args.dead c.args.avoid c.args.ops.now _ _ _ _ _ pick.count pick.regs wanted flag
    c.used-used.ensures.regs in
    let out = last_ones c.args.dead c.args.avoid c.args.ops.now _ _ _ _ _ _ used c.used-used.ensures.count pick.count
    pick.spills wanted flag c.last-spilled.ensures in
    whole_code c.args.cells.0 c.args.dead c.args.avoid c.args.ops.now _ _ _ _ _ used out
    (rw c.in_ok-words.ensures.items at c.in_ok-push_saves.ensures)
    (rw flag at c.in_ok-push_ops.ensures.code) c.in_ok-push_restores.ensures
