use Rattle.eel_reports.proofs.ScriptCells.{script_has_cells}
use Rattle.eel_reports.proofs.scripts.script_in.Goals as goal

pub returns-in-Ok-clause-cells : goal.returns-in-Ok-clause-cells
returns-in-Ok-clause-cells c =
    let answers = rw c.in-Ok.is at c.read_script.ensures in
    script_has_cells _ _ answers.0 c.in-Ok.script answers.1 answers.2
