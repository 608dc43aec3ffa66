use Rattle.eel.proofs.Common.{ap, ◌∙◌, demo_lines, size_in, size_of}
use Rattle.eel.proofs.demo.told_of.Goals as goal

pub returns-clause-lines : goal.returns-clause-lines
returns-clause-lines c =
    let end = c.in_ok-end.end in
    record {
      ending = end.ending;
      steps = end.steps;
      ran = c.in_ok-end.ensures;
      tell = c.in_ok-lines.ensures
          ∙ ap (λ size. demo_lines c.args.number c.args.routines size end.ending end.steps c.in_ok-executions.executions)
          (c.size_of.ensures ∙ ap size_in c.in_ok-view.ensures.view)
          ∙ ap (demo_lines c.args.number c.args.routines (size_of c.args.original.now) end.ending end.steps)
          (c.in_ok-executions.ensures.sum end.ending end.steps c.in_ok-end.ensures);
    }
