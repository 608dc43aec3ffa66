use Rattle.image_code.proofs.Common.{◌≡◌, take, position, get, is_case, same_case}
use Rattle.image_code.specs.declared.firsts.CaseEdge.{CaseEdge}
use Rattle.image_code.proofs.firsts.first_cases.Given as goal

abbrev pub invariant-loop-number : goal.invariant-loop-number
invariant-loop-number l = (case : CaseEdge) → get same_case l.cases case
    ≡ position (is_case l.graph case) (take l.number l.edge-items)
