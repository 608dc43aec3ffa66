use Rattle.instr_counts.proofs.Common.{◌≡◌, ◌++◌, take, enumerate_from, visit_line, flat_map}
use Rattle.instr_counts.proofs.printing.put_visits.Given as goal

abbrev pub invariant-loop-word : goal.invariant-loop-word
invariant-loop-word l = l.lines.items
    ≡ l.initial.lines.items ++ flat_map (visit_line l.text) (take l.word (enumerate_from 0 l.visits))
