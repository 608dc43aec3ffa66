use Rattle.instr_counts.proofs.Common.{◌<◌, ◌≤◌, get_or, length, arith, enumerate_from, visit_line, rules, zero-add}
use Rattle.std.proofs.lemmas.List.FromFn.{get_or-enumerate_from, length-enumerate_from}
use Rattle.show_text.proofs.Joined.{all_lines, more_lines}
use Rattle.instr_counts.proofs.printing.put_visits.Goals as goal

pub loop-word-preserved : goal.loop-word-preserved
loop-word-preserved c =
    let visits = c.args.visits.now in
    let word = c.loop-word.word in
    let within : word < length visits = search rules in
    more_lines (visit_line c.args.text.now) (enumerate_from 0 visits) word (word, get_or visits word 0) (0, 0) _ _ _
    (omega (arith, within, length-enumerate_from 0 visits))
    (rw zero-add at (get_or-enumerate_from 0 visits word (0, 0) within))
    c.loop-word.invariant c.in_ok-put_visit.ensures

pub returns : goal.returns
returns c =
    let all : length c.args.visits.now ≤ c.loop-word.word = search rules in
    all_lines (visit_line c.args.text.now) (enumerate_from 0 c.args.visits.now) c.loop-word.word _ _
    (omega (arith, length-enumerate_from 0 c.args.visits.now, all)) c.loop-word.invariant
