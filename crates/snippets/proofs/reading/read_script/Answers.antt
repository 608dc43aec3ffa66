use Rattle.snippets.proofs.Common.{◌==◌, map, arith, rules, tests, length_push, lines_of, said_of}
use Rattle.std.proofs.lemmas.Iterator.Consumers.{YieldsList-turn, YieldsList-end}
use Rattle.std.proofs.lemmas.Iterator.Splits.{YieldsList-from_slice_split}
use Rattle.snippets.proofs.Held.{at, finished, stopped, turned}
use Rattle.snippets.proofs.Lines.{all_say}
use Rattle.snippets.proofs.reading.read_script.Goals as goal

pub loop-line-preserved : goal.loop-line-preserved
loop-line-preserved c =
    let bytes = c.args.bytes.now in
    let here =
    YieldsList-turn
    (YieldsList-from_slice_split _ (λ byte. byte == 10) bytes (cc) (cc) (cc) (λ x b q k. search (rules, tests)))
    c.loop-line.yielded _ c.loop-line.yielded_by _ _ c.in-Some.line c.in-Some.is c.next.ensures.steps in
    let count = c.loop-line.invariant.count in
    let now = at c.args.edges c.loop-line.number _ (lines_of bytes) _ _ _ count here c.loop-line.invariant.held in
    let more = length_push c.loop-line.yielded c.in-Some.line in
    let done = c.in_ok-take_line.ensures in
    record {
      count = omega arith;
      held = turned _ _ _ _ _ _ now _ _ done.good done.snips done.cells;
    }

pub returns-in_err-take_line : goal.returns-in_err-take_line
returns-in_err-take_line c =
    let bytes = c.args.bytes.now in
    let here =
    YieldsList-turn
    (YieldsList-from_slice_split _ (λ byte. byte == 10) bytes (cc) (cc) (cc) (λ x b q k. search (rules, tests)))
    c.loop-line.yielded _ c.loop-line.yielded_by _ _ c.in-Some.line c.in-Some.is c.next.ensures.steps in
    let count = c.loop-line.invariant.count in
    let now = at c.args.edges c.loop-line.number _ (lines_of bytes) _ _ _ count here c.loop-line.invariant.held in
    let answer = stopped _ _ _ _ _ _ now _ _ c.in_err-take_line.ensures.fault c.from_residual.ensures.1 in
    (map said_of (lines_of bytes), all_say (lines_of bytes), answer)

pub returns : goal.returns
returns c =
    let bytes = c.args.bytes.now in
    let all =
    YieldsList-end
    (YieldsList-from_slice_split _ (λ byte. byte == 10) bytes (cc) (cc) (cc) (λ x b q k. search (rules, tests)))
    c.loop-line.yielded _ c.loop-line.yielded_by _ _ c.in-None.is c.next.ensures.steps in
    let read = c.loop-line.invariant in
    let whole =
    finished c.args.edges c.loop-line.number _ (lines_of bytes) c.loop-line.script read.count all.1 read.held in
    (map said_of (lines_of bytes), all_say (lines_of bytes), whole)
