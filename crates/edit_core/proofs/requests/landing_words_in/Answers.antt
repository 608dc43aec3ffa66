use Rattle.edit_core.proofs.Common.{◌≡◌, ℕ, if◌then◌else◌, ◌+◌, ◌-◌, ap, ◌∙◌, arith, count_by, range_with_len, is_at}
use Rattle.edit_core.proofs.Counting.{range_few, range_more}
use Rattle.edit_core.proofs.requests.landing_words_in.Goals as goal

pub overflow_add-count : goal.overflow_add-count
overflow_add-count c =
    let first = c.first-first.result.0 in
    let few = range_few (is_at c.args.graph.now c.args.node) first (c.loop-word.word - first) in
    let words = c.words.ensures in
    let below = c.loop-word-test.true in
    let one = c.lands_at-count.ensures.few in
    omega (arith, c.loop-word.invariant, few, below, words.within, words.few, c.first-first.ensures.first, one)

pub loop-word-preserved : goal.loop-word-preserved
loop-word-preserved c =
    let first = c.first-first.result.0 in
    let word = c.loop-word.word in
    let is = is_at c.args.graph.now c.args.node in
    let same : first + (word - first) ≡ word = omega (arith, c.loop-word.auto.word) in
    let next : word + 1 - first ≡ word - first + 1 = omega (arith, c.loop-word.auto.word) in
    let more = ap (λ n. count_by is (range_with_len first n)) next ∙ range_more is first (word - first) in
    let one = ap {B = ℕ} (λ w. if is w then 1 else 0) same in
    omega (arith, c.loop-word.invariant, c.lands_at-count.ensures.one, more, one)

pub returns-clause-few : goal.returns-clause-few
returns-clause-few c =
    let first = c.first-first.result.0 in
    let few = range_few (is_at c.args.graph.now c.args.node) first (c.loop-word.word - first) in
    let words = c.words.ensures in
    let end = c.loop-word.auto.word-end in
    omega (arith, c.loop-word.invariant, few, end, words.within, words.few, c.first-first.ensures.first)
