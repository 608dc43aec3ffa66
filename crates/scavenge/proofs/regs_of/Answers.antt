use Rattle.std.proofs.Common.{rules, tests, refl}
use Rattle.std.proofs.lemmas.Iterator.{YieldsList-from_range, YieldsList-from_take}
use Rattle.std.proofs.lemmas.Iterator.Consumers.{YieldsList-at, YieldsList-from_chain, YieldsList-from_filter, YieldsList-turn, YieldsList-end}
use Rattle.scavenge.specs.Picks.{is_free_dead, registers}
use Rattle.scavenge.specs.Code.{is_free_live}
use Rattle.scavenge.proofs.Turns.{are_all, is_turn}
use Rattle.scavenge.proofs.regs_of.Goals as goal

pub register-requires : goal.register-requires
unfolding registers
register-requires c =
    let here =
    YieldsList-turn
    (YieldsList-at c.into_iter-number-iterator.ensures.into_iter_gives
    (YieldsList-from_take c.args.want
    (YieldsList-at c.take-number-items.ensures.source
    (YieldsList-from_chain
    (YieldsList-at c.chain.ensures.first
    (YieldsList-from_filter _ (is_free_dead c.args.dead c.args.avoid)
    (YieldsList-from_range 1 32 31 c.filter-dead_ones.ensures.source refl)
    c.filter-dead_ones.ensures.closure (λ x b q k. search (rules, tests))))
    (YieldsList-at c.chain.ensures.second
    (YieldsList-from_filter _ (is_free_live c.args.dead c.args.avoid)
    (YieldsList-from_range 1 32 31 c.filter-live_ones.ensures.source refl)
    c.filter-live_ones.ensures.closure (λ x b q k. search (rules, tests)))) (cc) (cc))) (cc)))
    c.loop-number.yielded _ c.loop-number.yielded_by _ _ c.in-Some.number c.in-Some.is c.next.ensures.steps in
    (is_turn c.args.dead c.args.avoid c.args.want _ _ c.requires.avoid c.requires.want here).below

pub returns : goal.returns
unfolding registers
returns c =
    let all =
    YieldsList-end
    (YieldsList-at c.into_iter-number-iterator.ensures.into_iter_gives
    (YieldsList-from_take c.args.want
    (YieldsList-at c.take-number-items.ensures.source
    (YieldsList-from_chain
    (YieldsList-at c.chain.ensures.first
    (YieldsList-from_filter _ (is_free_dead c.args.dead c.args.avoid)
    (YieldsList-from_range 1 32 31 c.filter-dead_ones.ensures.source refl)
    c.filter-dead_ones.ensures.closure (λ x b q k. search (rules, tests))))
    (YieldsList-at c.chain.ensures.second
    (YieldsList-from_filter _ (is_free_live c.args.dead c.args.avoid)
    (YieldsList-from_range 1 32 31 c.filter-live_ones.ensures.source refl)
    c.filter-live_ones.ensures.closure (λ x b q k. search (rules, tests)))) (cc) (cc))) (cc)))
    c.loop-number.yielded _ c.loop-number.yielded_by _ _ c.in-None.is c.next.ensures.steps in
    let kept = c.loop-number.invariant in
    are_all c.args.dead c.args.avoid c.args.want _ c.loop-number.regs _ c.requires.avoid c.requires.want kept.found
    kept.regs all
