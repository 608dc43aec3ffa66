use Rattle.std.proofs.Common.{arith, rules, ◌≡◌, ◌<◌, length, subst, Some}
use Rattle.std.proofs.lemmas.List.Elements.{All-pop}
use Rattle.flood.specs.Private.{AreAll}
use Rattle.flood.proofs.Steps.{started, taken, moved, flooded, empty}
use Rattle.flood.proofs.search.flood.Goals as goal

pub loop-place-init : goal.loop-place-init
loop-place-init c =
    let count : c.len-2.result ≡ length c.args.reads.items = omega arith in
    started c.in_ok-stack.stack.items
    (subst (λ n. AreAll n c.in_ok-stack.stack.items) count c.in_ok-stack.ensures) c.requires.links

pub loop-place-preserved : goal.loop-place-preserved
loop-place-preserved c =
    let low =
    All-pop (λ p. p < length c.args.reads.items) _ _
    (Some c.in-Some.place) c.in-Some.ensures.items c.loop-place.invariant.below in
    let within : c.in-Some.place < c.len.result = omega (arith, low.1) in
    moved (c.in_ok-tell.ensures.told c.args.reads.items
    (taken _ c.loop-place.invariant c.in-Some.ensures.items (c.in_ok-chain.ensures.heads_are c.in-Some.place within) low.0))

pub returns-clause-live : goal.returns-clause-live
returns-clause-live c =
    let none : length c.loop-place.stack.items ≡ 0 = search rules in
    flooded 0 c.loop-place.sets.items c.loop-place.stack.items c.loop-place.invariant
    (empty c.loop-place.stack.items none)
