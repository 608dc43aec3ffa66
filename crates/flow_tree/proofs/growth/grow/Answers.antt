use Rattle.flow_tree.proofs.Common.{rules, arith, refl}
use Rattle.flow_tree.proofs.Steps.{search_grown, search_whole}
use Rattle.flow_tree.proofs.growth.grow.Goals as goal

pub begin-requires-clause-ends : goal.begin-requires-clause-ends
begin-requires-clause-ends c = rw c.deref.ensures.value c.in_ok-rows.ensures.ends

pub join-requires-clause-ends : goal.join-requires-clause-ends
join-requires-clause-ends c = rw c.deref.ensures.value c.in_ok-rows.ensures.ends

pub returns-then-not-branch-clause-grown : goal.returns-then-not-branch-clause-grown
returns-then-not-branch-clause-grown c =
    search_grown c.args.nodes _ c.args.links.now c.args.weights.now c.join.new.search (search rules)
    c.in_ok-join.ensures.search

pub returns-clause-grown : goal.returns-clause-grown
returns-clause-grown c = search_grown c.args.nodes c.args.nodes c.args.links.now c.args.weights.now c.loop.search refl c.loop.invariant.search

pub returns-clause-whole : goal.returns-clause-whole
returns-clause-whole c = search_whole c.args.nodes c.args.links.now c.args.weights.now c.loop.search c.requires.linked (omega (arith, c.loop.invariant.root)) (omega arith) c.loop.invariant.search
