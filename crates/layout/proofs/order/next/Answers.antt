use Rattle.layout.proofs.Common.{◌≡◌, ◌-◌, ◌∙◌, ap, sym, subst, length, slice_get, Some, ℕ, ◌<◌, option_copied, next_after, next_piece}
use Rattle.layout.proofs.Laying.{first_next, last_inside}
use Rattle.layout.proofs.order.next.Goals as goal

pub behind-requires-clause-last : goal.behind-requires-clause-last
behind-requires-clause-last c =
    last_inside c.args.pieces.now c.args.laid.now c.in-Some.last.now c.requires.leads c.requires.marking.order
    c.requires.more (sym c.last.ensures.value ∙ ap option_copied c.in-Some.is)

pub returns-in-Some-clause-inside : goal.returns-in-Some-clause-inside
returns-in-Some-clause-inside c =
    let end : slice_get c.args.laid.now (length c.args.laid.now - 1) ≡ Some c.in-Some.last.now = sym
    c.last.ensures.value ∙ ap option_copied c.in-Some.is in
    let is : c.behind.result ≡ next_piece c.args.pieces.now c.args.laid.now
    = c.behind.ensures ∙ ap (next_after c.args.pieces.now c.args.laid.now) (sym end) in
    subst (λ (n : ℕ). n < length c.args.pieces.now) (sym is)
    (first_next c.args.pieces.now c.args.laid.now c.requires.leads c.requires.marking.order c.requires.more).inside
