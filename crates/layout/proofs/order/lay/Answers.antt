use Rattle.layout.proofs.Common.{◌≡◌, ◌∷◌, [], ◌++◌, next_piece}
use Rattle.layout.proofs.Laying.{marking_more}
use Rattle.layout.proofs.order.lay.Goals as goal

pub returns-clause-marking : goal.returns-clause-marking
returns-clause-marking c =
    let is : c.next-next.result ≡ next_piece c.args.pieces.now c.args.laid.now.items = rw c.deref.ensures.value at
    c.next-next.ensures.value in
    let e : c.push.new.self.items ≡ c.args.laid.now.items ++ c.next-next.result ∷ [] = c.in_ok-push.ensures.items in
    rw e (marking_more _ _ _ _ _ c.requires.marking is c.next-next.ensures.inside)
