use Rattle.layout.proofs.Common.{ℕ, [], ◌∷◌, ◌++◌, add-one, ap, arith, length, take, take-suc, map-append, start_of, addresses, forms_in}
use Rattle.layout.proofs.Widening.{rises}
use Rattle.layout.proofs.assembler.Assembler.addresses_of.Goals as goal

pub address-requires : goal.address-requires
address-requires c =
    let layout = c.args.self.now in
    let k = c.loop-words.words-index in
    let r = rises layout.entries.now (forms_in layout.forms.now) (start_of layout.entries.now k)
    (length layout.entries.now) (omega (arith, c.requires.inside k (omega (arith, c.loop-words-test.true)))) in
    record { low = omega (arith, r, c.requires.each k (omega (arith, c.loop-words-test.true)), layout.low) }

pub loop-words-preserved : goal.loop-words-preserved
loop-words-preserved c =
    let base = c.args.self.now.base.0 in
    let k = c.loop-words.words-index in
    rw (c.in_ok-push.ensures.items, c.loop-words.invariant, add-one, take-suc c.args.at.now k 0 c.loop-words-test.true, map-append)
    (ap (λ (a : ℕ). addresses base (take k c.args.at.now) ++ record { 0 = a } ∷ []) c.address.ensures)
