use Rattle.image_code.proofs.Common.{◌≡◌, [], ◌∙◌, sym, arith, nat_tests, get_or_default, nil_from_length, snippet_on, codes_of}
use Rattle.image_code.proofs.Codes.{code_does, if_both, none_does, none_is_no_code}
use Rattle.image_code.proofs.expansion.code_of.Goals as goal

its_snippet : (c : goal.After-expand) → c.index-snips-edge.result ≡ snippet_on c.args.snips.now c.args.edge.0
its_snippet c = c.index-snips-edge.is ∙ get_or_default _ _ _ [] c.requires.edge

pub returns-clause-code : goal.returns-clause-code
unfolding codes_of
returns-clause-code c = rw (c.dead_on.ensures, c.names.ensures, its_snippet c) at c.expand.ensures.code

pub returns-clause-does : goal.returns-clause-does
returns-clause-does c =
    if_both _ _ _ c.expand.result (λ code. code_does _ _ _ _ code.items (rw (its_snippet c) at c.expand.ensures.few))
    (returns-clause-code c) (rw (c.dead_on.ensures, c.names.ensures, its_snippet c) at c.expand.ensures.just)

no_operations : (c : goal.After-new) → snippet_on c.args.snips.now c.args.edge.0 ≡ []
no_operations c =
    sym (c.index-snips-edge.is ∙ get_or_default _ _ _ [] c.requires.edge) ∙ sym c.ops.ensures.ops
    ∙ nil_from_length c.ops.result.now (grind (arith, nat_tests, c.is_empty.ensures, c.if-is_empty.true))

pub returns-then-is_empty-clause-code : goal.returns-then-is_empty-clause-code
returns-then-is_empty-clause-code c = c.new.ensures.items ∙ sym (none_is_no_code _ _ _ _ (no_operations c))

pub returns-then-is_empty-clause-does : goal.returns-then-is_empty-clause-does
returns-then-is_empty-clause-does c = none_does _ _ _ c.requires.aligned _ (no_operations c)
