use Rattle.v8_text.proofs.Common.{rules, ◌≡◌, ◌≢◌, [], length, ◌+◌, ℕ, subst, sym, ◌∙◌, ap, IsUnlisted}
use Rattle.std.proofs.lemmas.Result.{err_from_is_err_and}
use Rattle.v8_text.specs.declared.listings.ListFault.TheVariants as faults
use Rattle.v8_text.proofs.Listed.{read_more, stopped}
use Rattle.v8_text.proofs.listings.read_listing.Goals as goal

pub returns-in_err-line-clause-refused : goal.returns-in_err-line-clause-refused
returns-in_err-line-clause-refused c =
    let some : c.loop-rest.rest.now ≢ [] = λ none. search rules in
    let count : c.len.result ≡ length c.loop-rest.words.items = search rules in
    let fault = c.in_err-line.ensures.fault ∙ ap (λ (n : ℕ). faults.Line (n + 1)) count in
    let p = err_from_is_err_and c.from_residual.result c.from_residual.ensures.1 in
    rw p.1
    (subst (IsUnlisted c.args.bytes.now) (sym (p.2 ∙ fault))
    (stopped _ _ _ _ c.loop-rest.invariant some c.in_err-line.ensures.bad))

pub loop-rest-preserved : goal.loop-rest-preserved
loop-rest-preserved c =
    let line = c.in_ok-line.ensures.line in
    rw (c.in_ok-push.ensures, c.from.ensures) (read_more _ _ _ _ c.loop-rest.invariant _ _ _ line.0 line.1 line.2 line.3)
