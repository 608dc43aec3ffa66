use Rattle.cfg_normal.proofs.Common.{rules, ◌++◌, ◌∙◌, ap, refl, sym, option_to_list, append-nil}
use Rattle.cfg_normal.proofs.opening.add_switch.Goals as goal

pub returns-in_ok-push-clause-tabled : goal.returns-in_ok-push-clause-tabled
returns-in_ok-push-clause-tabled c =
    rw c.in_ok-push.ensures.items (c.note_table.ensures c.args.opens.now.items c.requires.tabled)

pub returns-then-is_closed : goal.returns-then-is_closed
returns-then-is_closed c =
    let closed = c.is_closed.ensures c.args.opens.now.items c.requires.landings c.requires.tabled in
    record {
      opens = rw (sym closed ∙ c.if-is_closed.true) refl;
      landings = c.requires.landings;
      tabled = c.requires.tabled;
    }

pub returns-in_ok-push-clause-opens : goal.returns-in_ok-push-clause-opens
returns-in_ok-push-clause-opens c =
    let closed = c.is_closed.ensures c.args.opens.now.items c.requires.landings c.requires.tabled in
    let found = c.in_ok-found.ensures.open ∙ ap option_to_list c.in-Some.is in
    rw (sym closed ∙ c.if-is_closed.false)
    (c.in_ok-push.ensures.items ∙ ap (λ os. c.args.opens.now.items ++ os) (sym found))

pub returns-in_ok-push-clause-landings : goal.returns-in_ok-push-clause-landings
returns-in_ok-push-clause-landings c =
    let noted = c.note_landings.ensures c.args.opens.now.items (search rules) in
    rw c.in_ok-push.ensures.items ((rw c.requires.landings.long at noted) c.requires.landings)

pub returns-in_default : goal.returns-in_default
returns-in_default c =
    let closed = c.is_closed.ensures c.args.opens.now.items c.requires.landings c.requires.tabled in
    let none = c.in_ok-found.ensures.open ∙ ap option_to_list c.in_default.is in
    record {
      opens = rw (sym closed ∙ c.if-is_closed.false, none) (sym (append-nil _));
      landings = c.requires.landings;
      tabled = c.requires.tabled;
    }
