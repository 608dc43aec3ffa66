use Rattle.std.proofs.Common.{◌<◌, length, sym, subst, ◌∙◌, arith}
use Rattle.std.specs.List.{All}
use Rattle.routines.specs.Routines.{is_start, name_at, routines_of}
use Rattle.routines.specs.Starts.{start_name}
use Rattle.routines.proofs.Ascending.{held, not_start}
use Rattle.routines.proofs.Inside.{routines_inside}
use Rattle.routines.proofs.list.find.Goals as goal

pub returns-clause-routines : goal.returns-clause-routines
unfolding routines_of start_name
returns-clause-routines c =
    let image = c.args.image.now in
    let names = c.in_ok-starts.ensures.names in
    let inside = c.in_ok-starts.ensures.inside in
    c.in_ok-list.ensures ∙ held (is_start image) (name_at image.funcs) (length image.text.words) 0
    c.in_ok-sorted.sorted.entries
    (λ word past. not_start (is_start image word) (name_at image.funcs word)
    (sym (names word) ∙ inside word (omega arith)))
    (record {
      ascends = c.in_ok-sorted.ensures.ascends;
      before = λ word below. absurd (omega arith);
      from = λ word within. c.in_ok-sorted.ensures.same word ∙ names word;
    })

pub returns-clause-inside : goal.returns-clause-inside
returns-clause-inside c =
    subst (All (λ routine. routine.start.0 < length c.args.image.now.text.words))
    (sym (returns-clause-routines c)) (routines_inside c.args.image.now)
