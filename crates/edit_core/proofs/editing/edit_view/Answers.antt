use Rattle.edit_core.proofs.Common.{◌≡◌, refl, ap, ◌∙◌, subst, sym, arith, get_or_default_zero, Program, Seen, numbers, pieces_fit, pieces_make_images, places_say, IsEdited, bound_of, IsTheEdit, plan_of}
use Rattle.tool_kit.specs.Code.{IsPlanOf}
use Rattle.edit_core.proofs.Views.{can_edit, view_bound, view_can_do, view_is}
use Rattle.edit_core.proofs.Edits.{edited}
use Rattle.edit_core.proofs.Outwardly.{does_the_same}
use Rattle.edit_core.proofs.RunsAlike.{edits_run_alike}
use Rattle.edit_core.proofs.Steps.{original_fit}
use Rattle.std.proofs.lemmas.Result.{err_from_is_err_and}
use Rattle.edit_core.proofs.editing.edit_view.Goals as goal

pub ask-requires : goal.ask-requires
ask-requires g c = λ plan is. c.requires.counters plan
    (subst (λ (v : Seen). IsPlanOf g.F.Chooser.says c.args.tool.now v.graph.edges plan) c.requires.view is)

pub returns-in_err-keep_room-clause-refused : goal.returns-in_err-keep_room-clause-refused
returns-in_err-keep_room-clause-refused g c =
    let view = c.requires.view in
    let plan = plan_of (numbers c.args.tool.now.marks) c.in_ok-request.request in
    let fault = err_from_is_err_and c.from_residual-in_err-keep_room.result
    c.from_residual-in_err-keep_room.ensures.1 in
    let lacks = c.in_err-keep_room.ensures.refused in
    rw (fault.1, fault.2, lacks.0) (
      plan,
      subst (λ (v : Seen). IsPlanOf g.F.Chooser.says c.args.tool.now v.graph.edges plan) view c.in_ok-request.ensures.plan,
      record {
        sound = c.requires.sound;
        needed_is = c.in_ok-needed.ensures ∙ rw (c.text-text.ensures, c.deref.ensures.value)
            (view_bound c.args.bytes.now plan _ view);
        had_is = c.from.ensures ∙ c.room.ensures ∙ ap (λ (i : Program). i.room) (view_is c.args.bytes.now plan _ view).0;
        less = lacks.1;
      },
    )

pub write_edit-requires : goal.write_edit-requires
write_edit-requires g c =
    let plan = plan_of (numbers c.args.tool.now.marks) c.in_ok-request.request in
    let view = c.requires.view in
    let needed : c.in_ok-needed.needed ≡ bound_of c.args.view.now.image.text c.args.view.now.graph plan =
    c.in_ok-needed.ensures ∙ rw (c.text-text.ensures, c.deref.ensures.value) refl in
    let had = c.from.ensures ∙ c.room.ensures in
    let low = c.in_ok-keep_room.ensures.room in
    let can = can_edit c.args.bytes.now plan _ view (sym c.requires.sound) (omega (arith, needed, had, low)) in
    let work = view_can_do c.args.bytes.now plan _ view c.in_ok-request.ensures.work in
    record {
      limit = c.requires.limit;
      asked = c.in_ok-request.ensures.plan;
      view = view_is c.args.bytes.now plan _ view;
      can = can;
      work = work;
    }

pub returns-clause-edited : goal.returns-clause-edited
unfolding IsTheEdit
returns-clause-edited g c =
    let bytes = c.args.bytes.now in
    let view = c.requires.view in
    let plan = plan_of (numbers c.args.tool.now.marks) c.in_ok-request.request in
    let needed : c.in_ok-needed.needed ≡ bound_of c.args.view.now.image.text c.args.view.now.graph plan =
    c.in_ok-needed.ensures ∙ rw (c.text-text.ensures, c.deref.ensures.value) refl in
    let had = c.from.ensures ∙ c.room.ensures in
    let low = c.in_ok-keep_room.ensures.room in
    let can = can_edit bytes plan _ view (sym c.requires.sound) (omega (arith, needed, had, low)) in
    let work = view_can_do bytes plan _ view c.in_ok-request.ensures.work in
    let written = c.in_ok-file.ensures in (
      plan,
      subst (λ (v : Seen). IsPlanOf g.F.Chooser.says c.args.tool.now v.graph.edges plan) view c.in_ok-request.ensures.plan,
      can,
      subst (IsEdited bytes plan) (sym written.is)
          (edited (edits_run_alike pieces_make_images pieces_fit) places_say bytes plan
          (original_fit pieces_fit bytes plan can work) c.requires.limit
          (λ k d below. let same = get_or_default_zero bytes k d below in let fits = c.type_inv.bytes k in omega arith)
          can work written.p written.place written.table written.code),
      written,
    )

pub returns-clause-same : goal.returns-clause-same
returns-clause-same g c =
    let edited = returns-clause-edited g c in does_the_same c.args.bytes.now edited.0 _ edited.3.faithful
