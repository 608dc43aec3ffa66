use Rattle.edit_core.proofs.Common.{slice_index, ap, ◌∙◌, pieces_fit, placement_in}
use Rattle.edit_core.proofs.Landings.{cases_few, code_built, landings_count, made_fit, made_inside, made_room, tables_lead}
use Rattle.edit_core.proofs.building.new_code.Goals as goal

pub place_code-requires : goal.place_code-requires
place_code-requires c =
    let m = c.in_ok-made.ensures in
    let can = c.requires in
    let inside = made_inside m pieces_fit can in
    let ways = cases_few m pieces_fit can in
    let fit = made_fit m pieces_fit can in
    let room = made_room m pieces_fit can in
    search (inside, fit.pieces, landings_count m, ways, room, can.work.few, can.base, can.low)

pub returns : goal.returns
returns c =
    let p = placement_in c.in_ok-new.new.placed in
    let m = c.in_ok-made.ensures in
    let new = c.in_ok-new.ensures in
    let entry = new.entry ∙ ap (slice_index p.at) m.entry in
    search (code_built m p _ new.laid.1, entry, tables_lead m p _ new.leads)
