use Rattle.edit_core.proofs.Common.{◌≡◌, refl, ap, ◌∙◌, arith, Notes, pieces_fit, numbers, placement_in, plan_of}
use Rattle.edit_core.proofs.Steps.{code_is, original_fit, segment_is, segments_are, view_entry, view_has_room, view_text, view_words}
use Rattle.edit_core.proofs.Edits.{notes_meet_rules, can_be_written}
use Rattle.edit_core.proofs.Noted.{rows_are}
use Rattle.edit_core.proofs.editing.write_edit.Goals as goal

pub new_code-requires : goal.new_code-requires
new_code-requires g c =
    view_has_room c.args.bytes.now (numbers c.args.tool.now.marks) c.args.request c.args.image.now c.args.graph.now
    c.requires.view c.requires.can c.requires.work

pub added_segments-requires : goal.added_segments-requires
added_segments-requires g c =
    let new = c.in_ok-placed.field-0 in
    let built = c.in_ok-placed.ensures in
    let above = c.above-addresses.ensures in
    let size = segment_is _ _ _ (placement_in new.placed) _ built.leads in
    record {
      few = rw above.cells c.requires.work.few;
      low = rw (above.base, above.cells, c.deref.ensures.value) (omega (arith, built.built.are.laid.low, size));
    }

pub notes-requires : goal.notes-requires
notes-requires g c =
    let image = c.args.image.now in
    let plan = plan_of (numbers c.args.tool.now.marks) c.args.request in
    let cells : c.args.request.cells ≡ c.args.tool.now.cells = c.requires.asked.cells in
    let new = c.in_ok-placed.field-0 in
    let built = c.in_ok-placed.ensures in
    let above = c.above-addresses.ensures in
    let size = segment_is _ _ _ (placement_in new.placed) _ built.leads in
    record {
      limit = c.requires.limit;
      words = view_words _ plan image _ c.requires.view c.requires.can;
      text = view_text _ plan image c.args.graph.now c.requires.view c.requires.can;
      low = rw (← cells) (omega (arith, built.built.are.laid.low, size));
      added = rw (← cells, c.deref-2.ensures.value) (rows_are image.base c.args.request.cells _ _ _ _
          (rw (above.base, above.cells, c.deref.ensures.value) at c.in_ok-added.ensures.segments) size);
    }

pub write_notes-requires : goal.write_notes-requires
write_notes-requires g c =
    let view = c.requires.view in
    let can = c.requires.can in
    let work = c.requires.work in
    let plan = plan_of (numbers c.args.tool.now.marks) c.args.request in
    let new = c.in_ok-placed.field-0 in
    let built = c.in_ok-placed.ensures in
    let added = c.in_ok-added.ensures in
    let words = rw c.deref.ensures.value at added.code in
    let code = code_is _ plan _ _ view new.placed _ built.built built.leads words added.tables in
    let noted = c.in_ok-noted.ensures plan view c.requires.asked in
    record {
      notes = rw noted (notes_meet_rules c.args.bytes.now plan c.requires.limit can work _ _ _ code
          (original_fit pieces_fit c.args.bytes.now plan can work code.dead));
      version = ap (λ (n : Notes). n.version) noted;
    }

pub write_around-requires-clause-original : goal.write_around-requires-clause-original
write_around-requires-clause-original g c =
    let view = c.requires.view in
    let can = c.requires.can in
    let work = c.requires.work in
    let plan = plan_of (numbers c.args.tool.now.marks) c.args.request in
    let new = c.in_ok-placed.field-0 in
    let built = c.in_ok-placed.ensures in
    let added = c.in_ok-added.ensures in
    let words = rw c.deref.ensures.value at added.code in
    let above = c.above-addresses.ensures in
    let code = code_is _ plan _ _ view new.placed _ built.built built.leads words added.tables in
    let segments = segments_are _ plan _ _ view new.placed _ built.built built.leads _
    (rw (above.base, above.cells, c.deref.ensures.value) at added.segments) in
    let noted = c.in_ok-noted.ensures plan view c.requires.asked in
    rw (c.deref-3.ensures.value, segments, c.deref-4.ensures.value, c.in_ok-notes.ensures, noted)
    (can_be_written c.args.bytes.now plan c.requires.limit can work _ _ _ code
    (original_fit pieces_fit c.args.bytes.now plan can work code.dead))

pub returns : goal.returns
returns g c =
    let view = c.requires.view in
    let plan = plan_of (numbers c.args.tool.now.marks) c.args.request in
    let new = c.in_ok-placed.field-0 in
    let built = c.in_ok-placed.ensures in
    let added = c.in_ok-added.ensures in
    let words = rw c.deref.ensures.value at added.code in
    let above = c.above-addresses.ensures in
    let segments = segments_are _ plan _ _ view new.placed _ built.built built.leads _
    (rw (above.base, above.cells, c.deref.ensures.value) at added.segments) in
    let noted = c.in_ok-noted.ensures plan view c.requires.asked in
    let entry = built.entry ∙ view_entry _ plan _ _ view (placement_in new.placed) in
    record {
      p = _;
      place = _;
      table = _;
      code = code_is _ plan _ _ view new.placed _ built.built built.leads words added.tables;
      is = c.in_ok-file.ensures
          ∙ rw (c.deref-3.ensures.value, segments, c.deref-4.ensures.value, c.in_ok-notes.ensures, noted, entry) refl;
    }
