use Rattle.v8_memory.proofs.Common.{rules, Some, length, map, get_or, slice_set, arith, refl, ap, sym, ◌∙◌, find, option_map, Region, covers, written, are_apart, span_of}
use Rattle.v8_memory.proofs.Apart.{found_here, none_written_here, write_once}
use Rattle.v8_memory.proofs.memory.write_one.Goals as goal

pub returns-then-covers-clause-after : goal.returns-then-covers-clause-after
returns-then-covers-clause-after c =
    let address = c.args.address in
    let bytes = c.args.bytes.now in
    let regions = c.loop-region.regions in
    let index = c.loop-region.region-index in
    ap (λ z. slice_set regions index z) c.write.ensures.after
    ∙ write_once address bytes regions index c.region-item.result (search rules)
    (ap (λ z. are_apart (map span_of z)) c.loop-region.invariant.same ∙ c.requires.apart) (omega arith)
    (sym c.covers.ensures ∙ c.if-covers.true)
    ∙ ap (map (written address bytes)) c.loop-region.invariant.same

pub returns-then-covers-clause-may : goal.returns-then-covers-clause-may
returns-then-covers-clause-may c =
    let count = length c.args.bytes.now in
    let regions = c.loop-region.regions in
    let index = c.loop-region.region-index in
    ap Some c.write.ensures.may
    ∙ sym (ap (option_map (λ (r : Region). r.writable))
    (ap (find (covers c.args.address count)) (sym c.loop-region.invariant.same) ∙ c.loop-region.invariant.left
    ∙ found_here c.args.address count regions index (get_or regions index c.region-item.result) c.region-item.result
    (omega arith) refl (sym c.covers.ensures ∙ c.if-covers.true)))

pub returns-clause-after : goal.returns-clause-after
returns-clause-after c =
    none_written_here c.args.address c.args.bytes.now c.loop-region.regions c.loop-region.region-index (omega arith)
    c.loop-region.invariant.left
    ∙ ap (map (written c.args.address c.args.bytes.now)) c.loop-region.invariant.same
