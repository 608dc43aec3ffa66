use Rattle.layout.proofs.Common.{◌≡◌, ◌∙◌, ap, entries_from, entries_of}
use Rattle.layout.proofs.Laying.{exits_lead, whole_is}
use Rattle.layout.proofs.Listed.{are_listing}
use Rattle.layout.proofs.Whole.{all_laid, room_is}
use Rattle.layout.proofs.placing.place.Goals as goal

pub order_of-requires : goal.order_of-requires
order_of-requires c = record {
  few = c.requires.pieces.count;
  leads = exits_lead c.args.pieces.now c.requires.pieces.leads;
}

pub widened-requires-clause-listing : goal.widened-requires-clause-listing
widened-requires-clause-listing c =
    let pieces = c.args.pieces.now in
    let all : c.new-entries.result ≡ entries_of pieces = c.new-entries.ensures.entries ∙ ap (entries_from pieces)
    (c.deref.ensures.value ∙ c.in-Ok.ensures.order) in
    rw all (are_listing pieces _ (whole_is pieces (exits_lead pieces c.requires.pieces.leads)) c.requires.pieces.leads)

pub returns : goal.returns
returns c =
    let pieces = c.args.pieces.now in
    let all : c.new-entries.result ≡ entries_of pieces = c.new-entries.ensures.entries ∙ ap (entries_from pieces)
    (c.deref.ensures.value ∙ c.in-Ok.ensures.order) in
    let formed = rw all at c.in-Ok-widened.ensures.formed in
    let put = rw (all, c.deref-2.ensures.value) at c.put_within.ensures.put in
    let fits = rw (all, c.deref-2.ensures.value) at c.put_within.ensures.room in
    record {
      laid = all_laid _ _ _ _ _ _ formed c.requires.pieces c.in-Ok-widened.ensures.count c.requires.aligned c.requires.low
          c.put_within.result put fits;
      room = room_is _ _ _ _ _ _ formed c.put_within.result put fits;
    }
