use Rattle.image_code.proofs.Common.{append_assoc, arith, case_piece, le_prop, length-map, map-append, take_all, WordNo}
use Rattle.image_code.proofs.Pushed.{entries_next, entry_number, target_at}
use Rattle.image_code.proofs.Sources.{found_stands, known, known_number}
use Rattle.image_code.proofs.OpenNumbers.{target_low}
use Rattle.image_code.proofs.maker.PieceMaker.push_entries.Goals as goal

pub case_piece-requires-clause-block : goal.case_piece-requires-clause-block
case_piece-requires-clause-block c =
    found_stands c.args.self.now.found le_prop _ _ c.requires.found (λ stands. stands.block)

pub case_piece-requires-clause-word : goal.case_piece-requires-clause-word
case_piece-requires-clause-word c =
    known c.args.self.now.found le_prop (λ g _. target_low _ _ g _ _ c.requires.found c.loop-entry.entry _
    (target_at c.args.found.now _ _ _ c.loop-entry-test.true c.targets-word-items.ensures))

pub loop-entry-preserved : goal.loop-entry-preserved
loop-entry-preserved c =
    let o = c.args.found.now in
    let targets = c.targets-word-items.result.now in
    let d : WordNo = record { 0 = 0 } in
    let next = entries_next o targets c.loop-entry.entry d c.loop-entry-test.true c.targets-word-items.ensures
    (case_piece c.args.self.now.text.now c.args.self.now.graph.now o.block) in
    let number = known_number c.args.self.now.found (λ g _.
    entry_number o targets c.loop-entry.entry d c.loop-entry-test.true c.targets-word-items.ensures g c.args.number
    c.requires.found _ c.args.first c.in_ok-number.number.0 _ c.place_in-place.ensures (c.requires.places _)
    (omega (arith, c.in_ok-number.ensures, c.from.ensures)) c.requires.first) in
    record {
      list = rw (c.in_ok-push_piece.ensures, c.in_ok-shape.ensures, c.loop-entry.invariant.list, next.0)
          (simp (map-append, append_assoc));
      numbers = rw (c.in_ok-push.ensures.items, map-append, c.loop-entry.invariant.numbers, next.1, number)
          (simp append_assoc);
    }

pub returns-clause-list : goal.returns-clause-list
returns-clause-list c =
    rw (take_all c.loop-entry.entry c.args.found.now.targets
    (rw (← c.targets-word-items.ensures, length-map) (omega arith))) at c.loop-entry.invariant.list

pub returns-clause-numbers : goal.returns-clause-numbers
returns-clause-numbers c =
    rw (take_all c.loop-entry.entry c.args.found.now.targets
    (rw (← c.targets-word-items.ensures, length-map) (omega arith))) at c.loop-entry.invariant.numbers
