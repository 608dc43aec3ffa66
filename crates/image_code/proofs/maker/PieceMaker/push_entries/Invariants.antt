use Rattle.image_code.proofs.Common.{◌≡◌, ◌++◌, map, take, PieceNo, case_piece, pieces_for}
use Rattle.image_code.proofs.Pushed.{labels_of}
use Rattle.image_code.proofs.maker.PieceMaker.push_entries.Given as goal

abbrev pub invariant-loop-entry : goal.invariant-loop-entry
invariant-loop-entry l = record {
  list : l.list.items ≡ l.initial.list.items ++ pieces_for l.self (labels_of l.found (take l.entry l.found.targets));
  numbers : map (λ (n : PieceNo). n.0) l.numbers.items ≡ map (λ (n : PieceNo). n.0) l.initial.numbers.items
      ++ map (case_piece l.self.text.now l.self.graph.now l.found.block) (take l.entry l.found.targets);
}
