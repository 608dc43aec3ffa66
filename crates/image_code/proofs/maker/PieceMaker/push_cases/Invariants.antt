use Rattle.image_code.proofs.Common.{◌≡◌, ◌++◌, map, take, flat_map, PieceNo, pieces_for, cases_of, entry_labels}
use Rattle.image_code.proofs.maker.PieceMaker.push_cases.Given as goal

abbrev pub invariant-loop-number : goal.invariant-loop-number
invariant-loop-number l = record {
  list : l.list.items ≡ l.initial.list.items
      ++ pieces_for l.self (flat_map entry_labels (take l.number l.found-items));
  numbers : map (λ (n : PieceNo). n.0) l.numbers.items
      ≡ flat_map (cases_of l.self.text.now l.self.graph.now) (take l.number l.found-items);
}
