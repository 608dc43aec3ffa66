use Rattle.show_text.proofs.Common.{◌≡◌, ◌++◌, take, enumerate_from, flat_map, notes_seen, count_line}
use Rattle.show_text.proofs.counting.put_counts.Given as goal

abbrev pub invariant-loop-number : goal.invariant-loop-number
invariant-loop-number l = l.text.items
    ≡ l.initial.text.items ++ flat_map (count_line (notes_seen l.n) l.counts)
    (take l.number (enumerate_from 0 (notes_seen l.n).edges))
