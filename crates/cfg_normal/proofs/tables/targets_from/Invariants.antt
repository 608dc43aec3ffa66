use Rattle.cfg_normal.proofs.Common.{◌≡◌, map, flat_map, words_from}
use Rattle.cfg_normal.proofs.TableWords.{entry_in}
use Rattle.cfg_normal.proofs.tables.targets_from.Given as goal

abbrev pub invariant-loop-n : goal.invariant-loop-n
invariant-loop-n l = map (λ w. w.0) l.targets.items ≡ flat_map (entry_in l.text) (words_from l.from l.n)
