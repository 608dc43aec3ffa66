use Rattle.image_code.proofs.Common.{◌≡◌, ◌-◌, length, find, range_with_len, loads_at}
use Rattle.cfg_blocks.specs.Values.{followed}
use Rattle.image_code.proofs.loads.load_from.Given as goal

abbrev pub invariant-loop-word : goal.invariant-loop-word
invariant-loop-word l = record {
  values : l.values ≡ followed l.text l.initial.values l.approach.first (l.word - l.approach.first);
  long : length l.values ≡ 32;
  left : find (loads_at l.text l.initial.values l.approach l.table)
      (range_with_len l.approach.first (l.approach.jump - l.approach.first))
      ≡ find (loads_at l.text l.initial.values l.approach l.table) (range_with_len l.word (l.approach.jump - l.word));
}
