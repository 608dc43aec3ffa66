use Rattle.v8_step.proofs.Common.{◌≡◌, ◌*◌, length, take, w32, to_be_bytes, flat_map}
use Rattle.v8_step.proofs.window_moves.frame_bytes.Given as goal

abbrev pub invariant-loop-i : goal.invariant-loop-i
invariant-loop-i l = record {
  count : length l.bytes ≡ 64;
  written : take (4 * l.i) l.bytes ≡ flat_map (to_be_bytes w32) (take l.i l.words);
}
