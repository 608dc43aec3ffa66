use Rattle.v8_step.proofs.Common.{◌≡◌, length, take, words_of_frame}
use Rattle.v8_step.proofs.window_moves.frame_words.Given as goal

abbrev pub invariant-loop-i : goal.invariant-loop-i
invariant-loop-i l = record {
  count : length l.word-items ≡ 16;
  read : take l.i l.word-items ≡ words_of_frame l.i l.bytes;
}
