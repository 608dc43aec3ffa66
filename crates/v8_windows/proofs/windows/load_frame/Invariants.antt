use Rattle.std.proofs.Common.{◌≡◌, take, get_or}
use Rattle.v8_windows.specs.Calls.{registers_of_words}
use Rattle.v8_windows.specs.Frames.{frame_registers}
use Rattle.v8_windows.proofs.windows.load_frame.Given as goal

abbrev pub invariant-loop-i : goal.invariant-loop-i
invariant-loop-i l = record {
  frame : l.registers ≡ registers_of_words l.initial.registers l.window (take l.i frame_registers) (take l.i l.words);
  zero : get_or l.registers 0 0 ≡ get_or l.initial.registers 0 0;
}
