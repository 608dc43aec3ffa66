use Rattle.std.proofs.Common.{◌≡◌, ℕ, ◌+◌, ◌<◌, length, get_or}
use Rattle.v8_windows.specs.Registers.{place_of}
use Rattle.v8_windows.proofs.windows.frame.Given as goal

abbrev pub invariant-loop-i : goal.invariant-loop-i
invariant-loop-i l = record {
  count : length l.words ≡ 16;
  copied : (k : ℕ) → k < l.i → get_or l.words k 0 ≡ get_or l.registers (place_of l.window (16 + k)) 0;
}
