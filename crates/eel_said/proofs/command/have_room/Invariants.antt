use Rattle.std.proofs.Common.{◌≡◌, length, ◌+◌, drop, take}
use Rattle.std.specs.List.{All}
use Rattle.v8_process.specs.Start.{strings}
use Rattle.v8_step.specs.State.{AreBytes}
use Rattle.v8_process.specs.Arguments.{texts}
use Rattle.eel_said.proofs.command.have_room.Given as goal

abbrev pub invariant-loop-arg : goal.invariant-loop-arg
invariant-loop-arg l = record {
  room : length (strings (texts l.args)) + l.room
      ≡ length (strings (texts (drop l.arg-index l.args))) + l.fn.room;
  bytes : All AreBytes (texts (take l.arg-index l.args));
}
