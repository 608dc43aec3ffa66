-- The arguments that a program can be given, and that the stack has room for them.
use Rattle.std.specs.Prelude.{ℕ, ◌^◌, ◌≤◌, List, length, map}
use Rattle.std.specs.Borrow.{Bor}
use Rattle.std.specs.List.{All}
use Rattle.v8_step.specs.State.{AreBytes}
use Rattle.v8_process.specs.Start.{strings}

-- the texts that a list of arguments points to
abbrev pub texts : List (Bor (List ℕ)) → List (List ℕ)
texts args = map (λ arg. arg.now) args

-- at most 1,000 texts, of at most 65,536 bytes with the zero byte after each
pub record AreArguments (args : List (List ℕ)) : Type 0 where
  pub few : length args ≤ 1000
  pub short : length (strings args) ≤ 2 ^ 16
  pub bytes : All AreBytes args
