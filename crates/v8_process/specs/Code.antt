-- What contracts of this crate's code and laws cite beyond the statement.
use Rattle.std.specs.Prelude.{ℕ, List, ◌∷◌}
use Rattle.v8_process.specs.Start.{program_name}
use Rattle.v8_process.specs.Valid.{FitsStack}
use Rattle.v8_process.specs.Arguments.{AreArguments}

abbrev pub ArgumentsFit : Type 0
ArgumentsFit = (args : List (List ℕ)) → AreArguments args → FitsStack (program_name ∷ args)
