-- What contracts of this crate's code and laws cite beyond the statement.
use Rattle.std.specs.Prelude.{◌≡◌, ℕ, ◌^◌, ◌<◌, List, length, slice_index}
use Rattle.std.specs.List.{All}

-- what a machine's registers always are: 136 words, the first of which is %g0
pub record AreRegisters (registers : List ℕ) : Type 0 where
  pub count : length registers ≡ 136
  pub zero : slice_index registers 0 ≡ 0
  pub words : All (λ n. n < 2 ^ 32) registers
