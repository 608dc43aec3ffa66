-- How a program starts.
use Rattle.v8_process.proofs.Common.{◌≡◌, ℕ, ◌%◌, List, refl, arith, start_of, rounded_down}
use Rattle.v8_process.specs.Laws.{StartsAtEntry}

rounded : (n : ℕ) → rounded_down n % 8 ≡ 0
rounded n = omega arith

pub starts_at_entry : (file : List ℕ) (args : List (List ℕ)) (input : List ℕ) → StartsAtEntry file args input
unfolding start_of
starts_at_entry file args input = record {
  pc = refl;
  ending = refl;
  left = refl;
  sp = refl;
  aligned = rounded _;
}
