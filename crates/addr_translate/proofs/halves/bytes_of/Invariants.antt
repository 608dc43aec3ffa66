use Rattle.addr_translate.proofs.Common.{◌≡◌, ◌<◌, ◌^◌, ℕ, map, w32, to_be_bytes, flat_map, range_with_len, half_entry}
use Rattle.addr_translate.proofs.halves.bytes_of.Given as goal

abbrev pub invariant-loop-n : goal.invariant-loop-n
invariant-loop-n l = record {
  written : l.out.items
      ≡ flat_map (to_be_bytes w32) (map (half_entry l.text l.targets l.foreign l.base.0) (range_with_len 0 l.n));
  fits : (n : ℕ) → n < l.n → half_entry l.text l.targets l.foreign l.base.0 n < 2 ^ 32;
}
