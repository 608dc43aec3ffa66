use Rattle.v8_process.proofs.Common.{◌≡◌, ◌+◌, ◌++◌, length, drop, w32, to_be_bytes, flat_map, texts, strings, pointers}
use Rattle.v8_process.proofs.stack.put_pointers.Given as goal

abbrev pub invariant-loop-arg : goal.invariant-loop-arg
invariant-loop-arg l =
    let left = texts (drop l.arg-index l.args) in
    record {
      words :
          l.out.items ++ flat_map (to_be_bytes w32) (pointers l.address left)
          ≡ l.initial.out.items ++ flat_map (to_be_bytes w32) (pointers l.first (texts l.args));
      address : l.address + length (strings left) ≡ l.first + length (strings (texts l.args));
    }
