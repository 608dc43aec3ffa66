use Rattle.v8_process.proofs.Common.{◌≡◌, ◌+◌, ◌∷◌, length, drop, texts, program_name, strings}
use Rattle.v8_process.proofs.stack.strings_size.Given as goal

abbrev pub invariant-loop-arg : goal.invariant-loop-arg
invariant-loop-arg l =
    let left = texts (drop l.arg-index l.args) in
    l.size + length (strings left) ≡ length (strings (program_name ∷ texts l.args))
