use Rattle.v8_process.proofs.Common.{◌≡◌, ◌∷◌, ◌++◌, drop, texts, program_name, strings}
use Rattle.v8_process.proofs.stack.put_strings.Given as goal

abbrev pub invariant-loop-arg : goal.invariant-loop-arg
invariant-loop-arg l =
    let left = texts (drop l.arg-index l.args) in
    l.out.items ++ strings left ≡ l.fn.out.items ++ strings (program_name ∷ texts l.args)
