use Rattle.v8_text.proofs.Common.{ℕ, ℤ, ap, ◌∙◌, ◌++◌, named, number_text, target_of}
use Rattle.std.specs.Int.{w32}
use Rattle.std.proofs.lemmas.Int.{to_z-of_z}
use Rattle.v8_text.proofs.writing.put_jump.Goals as goal

pub returns : goal.returns
returns c =
    let to = c.target-target.ensures
    ∙ ap (λ (z : ℤ). target_of c.args.at.0 z) (to_z-of_z w32 c.args.displacement c.ranges.displacement) in
    c.in_ok-put_numbered.ensures
    ∙ ap (λ (n : ℕ). c.args.text.now.items ++ named c.args.name.now (number_text n)) to
