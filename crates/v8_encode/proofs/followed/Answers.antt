use Rattle.std.proofs.Common.{◌≡◌, ◌*◌, ◌^◌, ◌%◌, ◌<◌, bit_or, ap, ◌∙◌, arith}
use Rattle.std.proofs.lemmas.Nat.{or_shifted, pow_pos}
use native.Mathlib.Nat.{add-mul}
use Rattle.v8_encode.proofs.followed.Goals as goal

pub returns : goal.returns
returns c =
    let split = add-mul c.args.high 1 (2 ^ c.args.width) in
    let positive = pow_pos c.args.width in
    let below : c.args.high * 2 ^ c.args.width < 2 ^ 32 = omega arith in
    let fits : c.args.high * 2 ^ c.args.width % 2 ^ 32 ≡ c.args.high * 2 ^ c.args.width = omega arith in
    ap (λ n. bit_or n c.args.field) fits ∙ or_shifted c.args.high c.args.width c.args.field c.requires.range
