use Rattle.std.proofs.Common.{rules, ◌≡◌, ℕ, ◌+◌, ◌*◌, ◌<◌, ◌∙◌, ap, arith, slice_index}
use Rattle.eel_base.specs.Fields.{hex_of}
use Rattle.show_text.proofs.BlockRules.{first_inside}
use Rattle.show_text.proofs.counting.noted_block_text.Goals as goal

first_is : (c : goal.After-unwrap_or-first) → c.unwrap_or-first.result ≡ slice_index c.args.n.now.blocks.items c.args.block
first_is c = search rules

inside : (c : goal.After-unwrap_or-first) → slice_index c.args.n.now.blocks.items c.args.block < c.args.n.now.words
inside c = first_inside c.args.n.now.words c.args.n.now.blocks.items c.requires.words.0 c.requires.blocks c.args.block

pub overflow_mul-first : goal.overflow_mul-first
overflow_mul-first c = omega (arith, first_is c, inside c, c.requires.words.1)

pub overflow_add-n : goal.overflow_add-n
overflow_add-n c = omega (arith, first_is c, inside c, c.requires.words.2)

pub returns : goal.returns
returns c =
    let is : c.unwrap_or-first.result ≡ slice_index c.args.n.now.blocks.items c.args.block = search rules in
    c.hex8.ensures ∙ ap (λ (first : ℕ). hex_of (c.args.n.now.start + 4 * first)) is
