use Rattle.std.proofs.Common.{rules, ◌≤◌, sym, arith}
use Rattle.cfg_blocks.proofs.Held.{is_held, some_words}
use Rattle.cfg_blocks.proofs.list.is_held.Goals as goal

pub returns-in-Some : goal.returns-in-Some
returns-in-Some c = λ t.
    let in_it : c.args.word ≤ c.last_of_block.result = search (t, rules) in
    sym (is_held c.args.words c.args.firsts.now c.requires.firsts c.args.word c.args.block (record {
      within = search rules;
      above = search rules;
      below = omega (
        arith,
        in_it,
        c.last_of_block.ensures.value,
        some_words c.args.words c.args.firsts.now c.requires.firsts c.args.block (search rules),
      );
    }))
