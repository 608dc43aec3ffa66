use Rattle.std.proofs.Common.{◌≡◌, nat_lt, length, ap, ◌∙◌, rules}
use Rattle.std.specs.List.{filter}
use Rattle.cfg_blocks.specs.Marks.{numbers}
use Rattle.cfg_view.proofs.Numbers.{numbers-filter}
use Rattle.cfg_view.proofs.marks_in.Goals as goal

pub returns-clause-marks : goal.returns-clause-marks
returns-clause-marks c =
    let words = length c.args.text.now.words in
    let kept : c.in_ok-marks.marks.items ≡ filter (λ mark. nat_lt mark.0 words) c.args.marks.now =
    search rules in
    ap numbers kept ∙ numbers-filter (λ mark. nat_lt mark words) c.args.marks.now
