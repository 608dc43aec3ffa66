use Rattle.std.proofs.Common.{◌≡◌, ◌<◌, length, refl}
use Rattle.std.proofs.lemmas.List.Elements.{All-map}
use Rattle.cfg_blocks.specs.Marks.{numbers}
use Rattle.cfg_view.specs.View.{marks_in, starts_of}
use Rattle.cfg_view.proofs.Numbers.{numbers_of_starts}
use Rattle.cfg_view.proofs.blocks_of.Goals as goal

pub blocks-requires-clause-starts : goal.blocks-requires-clause-starts
blocks-requires-clause-starts c =
    rw (c.deref.ensures.value, c.in_ok-starts.ensures)
    (All-map (λ word. word.0 < length c.args.text.now.words) (λ routine. routine.start)
    c.args.routines.now c.requires)

pub returns : goal.returns
returns c =
    let starts : numbers c.deref.result.now ≡ starts_of c.args.routines.now =
    rw (c.deref.ensures.value, c.in_ok-starts.ensures) (numbers_of_starts c.args.routines.now) in
    let marks : numbers c.deref-2.result.now ≡ marks_in c.args.text.now (numbers c.args.marks.now) =
    rw (c.deref-2.ensures.value, c.in_ok-marks.ensures.marks) refl in
    rw (starts, marks) at c.in_ok-blocks.ensures
