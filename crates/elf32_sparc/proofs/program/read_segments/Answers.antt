use Rattle.std.proofs.Common.{◌++◌, ◌∷◌, [], sym, ap, ◌∙◌}
use Rattle.elf32_sparc.proofs.Readings.{segments-kept, segments-passed, segments-all}
use Rattle.elf32_sparc.proofs.Surveys.{headers-none}
use Rattle.elf32_sparc.proofs.program.read_segments.Goals as goal
use Rattle.elf32_sparc.proofs.program.read_segments.Goals.{then-is_loadable+in_ok-push, else-is_loadable}

pub loop-number-init : goal.loop-number-init
loop-number-init c =
    rw (c.new-segments.ensures.items, c.word_at-table.ensures, c.half_at-number-end.ensures) (rw headers-none)

pub loop-number-preserved : goal.loop-number-preserved
loop-number-preserved c =
    let xs = c.loop-number.segments.items in
    let h = c.read-header.result in
    elim c.if-is_loadable.branch [
      | then-is_loadable+in_ok-push w ↦
          let items = ap (λ v. v.items) w.segments-is ∙ (w.in_ok-push.ensures.items ∙ ap (λ s. xs ++ s ∷ []) w.of.ensures) in
          segments-kept c.args.bytes.now xs _ _ h c.word_at-table.result c.half_at-number-end.result c.loop-number.number c.loop-number-test.true c.read-header.ensures.header (sym c.is_loadable.ensures ∙ w.if-is_loadable.true) items c.loop-number.invariant
      | else-is_loadable w ↦
          let items = ap (λ v. v.items) w.segments-is in
          segments-passed c.args.bytes.now xs _ _ h c.word_at-table.result c.half_at-number-end.result c.loop-number.number c.loop-number-test.true c.read-header.ensures.header (sym c.is_loadable.ensures ∙ w.if-is_loadable.false) items c.loop-number.invariant
    ]

pub returns : goal.returns
returns c = segments-all c.args.bytes.now c.loop-number.segments.items _ _ c.half_at-number-end.result c.loop-number.number c.loop-number-test.false c.loop-number.invariant
