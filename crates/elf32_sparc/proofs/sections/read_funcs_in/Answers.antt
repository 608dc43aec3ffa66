use Rattle.elf32_sparc.proofs.Common.{◌+◌, ◌*◌, sym, ap, ◌∙◌, func_at}
use Rattle.elf32_sparc.proofs.Functions.{funcs-kept, funcs-passed}
use Rattle.elf32_sparc.proofs.sections.read_funcs_in.Goals as goal
use Rattle.elf32_sparc.proofs.sections.read_funcs_in.Goals.{in-Some+in_ok-push, in_default}

pub loop-number-preserved : goal.loop-number-preserved
loop-number-preserved c =
    let read = c.in_ok-func.ensures ∙ ap (λ names. func_at c.args.bytes.now c.args.text.now names (c.args.symbols.now.sh_offset + 16 * c.loop-number.number)) c.part-names.ensures in
    elim c.match-branch-2.branch [
      | in-Some+in_ok-push w ↦
          let items = ap (λ v. v.items) w.funcs-is ∙ w.in_ok-push.ensures.items in
          funcs-kept _ c.loop-number.number c.loop-number.funcs.items _ _ (sym w.in-Some.is ∙ read) items c.loop-number.invariant
      | in_default w ↦
          let items = ap (λ v. v.items) w.funcs-is in
          funcs-passed _ c.loop-number.number c.loop-number.funcs.items _ (sym w.in_default.is ∙ read) items c.loop-number.invariant
    ]
