use Rattle.cfg_normal.proofs.Common.{◌≡◌, ◌∙◌, suc, add-one, ap, drop, drop-cons, length, sym, arith, opened}
use Rattle.std.proofs.Math.Seq.{take-append_seam}
use Rattle.cfg_normal.proofs.opening.open_switches.Goals as goal

pub loop-switch-preserved : goal.loop-switch-preserved
loop-switch-preserved c =
    let i = c.loop-switch.switch-index in
    let added = c.in_ok-add_switch.ensures in
    let landings : c.loop-switch.landings.len ≡ length c.add_switch.new.landings = omega (arith, added.landings.long) in
    let tabled : c.loop-switch.tabled.len ≡ length c.add_switch.new.tabled = omega (arith, added.tabled.long) in
    record {
      opens = rw add-one (ap (λ os. opened c.args.text.now c.args.blocks.now os (drop (suc i) c.args.switches.now)) added.opens
          ∙ ap (opened c.args.text.now c.args.blocks.now c.loop-switch.opens.items)
          (sym (drop-cons c.args.switches.now i _ c.loop-switch-test.true))
          ∙ c.loop-switch.invariant.opens);
      landings = rw (landings, take-append_seam) added.landings;
      tabled = rw (tabled, take-append_seam) added.tabled;
    }
