use Rattle.cfg_normal.proofs.Common.{◌≡◌, [], drop, length, AreLandings, AreTabled, opened}
use Rattle.cfg_normal.proofs.opening.open_switches.Given as goal

abbrev pub invariant-loop-switch : goal.invariant-loop-switch
invariant-loop-switch l = record {
  opens : opened l.text l.blocks l.opens.items (drop l.switch-index l.switches) ≡ opened l.text l.blocks [] l.switches;
  landings : AreLandings (length l.blocks.blocks.firsts) l.opens.items l.landings.items;
  tabled : AreTabled l.text l.opens.items l.tabled.items;
}
