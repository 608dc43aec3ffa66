use Rattle.cfg_normal.proofs.Common.{◌≡◌, ◌+◌, ◌++◌, length, map, take, case_of, landed_once}
use Rattle.cfg_normal.proofs.Cases.{AreMarked}
use Rattle.cfg_normal.proofs.edges.leave_by_cases.Given as goal

abbrev pub invariant-loop-target : goal.invariant-loop-target
invariant-loop-target l =
    let b = l.nodes.blocks in
    let opens = l.nodes.opens in
    record {
      edges : l.edges.items ≡ l.initial.edges.items
          ++ map (case_of b l.block.0) (landed_once b opens (take l.target-index l.targets));
      marks : AreMarked (length b.firsts) (l.block.0 + 1) l.seen (landed_once b opens (take l.target-index l.targets));
    }
