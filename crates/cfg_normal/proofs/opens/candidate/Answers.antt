use Rattle.std.proofs.Common.{ℕ, List, [], ◌∷◌, ap, sym, ◌∙◌}
use Rattle.cfg_normal.proofs.Candidates.{candidate_at}
use Rattle.cfg_normal.proofs.opens.candidate.Goals as goal

pub returns-in_ok-targets-in-Some-clause-open : goal.returns-in_ok-targets-in-Some-clause-open
returns-in_ok-targets-in-Some-clause-open c =
    candidate_at _ _ _ _ c.requires.holding ∙ c.in-Some.ensures.candidates
    ∙ ap (λ (targets : List ℕ). record {
      switch = c.args.switch;
      block = c.args.block.0;
      way = c.in-Some.way;
      approach = c.in-Some.approach;
      targets = targets;
    } ∷ []) (sym c.in_ok-targets-in-Some.ensures)

pub returns-in-None-clause-open : goal.returns-in-None-clause-open
returns-in-None-clause-open c = candidate_at _ _ _ _ c.requires.holding ∙ c.in-None.ensures.candidates
