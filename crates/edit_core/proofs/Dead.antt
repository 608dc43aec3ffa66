-- What the live sets leave is dead.
use Rattle.edit_core.proofs.Common.{◌≡◌, ℕ, true, not, List, ap, ◌∙◌, false_from_ne_true, Words, Part, has, Graph, dead_on, has-members_at, set_of-members, AreLive, Live, edge_set, AreDead}

pub rest_is_dead : (text : Words) (graph : Graph) (named : ℕ → List Part) (sets : Live) → AreLive text graph named sets
    → AreDead text graph named (dead_on sets)
rest_is_dead text graph named sets are = record {
  sets = λ edge within. set_of-members (λ x. not (has (edge_set sets edge) x));
  all = λ edge within part member.
      let at = has-members_at (λ x. not (has (edge_set sets edge) x)) part member in
      let live = are.edges edge within part in (
        λ gone lives. let some : has (edge_set sets edge) part ≡ true = live.1 lives in absurd (cc (at, gone, some)),
        λ none. at ∙ ap not (false_from_ne_true _ (λ some. none (live.0 some))),
      );
}
