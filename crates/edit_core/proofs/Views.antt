-- What the view of a file has.
use Rattle.edit_core.proofs.Common.{◌≡◌, ℕ, ◌≤◌, List, None, refl, sym, ap, fault, image_of, entered_of, Graph, Seen, view_of, Plan, CanEdit, bound_in, bound_of, IsViewOf}
use Rattle.edit_core.specs.Written.{CanDo, IsWorkable, graph_in}

pub view_graph : (file : List ℕ) (plan : Plan) → (view_of file plan.marks).graph ≡ graph_in file plan
unfolding view_of entered_of
view_graph file plan = refl

-- what was seen of a file
module _ (file : List ℕ) (plan : Plan) (view : Seen) (is : view ≡ view_of file plan.marks) where
  pub view_is : IsViewOf file plan view.image view.graph
  unfolding view_of entered_of
  view_is = rw is (refl, refl)

  pub view_bound : bound_of view.image.text view.graph plan ≡ bound_in file plan
  unfolding view_of
  view_bound = rw is refl

  -- it can be edited, where there is room
  pub can_edit : None ≡ fault file → bound_of view.image.text view.graph plan ≤ view.image.room → CanEdit file plan
  can_edit sound room = record { sound = sym sound; room = rw (← view_bound) (rw (← view_is.0) room) }

  -- and what can be done on its graph can be done on that of the file
  pub view_can_do : IsWorkable view.graph plan.kind plan.cells plan.snips → CanDo file plan
  view_can_do work = rw view_is.1 at work

-- the bound of what can be edited, by the graph
pub bound_is : (file : List ℕ) (plan : Plan) → bound_in file plan ≡ bound_of (image_of file).text (graph_in file plan) plan
bound_is file plan = ap (λ (g : Graph). bound_of (image_of file).text g plan) (view_graph file plan)
