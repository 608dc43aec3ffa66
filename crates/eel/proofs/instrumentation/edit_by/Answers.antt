use Rattle.eel.proofs.Common.{ℕ, sym, subst, ◌∙◌, IsSound, MayAsk, Says}
use Rattle.eel.proofs.Tools.{counts_edges, edits_made, edits_refused, is_sound}
use Rattle.eel.proofs.instrumentation.edit_by.Goals as goal

pub new-tool-requires : goal.new-tool-requires
new-tool-requires c =
    subst (λ (n : ℕ). IsSound MayAsk Says n c.args.work) (sym c.cells-cells.ensures) (is_sound c.args.work c.requires.fit)

pub edit_view-requires-clause-counters : goal.edit_view-requires-clause-counters
edit_view-requires-clause-counters c =
    counts_edges _ _ _ _ c.new-tool.ensures.choose (c.new-tool.ensures.cells ∙ c.cells-cells.ensures) c.new-tool.ensures.marks
    (c.new-tool.ensures.kind ∙ c.kind-kind.ensures) c.requires.fit

pub returns-clause-edited : goal.returns-clause-edited
returns-clause-edited c =
    edits_made _ _ _ _ c.new-tool.ensures.choose (c.new-tool.ensures.cells ∙ c.cells-cells.ensures) c.new-tool.ensures.marks
    (c.new-tool.ensures.kind ∙ c.kind-kind.ensures) (λ file. file.items) c.edit_view.result c.edit_view.ensures.edited

pub returns-clause-refused : goal.returns-clause-refused
returns-clause-refused c =
    edits_refused _ _ _ _ c.new-tool.ensures.choose (c.new-tool.ensures.cells ∙ c.cells-cells.ensures) c.new-tool.ensures.marks
    (c.new-tool.ensures.kind ∙ c.kind-kind.ensures) c.edit_view.result c.edit_view.ensures.refused
