use Rattle.image_code.proofs.Common.{◌≡◌, Option, Some, None, List, [], ◌∷◌, ◌++◌, append_assoc, refl, ap, ◌∙◌, Item, Head, head_items, items_of, mark_items, SourceWord, code_at}
use Rattle.layout.specs.declared.items.Item.TheVariants as it
use Rattle.image_code.proofs.shape.assemble.Goals as goal

mark_first : (mark : Option (SourceWord × Head)) (rest : List Item) → mark_items mark [] ++ rest ≡ mark_items mark rest
mark_first None rest = refl
mark_first (Some (visit, head)) rest =
    ap (λ xs. it.Mark visit.address visit.node ∷ xs) (append_assoc (head_items visit.address head) (it.EndMark ∷ []) rest)

pub returns : goal.returns
returns c =
    rw (c.in_ok-push_exit.ensures, c.in_ok-push_words.ensures, c.in_ok-push_mark.ensures, c.in_ok-items.ensures.items)
    (rw (c.code_on-code.ensures, append_assoc (mark_items c.shape.inside.mark []))
    (mark_first c.shape.inside.mark _ ∙ ap (items_of (code_at c.args.codes.now)) c.shape.view_is))
