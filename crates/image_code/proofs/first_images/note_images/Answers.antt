use Rattle.image_code.proofs.Common.{◌∙◌}
use Rattle.image_code.proofs.OpenNumbers.{facts_of, first_images}
use Rattle.image_code.proofs.first_images.note_images.Goals as goal

pub returns-clause-images : goal.returns-clause-images
returns-clause-images c =
    first_images _ _ (facts_of _ _ c.requires.source) _ _ (c.in_ok-behind.ensures.long ∙ c.note_blocks.ensures.long
    ∙ c.requires.long) c.note_blocks.ensures.blocks c.in_ok-behind.ensures.noted
