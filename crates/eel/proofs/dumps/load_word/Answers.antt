use Rattle.eel.proofs.Common.{sym, ◌∙◌}
use Rattle.eel.proofs.Cells.{word_loaded}
use Rattle.eel.proofs.dumps.load_word.Goals as goal

pub unreachable-requires : goal.unreachable-requires
unreachable-requires c =
    let loaded = word_loaded _ _ _ c.requires.aligned c.requires.loadable c.load32.ensures in
    absurd (cc (sym loaded ∙ c.in-Err.is))

pub returns : goal.returns
returns c =
    let loaded = word_loaded _ _ _ c.requires.aligned c.requires.loadable c.load32.ensures in
    cc (sym c.in-Ok.is ∙ loaded)
