use Rattle.v8_encode.proofs.Common.{refl, ◌∙◌, arith, length-replicate, length-set, has_word}
use Rattle.std.proofs.lemmas.List.Sums.{AllPass-from_list_all}
use Rattle.v8_encode.proofs.Several.{all_words, one_more}
use Rattle.v8_encode.proofs.instrs.words.Goals as goal

pub instrs-init : goal.instrs-init
instrs-init g c = (length-replicate _ _, (refl, refl))

pub word-requires : goal.word-requires
word-requires g c = AllPass-from_list_all has_word c.args.instrs.now c.requires c.instrs.n _ (omega arith)

pub instrs-preserved : goal.instrs-preserved
instrs-preserved g c = (
  length-set _ _ _ ∙ c.instrs.invariant.0,
  one_more c.args.instrs.now c.instrs.words c.instrs.n c.word.result c.index-instrs-n.result (omega arith) (omega arith)
      c.word.ensures.word c.word.ensures.decodes c.instrs.invariant.1,
)

pub returns : goal.returns
returns g c =
    let is = all_words c.args.instrs.now c.instrs.words c.instrs.n (omega arith) (omega arith) c.instrs.invariant.1 in
    record { words = is.0; decodes = is.1 }
