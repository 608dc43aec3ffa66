use Rattle.image_code.proofs.Common.{append_assoc, arith, map-append, some_words, le_prop, ∥∥₁_elim}
use Rattle.image_code.proofs.Sources.{found_stands, known, open_stands}
use Rattle.image_code.proofs.OpenBlocks.{load_within}
use Rattle.image_code.proofs.maker.PieceMaker.push_open.Goals as goal

pub first-from-requires : goal.first-from-requires
first-from-requires c =
    rw c.switch.ensures (found_stands c.args.self.now.found le_prop _ _ c.requires.found (λ stands. stands.from))

pub words-count-requires : goal.words-count-requires
words-count-requires c =
    rw c.switch.ensures (found_stands c.args.self.now.found le_prop _ _ c.requires.found (λ stands. stands.from))

pub push_images_at-requires : goal.push_images_at-requires
push_images_at-requires c = record {
  node = rw c.switch.ensures (found_stands c.args.self.now.found le_prop _ _ c.requires.found (λ stands. stands.from));
  words = known c.args.self.now.found le_prop (λ g _.
      omega (arith, c.first-from.ensures.first, c.words-count.ensures.within, g.cut.words));
}

pub push_block-requires : goal.push_block-requires
push_block-requires c =
    let b = c.args.self.now.graph.now.blocks in
    let o = c.args.found.now in
    let load = c.load-load.ensures o c.requires.found in
    record {
      block = rw c.block.ensures (found_stands c.args.self.now.found le_prop _ _ c.requires.found (λ stands. stands.block));
      above = rw (c.block.ensures, load) (found_stands c.args.self.now.found le_prop _ _ c.requires.found (λ stands.
          (load_within _ b o stands).0));
      below = rw (c.block.ensures, load) (∥∥₁_elim c.args.self.now.found le_prop (λ found.
          let stands = open_stands found.source c.args.number o c.requires.found in
          let h = load_within c.args.self.now.text.now b o stands in
          omega (arith, some_words b.words b.firsts found.source.is_graph.firsts o.block stands.block)));
    }

pub returns : goal.returns
returns c =
    let load = c.load-load.ensures c.args.found.now c.requires.found in
    rw (c.in_ok-push_block.ensures, c.in_ok-push_images_at.ensures, c.first-from.ensures.first)
    (rw (c.words-count.ensures.size, c.switch.ensures, c.block.ensures, load) (simp (map-append, append_assoc)))
