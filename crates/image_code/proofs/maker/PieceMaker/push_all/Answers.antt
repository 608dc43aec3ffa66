use Rattle.image_code.proofs.Common.{append_assoc, map-append, piece_labels, shape_list}
use Rattle.std.proofs.lemmas.Simd.{map-map}
use Rattle.image_code.proofs.maker.PieceMaker.push_all.Goals as goal

pub returns-clause-list : goal.returns-clause-list
unfolding piece_labels shape_list
returns-clause-list c =
    rw (c.in_ok-push_piece.ensures, c.bare.ensures, c.in_ok-cases.ensures.list, c.in_ok-push_opens.ensures) (rw
    (c.in_ok-push_landings.ensures, c.in_ok-push_ways.ensures, c.in_ok-push_images.ensures, c.requires.empty)
    (simp (append_assoc, map-append, map-map)))
