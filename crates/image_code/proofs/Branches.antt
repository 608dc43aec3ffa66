-- The ways of transfers, and the words of images.
use Rattle.image_code.proofs.Common.{◌≡◌, ℕ, false, Option, refl, arith, pos, slice_index, Words, Instr, decode_of, Slot, is_transfer, EdgeKind, is_fall, Node, Graph, same_kind, left_by, way_of, nop, branch_or_sethi, OfWord, marked, couple_word, nop_word, image_by, next_at}
use Rattle.v8_decode.specs.declared.Instr.TheVariants as i
use Rattle.cfg_blocks.specs.declared.EdgeKind.TheVariants as kinds
use Rattle.image_code.specs.declared.shape.Head.TheVariants as heads

pub nop_says : decode_of nop_word ≡ nop
unfolding decode_of branch_or_sethi
nop_says = refl

pub couple_says : decode_of couple_word ≡ i.Branch 8 false (pos 2)
unfolding decode_of branch_or_sethi
couple_says = refl

-- the way that a transfer goes is no fall, no landing and no case
pub record IsTransfersWay (kind : EdgeKind) : Type 0 where
  pub fall : is_fall kind ≡ false
  pub land : same_kind kind kinds.Land ≡ false
  pub caseless : same_kind kind kinds.Case ≡ false

pub way_is_own : (o : Option Instr) (slot : Slot) → IsTransfersWay (way_of o slot)
way_is_own o slot = grind arith

pub image_straight : (text : Words) (graph : Graph) (jumps cases : ℕ) (visit : OfWord) (node : Node) (word : ℕ)
    (instr : Instr) → is_transfer instr ≡ false
    → image_by text graph jumps cases visit node word instr
    ≡ marked visit (heads.Word (slice_index text.words word)) (left_by graph node word instr) (next_at text graph node word)
image_straight text graph jumps cases visit node word instr e = grind arith
