-- Where control comes to the load of an open switch, its address is kept before; everywhere else control comes to the
-- visit itself.
use Rattle.std.specs.Prelude.{◌≡◌, ℕ, ◌<◌, ◌≤◌, true, false, length, Some, slice_get, slice_index}
use Rattle.eel_base.specs.Code.{IsText}
use Rattle.v8_decode.specs.declared.Instr.TheVariants as i
use Rattle.v8_decode.specs.declared.LoadKind.TheVariants as loads
use Rattle.v8_decode.specs.Ranges.{operands_in_range}
use Rattle.v8_decode.specs.Words.{decode_of}
use Rattle.v8_encode.specs.Code.{op2_fits}
use Rattle.v8_step.specs.Items.{is_transfer}
use Rattle.cfg_blocks.specs.Blocks.{last_word}
use Rattle.image_code.specs.Simulates.{CaseTable, EditSetup, graph_in}

-- The words from the load to the jump: an LD with these operands, and no transfer before the jump, with which the block
-- ends.
pub record IsCaseTable (g : EditSetup) (o : CaseTable) : Type 0 where
  pub order : o.load < o.jump
  pub within : o.jump < length g.text.words
  pub last : last_word (graph_in g).blocks.firsts (graph_in g).blocks.words o.block ≡ o.jump
  pub rd : ℕ
  pub loads : decode_of (slice_index g.text.words o.load) ≡ i.Load loads.LD rd o.rs1 o.op2
  pub in_range : operands_in_range o.rs1 o.op2 ≡ true
  pub fits : op2_fits o.op2 ≡ true
  pub straight : (word : ℕ) → o.load ≤ word → word < o.jump
      → is_transfer (decode_of (slice_index g.text.words word)) ≡ false

pub record AreCaseTables (g : EditSetup) : Type 0 where
  pub text : IsText g.text
  pub each : (k : ℕ) (o : CaseTable) → slice_get g.opens k ≡ Some o → IsCaseTable g o
  -- a block has one at most
  pub apart : (k j : ℕ) (o q : CaseTable) → slice_get g.opens k ≡ Some o → slice_get g.opens j ≡ Some q
      → o.block ≡ q.block → o ≡ q
