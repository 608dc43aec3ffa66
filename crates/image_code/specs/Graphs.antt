-- The graph of a text with its open switches, and what the code has to know of each.
use Rattle.std.specs.Prelude.{◌≡◌, ℕ, List}
use Rattle.eel_base.specs.CodeText.{Words, word_at}
use Rattle.cfg_blocks.specs.Blocks.{blocks_of}
use Rattle.cfg_blocks.specs.Entries.{entered_of}
use Rattle.cfg_blocks.specs.Switches.{switches_of}
use Rattle.cfg_blocks.specs.Values.{instr_at}
use Rattle.cfg_normal.specs.Opens.{Open, opens_of}
use Rattle.cfg_normal.specs.Graph.{Graph, graph_of}
use Rattle.image_code.specs.Loads.{first_operand, load_of, second_operand}
use Rattle.image_code.specs.Labels.{or_zero}
use Rattle.image_code.specs.Simulates.{CaseTable}

-- the open switches of a text, whose program is entered at a word, where these words lead besides
abbrev pub opens_in : Words → List ℕ → ℕ → List Open
opens_in text given entry =
    let list = entered_of text given in
    opens_of text list (switches_of text list entry)

-- It is the graph of the text with its open switches, of a program that is entered at some word, whatever words lead
-- besides.
pub record IsGraphOf (text : Words) (graph : Graph) : Type 0 where
  pub given : List ℕ
  pub entry : ℕ
  pub is : graph ≡ graph_of (blocks_of text given) (opens_in text given entry)

-- what the code has to know of an open switch
abbrev pub case_table : Words → Open → CaseTable
case_table text o =
    let load = instr_at text (load_of text o) in
    record {
      block = o.block;
      load = load_of text o;
      jump = o.approach.jump;
      rs1 = first_operand load;
      op2 = second_operand load;
      from = or_zero (word_at text o.switch.table.0);
      count = o.switch.count;
    }
