-- From the load of an entry to the jump of an open switch: where the walk stands at the jump, in the block itself, it
-- stood there at the words before, and the jump goes where the entry leads that was loaded.
use Rattle.std.specs.Prelude.{◌≡◌, ℕ, suc, ◌+◌, ◌-◌, ◌*◌, ◌<◌, ◌≤◌, false, List, length, slice_get, slice_index, Some, None}
use Rattle.std.specs.List.{Contains}
use Rattle.eel_base.specs.CodeText.{Words, word_at}
use Rattle.eel_base.specs.Code.{IsText}
use Rattle.v8_decode.specs.declared.Op2.{Op2}
use Rattle.v8_decode.specs.declared.Instr.TheVariants as i
use Rattle.v8_step.specs.declared.Slot.TheVariants.{NoSlot}
use Rattle.v8_step.specs.Items.{is_transfer}
use Rattle.v8_step.specs.State.{State, sum_of}
use Rattle.v8_step.specs.Run.{run}
use Rattle.cfg_blocks.specs.Blocks.{Blocks, last_word}
use Rattle.cfg_blocks.specs.Entries.{entered_of}
use Rattle.cfg_blocks.specs.Switches.{switches_of}
use Rattle.cfg_blocks.specs.Values.{instr_at}
use Rattle.cfg_normal.specs.declared.Node.TheVariants.{Block}
use Rattle.cfg_normal.specs.Opens.{Open, opens_of}
use Rattle.cfg_normal.specs.Graph.{Graph}
use Rattle.cfg_normal.specs.Code.{IsTableIn}
use Rattle.cfg_walk.specs.Walk.{end_of_walk}
use Rattle.switch_runs.specs.Cases.{LoadsEntry, OfSwitches, graph_in}
use Rattle.switch_runs.specs.Runs.{GoesIntoTable}

-- ---- on runs

-- The run is at a word outside slots, and its walk at the block itself, not at a landed copy.
pub record StandsAt (text : Words) (graph : Graph) (entry : ℕ) (s0 : State) (block n word : ℕ) : Type 0 where
  pub live : (run s0 n).ending ≡ None
  pub outside : (run s0 n).slot ≡ NoSlot
  pub itself : end_of_walk text graph entry s0 n ≡ Block (record { 0 = block })
  pub at : word_at text (run s0 n).pc ≡ Some word

-- From a moment on it stood so at so many words in a row.
abbrev pub StoodFrom : Words → Graph → ℕ → State → ℕ → ℕ → ℕ → ℕ → Type 0
StoodFrom text graph entry s0 block start word steps =
    (j : ℕ) → j ≤ steps → StandsAt text graph entry s0 block (start + j) (word + j)

-- The jump at moment n goes where an entry leads. The LD had this entry's address as many steps before as it stands
-- words before, and from then on the walk stood in the block.
pub record GoesByTable (text : Words) (graph : Graph) (entry : ℕ) (s0 : State) (o : Open) (n load : ℕ)
    (l : LoadsEntry text o load) : Type 0 where
  pub start : ℕ
  pub ago : n ≡ start + (o.approach.jump - load)
  pub stood : StoodFrom text graph entry s0 o.block start load (o.approach.jump - load)
  pub number : ℕ
  pub loaded : sum_of (run s0 start) l.rs1 l.op2 ≡ o.switch.table.0 + 4 * number
  pub jumps : GoesIntoTable text o.switch number (run s0 n)
  pub to : ℕ
  pub target : slice_get o.targets number ≡ Some to
  pub leads : word_at text (run s0 (suc n)).npc ≡ Some to

-- At the jump's block itself each jump of an open switch does, whichever LD of the block loads an entry.
abbrev pub JumpsGoByTable : Type 0
JumpsGoByTable = OfSwitches (λ text list opens entry s0.
    (o : Open) → Contains opens o → (n load : ℕ) → (l : LoadsEntry text o load)
    → StandsAt text (graph_in list opens) entry s0 o.block n o.approach.jump
    → o.approach.first ≤ load → load ≤ o.approach.jump → GoesByTable text (graph_in list opens) entry s0 o n load l)

-- ---- without runs

-- an LD of the jump's block that loads an entry
pub record HasLoad (text : Words) (o : Open) : Type 0 where
  pub load : ℕ
  pub above : o.approach.first ≤ load
  pub below : load < o.approach.jump
  pub loads : LoadsEntry text o load

-- The block of an open switch ends in its JMPL, with no transfer before and a word behind, and has such an LD. The table
-- stands in the text, and the targets are the words to which its entries lead.
pub record IsCaseBlock (text : Words) (b : Blocks) (o : Open) : Type 0 where
  pub within : o.block < length b.firsts
  pub first : o.approach.first ≡ slice_index b.firsts o.block
  pub last : o.approach.jump ≡ last_word b.firsts b.words o.block
  pub ordered : o.approach.first ≤ o.approach.jump
  pub behind : o.approach.jump + 1 < length text.words
  pub straight : (word : ℕ) → o.approach.first ≤ word → word < o.approach.jump
      → is_transfer (instr_at text word) ≡ false
  pub rd : ℕ
  pub rs1 : ℕ
  pub op2 : Op2
  pub jumps : instr_at text o.approach.jump ≡ i.Jmpl rd rs1 op2
  pub jump : o.switch.jump.0 ≡ o.approach.jump
  pub loaded : HasLoad text o
  pub table : IsTableIn text o.switch
  pub count : length o.targets ≡ o.switch.count
  pub targets : (number : ℕ) → number < o.switch.count
      → slice_get o.targets number ≡ word_at text (slice_index text.words (table.begins + number))

-- Each open switch of a text has such a block, and no other has the same.
abbrev pub CaseBlocks : Type 0
CaseBlocks =
    (text : Words) (given : List ℕ) (entry : ℕ) → IsText text
    → let list = entered_of text given in
    let opens = opens_of text list (switches_of text list entry) in
    (o : Open) → Contains opens o
    → IsCaseBlock text list.blocks o × ((other : Open) → Contains opens other → o.block ≡ other.block → o ≡ other)
