-- Where the jump of a switch goes, on the run of a machine that comes to it from the comparison.
use Rattle.std.specs.Prelude.{◌≡◌, ℕ, ◌+◌, ◌-◌, ◌*◌, ◌<◌, Bool, true, if◌then◌else◌, List, slice_index, slice_index_or, Option, Some, None}
use Rattle.std.specs.Option.{is_some}
use Rattle.eel_base.specs.declared.numbers.BlockNo.{BlockNo}
use Rattle.eel_base.specs.declared.numbers.WordNo.{WordNo}
use Rattle.eel_base.specs.CodeText.{Words, address_of, word_at}
use Rattle.eel_base.specs.Code.{IsText}
use Rattle.v8_alu.specs.Conditions.{holds_of}
use Rattle.v8_step.specs.State.{State, register_of}
use Rattle.v8_step.specs.Step.{step_of}
use Rattle.v8_step.specs.Run.{run}
use Rattle.v8_step.specs.Valid.{IsValid}
use Rattle.cfg_blocks.specs.declared.BlockEnd.TheVariants as ends
use Rattle.cfg_blocks.specs.declared.EdgeKind.{EdgeKind}
use Rattle.cfg_blocks.specs.declared.Into.TheVariants as into
use Rattle.cfg_blocks.specs.declared.switches.Approach.{Approach}
use Rattle.cfg_blocks.specs.declared.switches.Compare.{Compare}
use Rattle.cfg_blocks.specs.declared.switches.Switch.{Switch}
use Rattle.cfg_blocks.specs.Blocks.{end_of}
use Rattle.cfg_blocks.specs.Entries.{Entered, entered_of}
use Rattle.cfg_blocks.specs.Switches.{approach_of, compare_of, is_taken, runs_slot, switch_of}
use Rattle.cfg_walk.specs.Matches.{BeginsAt, FetchesOnly}
use Rattle.switch_runs.specs.Held.{HoldsText}

-- The one edge into a block leaves the block `from`, by a branch whose codes this comparison sets.
pub record IsInto (text : Words) (list : Entered) (block : ℕ) (from : BlockNo) (way : EdgeKind) (cond : ℕ)
    (annul : Bool) (compare : Compare) : Type 0 where
  pub target : Option WordNo
  pub edge : slice_index_or list.intos block into.Nothing ≡ into.One from way
  pub branch : end_of list.blocks from.0 ≡ ends.Branch cond annul target
  pub sets : compare_of text list.blocks from.0 ≡ Some compare

-- ---- how many steps after the comparison the branch and the jump come: one for each word, and for the slot where
-- it is run

abbrev pub to_branch : Approach → ℕ
to_branch a = a.last - a.compare.word

abbrev pub to_jump : Approach → Bool → ℕ
to_jump a runs = to_branch a + 1 + (if runs then 1 else 0) + (a.jump - a.first)

-- The machine stands at the comparison. The branch behind it goes this way, and the run goes on for as many steps as
-- there are to the jump.
pub record ComesAlong (text : Words) (a : Approach) (cond : ℕ) (annul : Bool) (way : EdgeKind) (s : State)
    : Type 0 where
  pub compares : s.pc ≡ address_of text a.compare.word
  pub goes : holds_of cond (run s (to_branch a)).codes ≡ is_taken way
  pub live : (run s (to_jump a (runs_slot annul way))).ending ≡ None

-- The machine stands at the jump. Its step goes on, to the word whose address the entry of the table of a number holds.
pub record GoesIntoTable (text : Words) (switch : Switch) (number : ℕ) (s : State) : Type 0 where
  pub stands : s.pc ≡ address_of text switch.jump.0
  pub live : (step_of s).ending ≡ None
  pub below : number < switch.count
  pub entry : ℕ
  pub is : word_at text (switch.table.0 + 4 * number) ≡ Some entry
  pub goes : (step_of s).npc ≡ slice_index text.words entry
  pub inside : is_some (word_at text (step_of s).npc) ≡ true

-- On each run of a program that comes from the comparison of a switch along the edge into the jump's block, the jump
-- goes to the entry of the table whose number was compared. (The word where the run begins is free.)
abbrev pub SwitchesHold : Type 0
SwitchesHold = (text : Words) (given : List ℕ) (entry block : ℕ) (switch : Switch)
    → let list = entered_of text given in
    switch_of text list entry block ≡ Some switch
    → (from : BlockNo) (way : EdgeKind) (cond : ℕ) (annul : Bool) (compare : Compare)
    → IsInto text list block from way cond annul compare
    → (s0 : State) (start n : ℕ) → IsText text → IsValid s0 → FetchesOnly text s0 → HoldsText text s0.memory
    → BeginsAt text start s0
    → let a = approach_of text list.blocks block from.0 annul way compare in
    let s = run s0 n in
    ComesAlong text a cond annul way s
    → GoesIntoTable text switch (register_of s compare.register) (run s (to_jump a (runs_slot annul way)))
