-- Where the jump of an open switch goes: where the walk stands at the block of the jump itself, and not at its landed
-- copy, the comparison was made, and the jump goes to an entry of the table.
use Rattle.std.specs.Prelude.{◌≡◌, ℕ, ◌+◌, ◌-◌, ◌*◌, ◌<◌, ◌≤◌, Bool, true, List, length, Some, None}
use Rattle.std.specs.List.{Contains}
use Rattle.eel_base.specs.CodeText.{Words, address_of, word_at}
use Rattle.eel_base.specs.Code.{IsText}
use Rattle.v8_alu.specs.Conditions.{holds_of}
use Rattle.v8_step.specs.declared.Slot.TheVariants.{NoSlot}
use Rattle.v8_decode.specs.declared.Op2.{Op2}
use Rattle.v8_decode.specs.declared.LoadKind.TheVariants as loads
use Rattle.v8_decode.specs.declared.Instr.TheVariants as i
use Rattle.v8_step.specs.State.{State, register_of, sum_of}
use Rattle.cfg_blocks.specs.Values.{instr_at, sum_in}
use Rattle.cfg_blocks.specs.declared.switches.Value.TheVariants.{Place}
use Rattle.v8_step.specs.Run.{run}
use Rattle.v8_step.specs.Valid.{IsValid}
use Rattle.cfg_blocks.specs.declared.switches.Approach.{Approach}
use Rattle.cfg_blocks.specs.Blocks.{is_among}
use Rattle.cfg_blocks.specs.Entries.{Entered, entered_of}
use Rattle.cfg_blocks.specs.Switches.{approach_of, before_jump, is_taken, switch_of, switches_of}
use Rattle.cfg_normal.specs.declared.Node.TheVariants.{Block}
use Rattle.cfg_normal.specs.Opens.{Open, loads_here, opens_of, targets_of}
use Rattle.cfg_normal.specs.Graph.{Graph, graph_of, has_cases}
use Rattle.cfg_walk.specs.Walk.{end_of_walk}
use Rattle.cfg_walk.specs.Matches.{BeginsAt, FetchesOnly, JumpsGoByCase, MatchesRun}
use Rattle.switch_runs.specs.Held.{HoldsText}
use Rattle.switch_runs.specs.Runs.{GoesIntoTable, IsInto, to_branch}

-- ---- what an open switch is

pub record IsOpenSwitch (text : Words) (list : Entered) (entry : ℕ) (o : Open) : Type 0 where
  pub cond : ℕ
  pub annul : Bool
  pub is_switch : switch_of text list entry o.block ≡ Some o.switch
  pub parts : IsInto text list o.block o.switch.compare o.way cond annul o.approach.compare
  pub approach : o.approach ≡ approach_of text list.blocks o.block o.switch.compare.0 annul o.way o.approach.compare
  pub loads : loads_here text o.approach ≡ true
  pub last : o.approach.last + 1 < length text.words
  pub jump : o.approach.jump + 1 < length text.words
  pub targets : o.targets ≡ targets_of text o.switch

-- ---- what has happened where the walk stands about a switch

-- And its branch went the way to the jump.
pub record HasPassed (text : Words) (o : Open) (cond : ℕ) (s0 : State) (n steps : ℕ) : Type 0 where
  pub moment : ℕ
  pub ago : n ≡ moment + steps
  pub compares : (run s0 moment).pc ≡ address_of text o.approach.compare.word
  pub goes : holds_of cond (run s0 (moment + to_branch o.approach)).codes ≡ is_taken o.way

-- how many steps after the comparison a word of the jump's block comes
abbrev pub steps_to : Open → ℕ → ℕ
steps_to o word = to_branch o.approach + 1 + o.approach.slot + (word - o.approach.first)

-- The walk stands at a word of the jump's block itself: some open switch of the block has been compared, and its branch
-- has passed, just so many steps before.
pub record ComesFromCompare (text : Words) (list : Entered) (entry : ℕ) (opens : List Open) (s0 : State)
    (n block word : ℕ) : Type 0 where
  pub switch : Open
  pub among : Contains opens switch
  pub is : IsOpenSwitch text list entry switch
  pub block_is : switch.block ≡ block
  pub passed : HasPassed text switch is.cond s0 n (steps_to switch word)

-- ---- the number that was compared

abbrev pub number_in : Open → State → ℕ → ℕ
number_in o s0 moment = register_of (run s0 moment) o.approach.compare.register

-- the words from the comparison to one of the jump's block
abbrev pub approach_to : Open → ℕ → Approach
approach_to o word =
    record {
      compare = o.approach.compare;
      last = o.approach.last;
      slot = o.approach.slot;
      first = o.approach.first;
      jump = word;
    }

-- An LD of the jump's block, from the table at four times the index by what the words before it give. (The one that
-- makes the entry is such an LD, and all such load from one address.)
pub record LoadsEntry (text : Words) (o : Open) (word : ℕ) : Type 0 where
  pub rd : ℕ
  pub rs1 : ℕ
  pub op2 : Op2
  pub is : instr_at text word ≡ i.Load loads.LD rd rs1 op2
  pub place : sum_in (before_jump text (approach_to o word)) rs1 op2 ≡ Place o.switch.table.0

-- `number` is that of the entry that is used at this word after n steps: an LD of the word has the entry's address,
-- and the jump goes to the address that the entry holds.
pub record IsNumbered (text : Words) (o : Open) (s0 : State) (n word number : ℕ) : Type 0 where
  pub loads : (l : LoadsEntry text o word)
      → (number < o.switch.count) × (sum_of (run s0 n) l.rs1 l.op2 ≡ o.switch.table.0 + 4 * number)
  pub jumps : word ≡ o.switch.jump.0 → GoesIntoTable text o.switch number (run s0 n)

-- ---- the laws

-- of each run of a program from its entry, over the graph with its open switches
abbrev pub OfSwitches : (Words → Entered → List Open → ℕ → State → Type 0) → Type 0
OfSwitches Holds =
    (text : Words) (given : List ℕ) (entry : ℕ) (s0 : State) → IsText text → IsValid s0 → FetchesOnly text s0
    → HoldsText text s0.memory → BeginsAt text entry s0 → is_among given entry ≡ true
    → let list = entered_of text given in
    Holds text list (opens_of text list (switches_of text list entry)) entry s0

abbrev pub graph_in : Entered → List Open → Graph
graph_in list opens = graph_of list.blocks opens

-- Where the walk stands at the block itself of an open switch's jump, outside a slot, the comparison was made.
abbrev pub IsCompared : Words → Entered → List Open → ℕ → State → Type 0
IsCompared text list opens entry s0 =
    (n block word : ℕ) → (run s0 n).ending ≡ None → (run s0 n).slot ≡ NoSlot
    → end_of_walk text (graph_in list opens) entry s0 n ≡ Block (record { 0 = block })
    → has_cases opens (Block (record { 0 = block })) ≡ true → word_at text (run s0 n).pc ≡ Some word
    → ComesFromCompare text list entry opens s0 n block word

abbrev pub SwitchesAreCompared : Type 0
SwitchesAreCompared = OfSwitches IsCompared

-- So each jump of such a block leads along one of its Case edges.
abbrev pub JumpsAreCases : Type 0
JumpsAreCases = OfSwitches (λ text list opens entry s0. JumpsGoByCase text (graph_in list opens) entry s0)

-- And so the walk matches the run.
abbrev pub SwitchWalksMatch : Type 0
SwitchWalksMatch =
    OfSwitches (λ text list opens entry s0. (n : ℕ) → MatchesRun text (graph_in list opens) entry s0 n)

-- The number that was compared is the number of the entry that is used. Let the walk stand after n steps at a word of
-- the jump's block itself, let `from` be the open switch that this comes from, and let i be what its compared register
-- held at the comparison. Then (`IsNumbered`):
--   - where the word is an LD that loads from the table, i is below the count of entries, and the LD's address is that
--     of the table + 4 * i;
--   - where the word is the jump, it goes to the address that entry i holds.
abbrev pub NumbersAreCompared : Type 0
NumbersAreCompared = OfSwitches (λ text list opens entry s0.
    (n block word : ℕ) → (run s0 n).ending ≡ None → (from : ComesFromCompare text list entry opens s0 n block word)
    → from.switch.approach.first ≤ word → word ≤ from.switch.approach.jump
    → IsNumbered text from.switch s0 n word (number_in from.switch s0 from.passed.moment))

-- A block has one open switch.
abbrev pub OpensAreOne : Type 0
OpensAreOne = (text : Words) (list : Entered) (entry : ℕ) (one other : Open) → IsOpenSwitch text list entry one
    → IsOpenSwitch text list entry other → one.block ≡ other.block → one ≡ other
