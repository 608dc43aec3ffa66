-- Open switches: those whose jump's block gets an edge for each target. A run may land between the comparison and the
-- jump, so these blocks get a second node, the landed copy, where nothing is known of the index.
use Rattle.std.specs.Prelude.{ℕ, ◌+◌, ◌-◌, Bool, true, false, ◌&&◌, ◌||◌, nat_lt, ◌==◌, if◌then◌else◌, List, [], ◌∷◌, ◌++◌, length, map, slice_index, slice_index_or, Option, Some, None}
use Rattle.std.specs.List.{list_any, flat_map}
use Rattle.std.specs.Option.{option_to_list}
use Rattle.eel_base.specs.CodeText.{Words, word_at}
use Rattle.v8_decode.specs.declared.Instr.{Instr}
use Rattle.v8_decode.specs.declared.Instr.TheVariants as i
use Rattle.cfg_blocks.specs.declared.BlockEnd.{BlockEnd}
use Rattle.cfg_blocks.specs.declared.BlockEnd.TheVariants as ends
use Rattle.cfg_blocks.specs.declared.EdgeKind.{EdgeKind}
use Rattle.cfg_blocks.specs.declared.Into.{Into}
use Rattle.cfg_blocks.specs.declared.Into.TheVariants as into
use Rattle.cfg_blocks.specs.declared.switches.Approach.{Approach}
use Rattle.cfg_blocks.specs.declared.switches.Compare.{Compare}
use Rattle.cfg_blocks.specs.declared.switches.Switch.{Switch}
use Rattle.cfg_blocks.specs.declared.switches.Value.{Value}
use Rattle.cfg_blocks.specs.declared.switches.Value.TheVariants.{Unknown, Entry}
use Rattle.cfg_blocks.specs.Blocks.{Blocks, below, end_of, holding_of}
use Rattle.cfg_blocks.specs.Entries.{Entered}
use Rattle.cfg_blocks.specs.Switches.{after_slot, approach_of, compare_of}
use Rattle.cfg_blocks.specs.Values.{followed, instr_at, sum_in}

-- ---- an open switch: the block of its jump, the way from the comparison's block to that, the words from the
-- comparison to the jump, and the words to which the entries of the table lead

pub record Open : Type 0 where
  pub switch : Switch
  pub block : ℕ
  pub way : EdgeKind
  pub approach : Approach
  pub targets : List ℕ

-- ---- the entry is loaded in the jump's block

-- what is known of a register, if it isn't an entry that was loaded before
abbrev pub unloaded : Value → Value
unloaded (Entry c) = Unknown
unloaded v = v

abbrev pub is_entry : Value → Bool
is_entry (Entry c) = true
is_entry _ = false

-- The values at the jump, of what was loaded in its block alone: where the jump goes to an entry by these, the LD that
-- made it stands in the block.
abbrev pub loaded_here : Words → Approach → List Value
loaded_here text a = followed text (map unloaded (after_slot text a)) a.first (a.jump - a.first)

abbrev pub loads_by : Words → Approach → Instr → Bool
loads_by text a (i.Jmpl rd rs1 op2) = is_entry (sum_in (loaded_here text a) rs1 op2)
loads_by text a _ = false

unfoldable pub loads_here : Words → Approach → Bool
loads_here text a = loads_by text a (instr_at text a.jump)

-- ---- the table

-- the numbers of the words from one on
abbrev pub words_from : ℕ → ℕ → List ℕ
words_from from count = map (λ k. from + k) (below count)

-- the words of the text where a table stands
abbrev pub table_words : Words → Switch → List ℕ
table_words text switch = flat_map (λ from. words_from from switch.count) (option_to_list (word_at text switch.table.0))

-- the words to which the entries of a table lead, in their order
unfoldable pub targets_of : Words → Switch → List ℕ
targets_of text switch =
    flat_map (λ word. option_to_list (word_at text (slice_index text.words word))) (table_words text switch)

-- the word stands in the table of one of these
abbrev pub is_tabled : Words → List Open → ℕ → Bool
is_tabled text opens word = list_any (λ (o : Open). list_any (λ x. x == word) (table_words text o.switch)) opens

-- a word of the table does
abbrev pub meets_any : Words → List Open → Switch → Bool
meets_any text opens switch = list_any (is_tabled text opens) (table_words text switch)

-- ---- candidates: what holds of a switch by itself

-- a slot follows the jump, and one follows the branch
abbrev pub is_candidate : Words → Approach → Bool
is_candidate text a =
    loads_here text a && nat_lt (a.jump + 1) (length text.words) && nat_lt (a.last + 1) (length text.words)

abbrev pub open_by : Words → Switch → ℕ → EdgeKind → Approach → Open
open_by text switch block way a =
    record { switch = switch; block = block; way = way; approach = a; targets = targets_of text switch }

abbrev pub candidate_on : Words → Blocks → Switch → ℕ → ℕ → EdgeKind → Bool → Option Compare → List Open
candidate_on text b switch block from way annul None = []
candidate_on text b switch block from way annul (Some c) =
    let a = approach_of text b block from annul way c in
    if is_candidate text a then open_by text switch block way a ∷ [] else []

abbrev pub candidate_behind : Words → Blocks → Switch → ℕ → ℕ → EdgeKind → BlockEnd → List Open
candidate_behind text b switch block from way (ends.Branch cond annul target) =
    candidate_on text b switch block from way annul (compare_of text b from)
candidate_behind text b switch block from way _ = []

-- the one edge into the jump's block leaves the comparison's
abbrev pub candidate_into : Words → Blocks → Switch → ℕ → Into → List Open
candidate_into text b switch block (into.One from way) =
    if switch.compare.0 == from.0 then candidate_behind text b switch block from.0 way (end_of b from.0) else []
candidate_into text b switch block _ = []

-- the switch as an open one, but for its table's place
unfoldable pub candidate : Words → Entered → Switch → List Open
candidate text list switch =
    let block = holding_of list.blocks switch.jump.0 in
    candidate_into text list.blocks switch block (slice_index_or list.intos block into.Nothing)

-- ---- the open switches, in address order of their jumps

-- the jump of an open switch ends the block
abbrev pub jumps_in : List Open → ℕ → Bool
jumps_in opens block = list_any (λ (o : Open). o.block == block) opens

-- A block has one switch, and a table shares no word with that of an open switch before.
abbrev pub is_closed : Words → Entered → List Open → Switch → Bool
is_closed text list opens switch =
    jumps_in opens (holding_of list.blocks switch.jump.0) || meets_any text opens switch

abbrev pub with_switch : Words → Entered → List Open → Switch → List Open
with_switch text list opens switch =
    if is_closed text list opens switch then opens else opens ++ candidate text list switch

abbrev pub opened : Words → Entered → List Open → List Switch → List Open
opened text list opens [] = opens
opened text list opens (switch ∷ switches) = opened text list (with_switch text list opens switch) switches

unfoldable pub opens_of : Words → Entered → List Switch → List Open
opens_of text list switches = opened text list [] switches

-- ---- which blocks have a landed copy

-- the comparison of one stands in the block
abbrev pub compares_in : List Open → ℕ → Bool
compares_in opens block = list_any (λ (o : Open). o.switch.compare.0 == block) opens

abbrev pub is_copied : List Open → ℕ → Bool
is_copied opens block = jumps_in opens block || compares_in opens block

-- the word of the block stands behind the comparison of an open switch
abbrev pub is_behind : List Open → ℕ → ℕ → Bool
is_behind opens block word =
    list_any (λ (o : Open). (o.switch.compare.0 == block) && nat_lt o.approach.compare.word word) opens

-- the words to which the entries lead for a block
abbrev pub targets_in : List Open → ℕ → List ℕ
targets_in opens block = flat_map (λ (o : Open). if o.block == block then o.targets else []) opens
