-- How control leaves a word of a text (The SPARC Architecture Manual, Version 8, B.21, B.24 and B.25): by a
-- transfer, or on to the next word.
use Rattle.std.specs.Prelude.{ℕ, ◌+◌, Bool, true, false, ◌==◌, nat_lt, if◌then◌else◌, List, [], ◌∷◌, slice_index, Option, Some, None, ℤ}
use Rattle.eel_base.specs.CodeText.{Words, numbered, target_of}
use Rattle.eel_base.specs.declared.numbers.WordNo.{WordNo}
use Rattle.v8_decode.specs.declared.Instr.{Instr}
use Rattle.v8_decode.specs.declared.Instr.TheVariants as i
use Rattle.v8_decode.specs.Words.{decode_of}
use Rattle.cfg_blocks.specs.declared.BlockEnd.{BlockEnd}
use Rattle.cfg_blocks.specs.declared.BlockEnd.TheVariants as ends
use Rattle.cfg_blocks.specs.declared.EdgeKind.{EdgeKind}
use Rattle.cfg_blocks.specs.declared.EdgeKind.TheVariants as kinds

-- the conditions of `bn` and `ba`
abbrev pub never : ℕ
never = 0

abbrev pub always : ℕ
always = 8

-- a branch on never has no target
abbrev pub branch_target : Words → ℕ → ℕ → ℤ → Option WordNo
branch_target text word cond disp22 = if cond == never then None else numbered (target_of text word disp22)

abbrev pub end_by : Words → ℕ → Instr → BlockEnd
end_by text word (i.Branch cond annul disp22) =
    ends.Branch cond annul (branch_target text word cond disp22)
end_by text word (i.Call disp30) = ends.Call (numbered (target_of text word disp30))
end_by text word (i.Jmpl rd rs1 op2) = ends.Jump
end_by text word _ = ends.Fall

-- how control leaves a word
unfoldable pub end_at : Words → ℕ → BlockEnd
end_at text word = end_by text word (decode_of (slice_index text.words word))

abbrev pub is_transfer : BlockEnd → Bool
is_transfer ends.Fall = false
is_transfer (ends.Branch cond annul target) = true
is_transfer (ends.Call target) = true
is_transfer ends.Jump = true

-- the word of the text to which a transfer leads
abbrev pub target_in : BlockEnd → Option WordNo
target_in ends.Fall = None
target_in (ends.Branch cond annul target) = target
target_in (ends.Call target) = target
target_in ends.Jump = None

-- ---- the ways out of a word: the kind of each edge, and the word to which it leads, where the text has it

pub record Way : Type 0 where
  pub kind : EdgeKind
  pub to : Option ℕ

-- a word of so many, if it is one
abbrev pub within : ℕ → ℕ → Option ℕ
within count word = if nat_lt word count then Some word else None

abbrev pub number_of : Option WordNo → Option ℕ
number_of None = None
number_of (Some word) = Some word.0

abbrev pub way : EdgeKind → Option ℕ → Way
way kind to = record { kind = kind; to = to }

-- of a text of `count` words
abbrev pub ways_of : ℕ → ℕ → BlockEnd → List Way
ways_of count word ends.Fall = way kinds.Fall (within count (word + 1)) ∷ []
ways_of count word (ends.Branch cond annul target) =
    if cond == always then way kinds.Taken (number_of target) ∷ [] else
    if cond == never then way kinds.Untaken (within count (word + 2)) ∷ [] else
    way kinds.Taken (number_of target) ∷ way kinds.Untaken (within count (word + 2)) ∷ []
ways_of count word (ends.Call target) = way kinds.Call (number_of target) ∷ []
ways_of count word ends.Jump = way kinds.Out None ∷ []
