-- What a run still needs, and which bytes its steps judge.
use Rattle.std.specs.Prelude.{◌≡◌, ℕ, ◌<◌, ◌≤◌, ◌⊎◌, true, List, [], Option, Some, None}
use Rattle.v8_decode.specs.declared.Instr.{Instr}
use Rattle.v8_decode.specs.Effects.{reads_of, writes_of, reads_all}
use Rattle.v8_decode.specs.Words.{decode_of}
use Rattle.v8_memory.specs.Regions.{fetch_of}
use Rattle.v8_memory.specs.Spans.{Span, IsApartFromAll, AllApart}
use Rattle.v8_step.specs.declared.Ending.{Ending}
use Rattle.v8_step.specs.State.{State}
use Rattle.v8_step.specs.Run.{run}
use Rattle.v8_step.specs.Items.{StateItem, IsItem, IsAmong}
use Rattle.v8_step.specs.Judged.{judged_by}

-- ---- the instruction that the next step carries out, where there is one

abbrev pub decoded : Option Ending → Option ℕ → Option Instr
decoded None (Some word) = Some (decode_of word)
decoded None None = None
decoded (Some ending) word = None

abbrev pub instr_at : State → Option Instr
instr_at s = decoded s.ending (fetch_of s.memory s.pc)

-- ---- needed items

abbrev pub ReadsIn : Option Instr → ℕ → StateItem → Type 0
ReadsIn None window item = ⊥
ReadsIn (Some instr) window item = (reads_all instr ≡ true) ⊎ IsAmong item window (reads_of instr)

abbrev pub WritesIn : Option Instr → ℕ → StateItem → Type 0
WritesIn None window item = ⊥
WritesIn (Some instr) window item = IsAmong item window (writes_of instr)

-- the next step reads the item, or writes it
abbrev pub Reads : State → StateItem → Type 0
Reads s item = ReadsIn (instr_at s) s.window item

abbrev pub Writes : State → StateItem → Type 0
Writes s item = WritesIn (instr_at s) s.window item

-- After n steps an item is needed where a later step reads it, and no step before that one writes it.
pub record IsNeeded (s0 : State) (n : ℕ) (item : StateItem) : Type 0 where
  pub is_item : IsItem item
  pub reader : ℕ
  pub later : n ≤ reader
  pub reads : Reads (run s0 reader) item
  pub kept : (k : ℕ) → n ≤ k → k < reader → ¬ Writes (run s0 k) item

-- ---- touches

-- the bytes that the next step judges
abbrev pub judged_in : State → Option Instr → List Span
judged_in s None = []
judged_in s (Some instr) = judged_by s instr

-- pages that n steps of a run don't touch: no state is in them, and no step judges one of their bytes
pub record IsUntouched (pages : List Span) (s0 : State) (n : ℕ) : Type 0 where
  pub outside : (k : ℕ) → k ≤ n → IsApartFromAll pages (record { from = (run s0 k).pc; count = 1 })
  pub unjudged : (k : ℕ) → k < n → AllApart pages (judged_in (run s0 k) (instr_at (run s0 k)))
