-- What it is for words to do just a snippet.
use Rattle.std.specs.Prelude.{◌≡◌, ℕ, ◌+◌, ◌-◌, ◌*◌, ◌^◌, ◌<◌, ◌≤◌, ◌⊎◌, Bool, false, List, [], length, None}
use Rattle.v8_decode.specs.declared.Part.{Part}
use Rattle.v8_memory.specs.Regions.{code_of}
use Rattle.v8_step.specs.declared.Slot.TheVariants.{NoSlot}
use Rattle.v8_step.specs.State.{State, register_of}
use Rattle.v8_step.specs.Valid.{IsValid}
use Rattle.v8_step.specs.Items.{StateItem, IsAmong, IsSameAt}
use Rattle.code_runs.specs.Hops.{hopped}
use Rattle.code_runs.specs.Leads.{Leads, IsBetween, IsSilent}
use Rattle.code_runs.specs.Straight.{IsReady, HasWords}
use Rattle.snippets.specs.declared.snippet.Op.{Op}
use Rattle.snippets.specs.Cells.{update}
use Rattle.code_runs.specs.Counted.{count_stores}
use Rattle.code_runs.specs.Code.{CanStore, Stores, any_of_word}
use Rattle.snippet_code.specs.Cells.{cell_at, words_at}
use Rattle.snippet_code.specs.Code.{IsCellOf, kept_word}

-- where a snippet's words may store: in its cells, and in those words of the page
abbrev pub MayStore : ℕ → List Op → ℕ → Type 0
MayStore base ops a =
    ((k : ℕ) × (IsCellOf ops k) × (a ≡ cell_at base k)) ⊎ ((n : ℕ) × (n < 5) × (a ≡ kept_word n))

-- ---- states

-- The words come next, and the snippet's cells and the page's words may be loaded and stored.
pub record IsAboutToRun (words : List ℕ) (base : ℕ) (ops : List Op) (s : State) : Type 0 where
  pub valid : IsValid s
  pub ready : IsReady s
  pub slot : s.slot ≡ NoSlot
  pub low : s.pc + 4 * length words < 2 ^ 32 - 4
  pub stand : HasWords (code_of s.memory) s.pc words
  pub cell : (k : ℕ) → IsCellOf ops k → CanStore s.memory (cell_at base k)
  pub page : (n : ℕ) → n < 5 → CanStore s.memory (kept_word n)

-- Past the last word, in no more steps than words, silently: the cells are updated, only registers, codes or Y that are
-- dead may have changed, and no more than `most` stores were counted, and none where the page's words aren't.
pub record RunsPast (counted : ℕ → Bool) (base : ℕ) (dead : List Part) (ops : List Op) (count most : ℕ)
    (s : State) : Type 0 where
  pub after : State
  pub steps : ℕ
  pub few : steps ≤ count
  pub path : Leads (IsBetween s count (MayStore base ops)) s after steps
  pub silent : IsSilent s steps
  pub stored : count_stores counted s steps ≤ most
  pub elsewhere : ((n : ℕ) → n < 5 → any_of_word counted (kept_word n) ≡ false) → count_stores counted s steps ≡ 0
  pub pc : after.pc ≡ s.pc + 4 * count
  pub npc : after.npc ≡ s.pc + 4 * count + 4
  pub slot : after.slot ≡ NoSlot
  pub live : after.ending ≡ None
  pub window : after.window ≡ s.window
  pub windows : after.valid ≡ s.valid
  pub input : after.input ≡ s.input
  pub registers : length after.registers ≡ 136
  pub items : (item : StateItem) → (IsAmong item s.window dead → ⊥) → IsSameAt item s after
  -- where nothing is dead, all is as it was but the place and memory
  pub all : dead ≡ [] → after ≡ hopped s (s.pc + 4 * count) after.memory
  pub cells : (n : ℕ) → ((k : ℕ) → IsCellOf ops k → k < n) → cell_at base n ≤ 2 ^ 31
      → words_at base n after.memory ≡ update (register_of s) ops (words_at base n s.memory)
  pub stores : Stores (MayStore base ops) s.memory after.memory
  pub code : code_of after.memory ≡ code_of s.memory

-- On every such state, whatever stores are counted that aren't into the snippet's cells.
abbrev pub DoesJust : List ℕ → ℕ → List Part → ℕ → List Op → Type 0
DoesJust words base dead most ops =
    (counted : ℕ → Bool) → ((k : ℕ) → IsCellOf ops k → any_of_word counted (cell_at base k) ≡ false)
    → (s : State) → IsAboutToRun words base ops s → RunsPast counted base dead ops (length words) most s
