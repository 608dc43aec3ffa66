-- The words of the editor's page that are used on the way of a jump: word 0 by long jumps, word 1 for the target, and
-- word 2 for a register that is used meanwhile. From the look-up to the jump behind the slot's copy word 7 has what was
-- found: the words between are those of snippets. At a switch word 0 has the address of its load, from there to the
-- jump, which looks nothing up: word 7 serves for a second register.
use Rattle.std.specs.Prelude.{ℕ, ◌<◌, List, [], ◌∷◌}
use Rattle.v8_memory.specs.Regions.{Memory}
use Rattle.v8_step.specs.State.{State}
use Rattle.code_runs.specs.Ours.{IsAmongWords}
use Rattle.code_runs.specs.Page.{page_word}
use Rattle.code_runs.specs.StoredWords.{memory_word}
use Rattle.code_runs.specs.Code.{CanStore}

abbrev pub page_words : List ℕ
page_words = page_word 0 ∷ page_word 1 ∷ page_word 2 ∷ page_word 7 ∷ []

abbrev pub IsPageWord : ℕ → Type 0
IsPageWord = IsAmongWords page_words

-- each of the words below `count` can be loaded and stored
abbrev pub HasPage : ℕ → Memory → Type 0
HasPage count m = (n : ℕ) → n < count → CanStore m (page_word n)

-- the address that waits in word 1
abbrev pub waiting : State → ℕ
waiting s = memory_word s.memory (page_word 1)

-- the address that was found, in word 7
abbrev pub found_there : State → ℕ
found_there s = memory_word s.memory (page_word 7)

-- the address that was kept at the load of a switch, in word 0
abbrev pub saved_address : State → ℕ
saved_address s = memory_word s.memory (page_word 0)
