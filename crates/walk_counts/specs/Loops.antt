-- The loops about a word, told by each word of the text: the weights of edges tell them from blocks.
use Rattle.std.specs.Prelude.{◌≡◌, ◌≤◌, ℕ, List, length}
use Rattle.eel_base.specs.CodeText.{Words}
use Rattle.flows.specs.Flows.{count_below}
use Rattle.cfg_blocks.specs.Blocks.{blocks_of}
use Rattle.cfg_blocks.specs.Ends.{end_at}
use Rattle.span_tree.specs.Weights.{branch_target, is_between, loops_at}

-- how many words of the text are branches in whose loop the word stands
abbrev pub loops_in : Words → ℕ → ℕ
loops_in text word = count_below (length text.words) (λ last. is_between last word (branch_target (end_at text last)))

-- whatever words lead besides
abbrev pub LoopsAreOfTexts : Type 0
LoopsAreOfTexts =
    (text : Words) (given : List ℕ) (word : ℕ) → 1 ≤ length text.words
    → loops_at (blocks_of text given) word ≡ loops_in text word
