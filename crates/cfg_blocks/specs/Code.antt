-- What contracts of this crate's code and laws cite beyond the statement.
use Rattle.std.specs.Prelude.{ℕ, ◌<◌, IfSome, List, ◌∷◌, length, map, option_to_list, slice_index, Option, ◌≡◌, ◌≤◌, ◌^◌}
use Rattle.std.specs.List.{All}
use Rattle.cfg_blocks.specs.declared.BlockEnd.{BlockEnd}
use Rattle.cfg_blocks.specs.declared.WayOut.{WayOut}
use Rattle.cfg_blocks.specs.Ends.{Way, target_in}
use Rattle.cfg_blocks.specs.Entries.{Entered}

-- where a transfer leads to a word, that is one of so many
abbrev pub TargetsWithin : ℕ → BlockEnd → Type 0
TargetsWithin words end = IfSome (target_in end) (λ word. word.0 < words)

abbrev pub IsAscending : List ℕ → Type 0
IsAscending xs = (i j : ℕ) → i < j → j < length xs → slice_index xs i < slice_index xs j

-- What the first words of blocks are: at least one, no more than words, from word 0 on, in ascending order,
-- words of the text.
pub record AreFirsts (words : ℕ) (firsts : List ℕ) : Type 0 where
  pub some : 1 ≤ length firsts
  pub few : length firsts ≤ words
  pub begin : slice_index firsts 0 ≡ 0
  pub ascend : IsAscending firsts
  pub within : (i : ℕ) → i < length firsts → slice_index firsts i < words

-- What is true of each list of blocks.
pub record IsBlockList (list : Entered) : Type 0 where
  pub firsts : AreFirsts list.blocks.words list.blocks.firsts
  pub ends : length list.blocks.ends ≡ length list.blocks.firsts
  pub targets : All (TargetsWithin list.blocks.words) list.blocks.ends
  pub intos : length list.intos ≡ length list.blocks.firsts
  pub few : list.blocks.words ≤ 2 ^ 20

-- the ways out of a block that are told as one and perhaps another
abbrev pub way_of : WayOut → Way
way_of way = record { kind = way.kind; to = way.to }

abbrev pub ways_in : WayOut → Option WayOut → List Way
ways_in one other = way_of one ∷ map way_of (option_to_list other)
