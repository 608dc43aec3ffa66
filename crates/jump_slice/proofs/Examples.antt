-- The switch of a small program, and broken programs that have none: they compute.
use Rattle.std.specs.Prelude.{ℕ, List, [], ◌∷◌, ◌≡◌, refl, slice_set}
use Rattle.eel_base.specs.CodeText.{Words}
use Rattle.v8_decode.specs.Words.{decode_of, branch_or_sethi, arithmetic, memory}
use Rattle.cfg_blocks.specs.declared.switches.Switch.{Switch}
use Rattle.cfg_blocks.specs.Blocks.{blocks_of, leaders}
use Rattle.cfg_blocks.specs.Ends.{end_at}
use Rattle.cfg_blocks.specs.Entries.{entered_of, into_of}
use Rattle.cfg_blocks.specs.Values.{after}
use Rattle.cfg_blocks.specs.Switches.{before_jump, switch_of, switches_of}

abbrev pub text_in : List ℕ → Words
text_in words = record { start = 0x10054; words = words }

-- the program of `v8_process`, where it stands in assembly, too
abbrev pub switch_of_four : List ℕ
switch_of_four =
    0x90102003 ∷ 0x80a22003 ∷ 0x1880000c ∷ 0x912a2002 ∷ 0x03000040 ∷ 0x82106078 ∷ 0xc2004008 ∷ 0x81c04000
    ∷ 0x01000000 ∷ 0x0001008c ∷ 0x0001008c ∷ 0x0001008c ∷ 0x00010088 ∷ 0x90102005 ∷ 0x82102001 ∷ 0x91d02010 ∷ []

-- all switches of a program that starts at its first word
unfoldable pub switches_in : List ℕ → List Switch
unfolding decode_of branch_or_sethi arithmetic memory blocks_of leaders end_at entered_of into_of after before_jump switch_of
switches_in words = switches_of (text_in words) (entered_of (text_in words) (0 ∷ [])) 0

-- the third block, words 4 to 7, holds the jump
pub four : switches_in switch_of_four
    ≡ record { jump = record { 0 = 7 }; compare = record { 0 = 0 }; table = record { 0 = 0x10078 }; count = 4 } ∷ []
unfolding switches_in
four = refl

-- a branch at word 15 leads to the jump's block too
second_way : switches_in (slice_set switch_of_four 15 0x10bffff5) ≡ []
unfolding switches_in
second_way = refl

-- `bgu` is `bleu`
other_branch : switches_in (slice_set switch_of_four 2 0x0880000c) ≡ []
unfolding switches_in
other_branch = refl

-- the shift is by 3
other_shift : switches_in (slice_set switch_of_four 3 0x912a2003) ≡ []
unfolding switches_in
other_shift = refl

-- the limit is 4, and the word after the table no address of the text
one_more : switches_in (slice_set switch_of_four 1 0x80a22004) ≡ []
unfolding switches_in
one_more = refl

-- the last word of the table is no address of a word
odd_entry : switches_in (slice_set switch_of_four 12 0x00010089) ≡ []
unfolding switches_in
odd_entry = refl

-- the annulled slot isn't run, so that the index isn't shifted
annulled : switches_in (slice_set switch_of_four 2 0x3880000c) ≡ []
unfolding switches_in
annulled = refl

-- the comparison writes its own register
loses_index : switches_in (slice_set switch_of_four 1 0x90a22003) ≡ []
unfolding switches_in
loses_index = refl
