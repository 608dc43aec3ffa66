-- Pieces of words alone.
use Rattle.std.specs.Prelude.{ℕ, List, map}
use Rattle.v8_decode.specs.declared.Instr.{Instr}
use Rattle.code_runs.specs.LongJump.{long_jump}
use Rattle.layout.specs.declared.items.Item.{Item}
use Rattle.layout.specs.declared.items.Item.TheVariants as it
use Rattle.layout.specs.Emitting.{words_of}
use Rattle.jump_code.specs.Leaving.{foreign}

abbrev pub word_items : List Instr → List Item
word_items xs = map it.Word (words_of xs)

-- the piece to which the table leads every address outside the text
abbrev pub foreign_piece : List Item
foreign_piece = word_items foreign

-- a way out of the text to an address that is known
abbrev pub long_jump_piece : ℕ → List Item
long_jump_piece to = word_items (long_jump to)
