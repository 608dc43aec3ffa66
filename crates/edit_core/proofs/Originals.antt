-- What a file that can be edited has, and how many bytes its tables have at most.
use Rattle.edit_core.proofs.Common.{◌≡◌, ℕ, ◌+◌, ◌-◌, ◌*◌, ◌^◌, ◌≤◌, min, List, Option, Some, None, refl, arith, IsText, ProgramHeader, program_headers, fault, highest_end, image_of, accepted, length, Words, option_map_or, text_header, Accepted, IsFit, has_text, text_is_fit, cells_size, tables_size}
use Rattle.elf32_sparc.specs.Image.{text_from, text_of, no_text}

text_is : (file : List ℕ) → Accepted file → (found : Option ProgramHeader) → text_header (program_headers file) ≡ found
    → IsText (option_map_or (text_from file) found no_text)
text_is file ok None none = absurd (has_text file ok none)
text_is file ok (Some h) found = let fit : IsFit file h = text_is_fit file h ok found in fit.text

pub image_text : (file : List ℕ) → fault file ≡ None → IsText (image_of file).text
unfolding image_of text_of
image_text file sound = text_is file (accepted file sound) (text_header (program_headers file)) refl

pub image_room : (file : List ℕ) → (image_of file).room ≡ min (2 ^ 30) (0x80000000 - (image_of file).base)
unfolding image_of
image_room file = refl

-- the base is not below the end of any segment
pub base_above : (file : List ℕ) → highest_end (image_of file).segments ≤ (image_of file).base
unfolding image_of
base_above file = omega arith

pub small_tables : (t : Words) → IsText t → tables_size t ≤ 425984 + 8 * length t.words
small_tables t text = omega (arith, text.few)

-- so they do with the words behind them that have the pieces of Case edges, in whole pages: one for each entry of a table,
-- and no word of the text stands in two
pub room_with_cases : (cells words entries size long more : ℕ) → entries ≤ words → size ≤ 425984 + 8 * words
    → long ≤ 2 ^ 19 + 500 * words + 128 * more
    → cells_size cells + size + cells_size entries + long ≤ 2 ^ 20 + 512 * words + 4 * cells + 128 * more
room_with_cases cells words entries size long more few small fit = omega (arith, few, small, fit)
