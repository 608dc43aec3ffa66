-- What was read of a file without a fault is its image.
use Rattle.elf32_sparc.proofs.Common.{◌≡◌, ℕ, ◌-◌, ◌/◌, ◌≤◌, List, length, map, Option, Some, None, refl, sym, ap, ◌∙◌, subst, arith, option_map_or, Words, ProgramHeader, Segment, e_entry, program_headers, loadable, text_header, fault, Func, funcs_of, no_survey, survey_of, segment_of, highest_end, rounded_up, room_from, text_from, text_of, no_text, word_number, Program, image_of}
use Rattle.elf32_sparc.specs.Code.{IsProgram}
use Rattle.elf32_sparc.proofs.SurveyFacts.{fold-text}
use Rattle.elf32_sparc.proofs.Functions.{funcs-inside}
use Rattle.elf32_sparc.proofs.Accepted.{Accepted, IsFit, accepted, has_text, text_is_fit, segments_end_below}

pub text-survey_of : (file : List ℕ) → (survey_of file).text ≡ text_header (program_headers file)
unfolding survey_of
text-survey_of file = fold-text (length file) no_survey (program_headers file)

text_of-found : (file : List ℕ) (h : ProgramHeader) → text_header (program_headers file) ≡ Some h → text_from file h ≡ text_of file
unfolding text_of
text_of-found file h found = ap (λ o. option_map_or (text_from file) o no_text) (sym found)

-- the parts that were read
pub record IsRead (file : List ℕ) (h : ProgramHeader) (segments : List Segment) (text : Words) (funcs : List Func) (entry base : ℕ) : Type 0 where
  pub found : text_header (program_headers file) ≡ Some h
  pub segments_are : segments ≡ map segment_of (loadable (program_headers file))
  pub text_is : text ≡ text_from file h
  pub funcs_are : funcs ≡ funcs_of file text
  pub entry_is : entry ≡ (e_entry file - h.p_vaddr) / 4
  pub base_is : base ≡ rounded_up (highest_end segments)

pub is_read : (file : List ℕ) (h : ProgramHeader) (segments : List Segment) (text : Words) (funcs : List Func) (address base : ℕ)
    → text_header (program_headers file) ≡ Some h → segments ≡ map segment_of (loadable (program_headers file)) → text ≡ text_from file h
    → funcs ≡ funcs_of file text → address ≡ e_entry file → base ≡ rounded_up (highest_end segments)
    → IsRead file h segments text funcs ((address - h.p_vaddr) / 4) base
is_read file h segments text funcs address base found segments_are text_is funcs_are entry_is base_is =
    assumption (ap (λ e. (e - h.p_vaddr) / 4) entry_is)

abbrev program : List Segment → Words → List Func → ℕ → ℕ → Program
program segments text funcs entry base = record { segments = segments; text = text; funcs = funcs; entry = entry; base = base; room = room_from base }

pub image_is : (file : List ℕ) (h : ProgramHeader) (segments : List Segment) (text : Words) (funcs : List Func) (entry base : ℕ) → IsRead file h segments text funcs entry base → program segments text funcs entry base ≡ image_of file
unfolding image_of text_from
image_is file h segments text funcs entry base read =
    let text_found : text ≡ text_of file = read.text_is ∙ text_of-found file h read.found in
    let start : h.p_vaddr ≡ (text_of file).start = ap (λ t. t.start) (text_of-found file h read.found) in
    let entry_found : entry ≡ word_number (text_of file) (e_entry file) = read.entry_is ∙ ap (λ s. (e_entry file - s) / 4) start in
    let base_found = read.base_is ∙ ap (λ s. rounded_up (highest_end s)) read.segments_are in
    let funcs_found : funcs ≡ funcs_of file (text_of file) = read.funcs_are ∙ ap (funcs_of file) text_found in
    rw (read.segments_are, text_found, funcs_found, entry_found, base_found)

pub image_is_program : (file : List ℕ) (h : ProgramHeader) (segments : List Segment) (text : Words) (funcs : List Func) (entry base : ℕ) → IsFit file h → highest_end segments ≤ 0x80000000 → IsRead file h segments text funcs entry base → IsProgram (program segments text funcs entry base)
unfolding text_from
image_is_program file h segments text funcs entry base fit ends read =
    record {
      entry = rw (read.text_is, read.entry_is) fit.entry;
      funcs = rw read.funcs_are (funcs-inside file text);
      base = rw read.base_is (omega arith);
      below = rw read.base_is (omega arith);
    }

-- the image of a file without a fault is one
with_text : (file : List ℕ) → Accepted file → (found : Option ProgramHeader) → text_header (program_headers file) ≡ found → IsProgram (image_of file)
with_text file ok None none = absurd (has_text file ok none)
with_text file ok (Some h) found =
    let segments = map segment_of (loadable (program_headers file)) in
    let read : IsRead file h segments (text_from file h) (funcs_of file (text_from file h)) ((e_entry file - h.p_vaddr) / 4) (rounded_up (highest_end segments)) = record { found = found; segments_are = refl; text_is = refl; funcs_are = refl; entry_is = refl; base_is = refl } in
    subst IsProgram (image_is file h segments (text_from file h) (funcs_of file (text_from file h)) ((e_entry file - h.p_vaddr) / 4) (rounded_up (highest_end segments)) read)
    (image_is_program file h segments (text_from file h) (funcs_of file (text_from file h)) ((e_entry file - h.p_vaddr) / 4) (rounded_up (highest_end segments)) (text_is_fit file h ok found) (segments_end_below file ok) read)

pub accepted-program : (file : List ℕ) → fault file ≡ None → IsProgram (image_of file)
accepted-program file none = with_text file (accepted file none) (text_header (program_headers file)) refl
